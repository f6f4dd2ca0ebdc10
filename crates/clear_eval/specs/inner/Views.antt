-- Cited by private functions alone: no contract of another crate rests on it.
-- What the types of an evaluation stand for.
use Rattle.std.specs.Prelude.{List, map, get_or, Vec}
use Rattle.std.specs.declared.alloc.Global.{Global}
use Rattle.program_trees.specs.TypedPrograms.{TypedFunctionTree, typed_function_tree}
use Rattle.reached_instances.specs.Views.{setting}
use Rattle.language_model.specs.Values.{Value}
use Rattle.language_model.specs.Evaluation.{Frame, Calls, Flow, goes, returns, stops, skips, StatementContext, nothing, call_at}
use Rattle.value_steps.specs.declared.value.Value as held
use Rattle.value_steps.specs.Views.{value_seen, world_seen}
use Rattle.clear_eval.specs.declared.place.Around.{Around}
use Rattle.clear_eval.specs.declared.place.StatementContext as standing
use Rattle.clear_eval.specs.declared.flow.Flow as going
use Rattle.clear_eval.specs.declared.flow.Flow.TheVariants as flow
use Rattle.clear_eval.specs.declared.held.Held as operand
use Rattle.clear_eval.specs.declared.held.Held.TheVariants.{Lent, Own}

-- the values in a function's slots; where no slot is, nothing is kept
unfoldable pub frame_seen : List held.Value → Frame
frame_seen vs k = get_or (map value_seen vs) k nothing

-- where a function goes on, with these values in its slots
abbrev pub flow_seen : List held.Value → going.Flow → Flow
flow_seen vs flow.Goes = goes (frame_seen vs)
flow_seen vs (flow.Returns v) = returns (value_seen v)
flow_seen vs flow.Stops = stops (frame_seen vs)
flow_seen vs flow.Skips = skips (frame_seen vs)

abbrev pub values_seen : Vec held.Value Global → List Value
values_seen vs = map value_seen vs.items

abbrev pub held_seen : operand.Held → Value
held_seen (Lent v) = value_seen v.now
held_seen (Own v) = value_seen v

abbrev pub place_seen : standing.StatementContext → StatementContext
place_seen at = record { here = setting at.here; secret_result = at.private_result }

abbrev pub functions_around : standing.StatementContext → List TypedFunctionTree
functions_around at = map typed_function_tree at.here.functions.now

-- the calls that a place has room for
abbrev pub calls_from : Around → Calls
calls_from around = call_at (world_seen around.world.now) (functions_around around.at) around.at.depth
