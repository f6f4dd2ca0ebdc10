-- Cited by private functions alone: no contract of another crate rests on it.
-- What expressions and statements do where they stand, and when they name only what is there.
use Rattle.std.specs.Prelude.{◌≡◌, ℕ, ◌+◌, ◌≤◌, Bool, Some, List, map, length}
use Rattle.std.specs.List.{slice_get}
use Rattle.program_trees.specs.declared.typed_expression.TypedExpression.{TypedExpression}
use Rattle.program_trees.specs.declared.typed_statement.TypedStatement.{TypedStatement}
use Rattle.program_trees.specs.TypedTree.{TypedTree, typed_tree, typed_trees_of}
use Rattle.program_trees.specs.TypedStatements.{typed_statement, typed_statements_of}
use Rattle.program_trees.specs.Sound.{IsSoundTree, AreSoundTrees, IsSoundStatementTree, AreSoundStatementTrees, parameters_of, AreSoundFunctions}
use Rattle.program_trees.specs.declared.typed_function.TypedFunction.{TypedFunction}
use Rattle.program_trees.specs.TypedPrograms.{TypedFunctionTree, typed_function_tree}
use Rattle.reached_instances.specs.declared.instance.BoundDomain.{BoundDomain}
use Rattle.reached_instances.specs.Views.{setting}
use Rattle.language_model.specs.Effects.{Effect, carry}
use Rattle.language_model.specs.Values.{Value}
use Rattle.language_model.specs.Operations.{wanted, tested}
use Rattle.language_model.specs.Evaluation.{Frame, Flow, either, value, execute, execute_all, turns, repeats, body_of, call_at}
use Rattle.value_steps.specs.declared.value.Value as held
use Rattle.value_steps.specs.declared.world.World as fixed
use Rattle.value_steps.specs.Views.{world_seen}
use Rattle.clear_eval.specs.declared.place.Around.{Around}
use Rattle.clear_eval.specs.declared.place.StatementContext as standing
use Rattle.clear_eval.specs.inner.Views.{frame_seen, place_seen, functions_around, calls_from}

-- what an expression and a statement do, with these values in the slots
abbrev pub value_of : Around → TypedExpression → Frame → Effect Value
value_of around e = value (world_seen around.world.now) (calls_from around) (setting around.at.here) (typed_tree e)

abbrev pub flow_of : Around → TypedStatement → Frame → Effect Flow
flow_of around s = execute (world_seen around.world.now) (calls_from around) (place_seen around.at) (typed_statement s)

abbrev pub node_at : Around → List held.Value → TypedTree → Effect Value
node_at around frame e = value (world_seen around.world.now) (calls_from around) (setting around.at.here) e (frame_seen frame)

abbrev pub evaluation_at : Around → List held.Value → TypedExpression → Effect Value
evaluation_at around frame e = value_of around e (frame_seen frame)

-- an expression's value, wanted as a private one or as it is
abbrev pub wanted_at : Around → List held.Value → Bool → TypedExpression → Effect Value
wanted_at around frame private e s = carry (evaluation_at around frame e s) (wanted private)

-- a condition
abbrev pub test_at : Around → List held.Value → TypedExpression → Effect Bool
test_at around frame e s = carry (evaluation_at around frame e s) tested

abbrev pub flow_at : Around → List held.Value → TypedStatement → Effect Flow
flow_at around frame s = flow_of around s (frame_seen frame)

abbrev pub flow_of_all : Around → List held.Value → List TypedStatement → Effect Flow
flow_of_all around frame ss =
    execute_all (world_seen around.world.now) (calls_from around) (place_seen around.at) (typed_statements_of (map typed_statement ss)) (frame_seen frame)

abbrev pub branch_at : Around → List held.Value → TypedExpression → (first second : TypedStatement) → Effect Flow
branch_at around frame e first second s = carry (test_at around frame e s) (λ t. either t (flow_at around frame first) (flow_at around frame second))

-- a loop begins with as many turns before it as there can be: each is charged
abbrev pub turns_at : Around → List held.Value → TypedExpression → (step body : TypedStatement) → Effect Flow
turns_at around frame e step body = λ s. turns (s.left + 1) (value_of around e) (flow_of around step) (flow_of around body) (frame_seen frame) s

abbrev pub repeats_at : Around → List held.Value → TypedExpression → (body : TypedStatement) → Effect Flow
repeats_at around frame e body = λ s. repeats (s.left + 1) (value_of around e) (flow_of around body) (frame_seen frame) s

-- the body of a function, with room for so many calls inside one another
abbrev pub body_at : fixed.World → List TypedFunction → (depth number : ℕ) → List BoundDomain → List Value → Effect Value
body_at w functions depth number binding arguments =
    let fs = map typed_function_tree functions in
    body_of (world_seen w) (call_at (world_seen w) fs depth) fs (slice_get fs number) binding arguments

-- the function of a number is there, and has slots for so many arguments
pub record HasRoomFor (functions : List TypedFunction) (number count : ℕ) : Type 0 where
  pub function : TypedFunction
  pub there : slice_get functions number ≡ Some function
  pub slots : count ≤ length function.slots.items

abbrev pub AreSoundAmong : List TypedFunctionTree → Type 0
AreSoundAmong fs = AreSoundFunctions (map parameters_of fs) fs

-- all functions name only what is there
abbrev pub IsSoundAround : standing.StatementContext → Type 0
IsSoundAround at = AreSoundAmong (functions_around at)

-- how many parameters each function has
abbrev pub parameters_around : standing.StatementContext → List ℕ
parameters_around at = map parameters_of (functions_around at)

abbrev pub IsSoundNode : standing.StatementContext → List held.Value → TypedTree → Type 0
IsSoundNode at frame e = IsSoundTree (length frame) (parameters_around at) e

-- an expression and so on names only slots of this frame, and functions that are there
abbrev pub IsSoundIn : standing.StatementContext → List held.Value → TypedExpression → Type 0
IsSoundIn at frame e = IsSoundTree (length frame) (parameters_around at) (typed_tree e)

abbrev pub AreSoundIn : standing.StatementContext → List held.Value → List TypedExpression → Type 0
AreSoundIn at frame es = AreSoundTrees (length frame) (parameters_around at) (typed_trees_of (map typed_tree es))

abbrev pub IsSoundStatement : standing.StatementContext → List held.Value → TypedStatement → Type 0
IsSoundStatement at frame s = IsSoundStatementTree (length frame) (parameters_around at) (typed_statement s)

abbrev pub AreSoundStatements : standing.StatementContext → List held.Value → List TypedStatement → Type 0
AreSoundStatements at frame ss = AreSoundStatementTrees (length frame) (parameters_around at) (typed_statements_of (map typed_statement ss))
