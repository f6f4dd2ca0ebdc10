use Rattle.std.proofs.Common.{◌≡◌, ◌+◌, ◌≤◌, ◌++◌, length, drop}
use Rattle.std.specs.Prelude.{map}
use Rattle.program_trees.specs.TypedTree.{typed_tree, typed_trees_of}
use Rattle.program_trees.specs.TypedStatements.{typed_statement, typed_statements_of}
use Rattle.program_trees.specs.TypedPrograms.{typed_function_tree}
use Rattle.reached_instances.specs.Views.{setting}
use Rattle.language_model.specs.Effects.{carry, done}
use Rattle.language_model.specs.Evaluation.{arguments, execute_all}
use Rattle.value_steps.specs.Views.{value_seen, stage_seen, world_seen}
use Rattle.clear_eval.specs.inner.Views.{frame_seen, place_seen, calls_from}
use Rattle.clear_eval.specs.inner.Standing.{value_of, flow_of}
use Rattle.clear_eval.specs.inner.Measures.{weight, weight_of_all, statement_weight, statements_weight, work}
use Rattle.clear_eval.proofs.Loops.{Turns, Repeats}
use Rattle.clear_eval.proofs.Work.{work_around}
use Rattle.clear_eval.proofs.evaluation.+evaluation.Given as goal

abbrev pub decreases-value : goal.decreases-value
decreases-value l = work_around l.around.now (weight (typed_tree l.e.now))

abbrev pub decreases-operand : goal.decreases-operand
decreases-operand l = work_around l.around.now (weight (typed_tree l.e.now) + 1)

abbrev pub decreases-on_value : goal.decreases-on_value
decreases-on_value l = work_around l.around.now (weight (typed_tree l.x.now) + 3)

abbrev pub decreases-on_values : goal.decreases-on_values
decreases-on_values l = work_around l.around.now (weight (typed_tree l.x.now) + weight (typed_tree l.y.now) + 3)

abbrev pub decreases-value_wanted : goal.decreases-value_wanted
decreases-value_wanted l = work_around l.around.now (weight (typed_tree l.e.now) + 1)

abbrev pub decreases-on_arrays : goal.decreases-on_arrays
decreases-on_arrays l = work_around l.around.now (weight (typed_tree l.arrays.left.now) + weight (typed_tree l.arrays.right.now) + 3)

abbrev pub decreases-connected : goal.decreases-connected
decreases-connected l = work_around l.around.now (weight (typed_tree l.x.now) + weight (typed_tree l.y.now) + 3)

abbrev pub decreases-not_cut_short : goal.decreases-not_cut_short
decreases-not_cut_short l = work_around l.around.now (weight (typed_tree l.right.now) + 1)

abbrev pub decreases-cut_short : goal.decreases-cut_short
decreases-cut_short l = work_around l.around.now (weight (typed_tree l.right.now) + 1)

abbrev pub decreases-arguments : goal.decreases-arguments
decreases-arguments l = work_around l.around.now (weight_of_all (typed_trees_of (map typed_tree l.list.now.items)) + 1)

abbrev pub decreases-call : goal.decreases-call
decreases-call l = work_around l.around.now (weight_of_all (typed_trees_of (map typed_tree l.list.now.items)) + 3)

abbrev pub decreases-called : goal.decreases-called
decreases-called l = work_around l.around.now 1

abbrev pub decreases-body : goal.decreases-body
decreases-body l = work (map typed_function_tree l.callee.now.functions.now) (l.callee.now.depth + 1) 0

abbrev pub decreases-statement : goal.decreases-statement
decreases-statement l = work_around l.around.now (statement_weight (typed_statement l.s.now))

abbrev pub decreases-one_within : goal.decreases-one_within
decreases-one_within l = work_around l.around.now (weight (typed_tree l.x.now) + 3)

abbrev pub decreases-two_within : goal.decreases-two_within
decreases-two_within l = work_around l.around.now (weight (typed_tree l.x.now) + weight (typed_tree l.y.now) + 3)

abbrev pub decreases-holds : goal.decreases-holds
decreases-holds l = work_around l.around.now (weight (typed_tree l.condition.now) + 1)

abbrev pub decreases-branch : goal.decreases-branch
decreases-branch l = work_around l.around.now
    (weight (typed_tree l.condition.now) + statement_weight (typed_statement l.first.now) + statement_weight (typed_statement l.second.now) + 3)

abbrev pub decreases-statements : goal.decreases-statements
decreases-statements l = work_around l.around.now (statements_weight (typed_statements_of (map typed_statement l.list.now.items)))

abbrev pub decreases-turns : goal.decreases-turns
decreases-turns l = work_around l.around.now
    (weight (typed_tree l.condition.now) + statement_weight (typed_statement l.step.now) + statement_weight (typed_statement l.body.now) + 2)

abbrev pub decreases-repeats : goal.decreases-repeats
decreases-repeats l = work_around l.around.now (statement_weight (typed_statement l.body.now) + weight (typed_tree l.condition.now) + 2)

abbrev pub invariant-arguments-loop-e : goal.invariant-arguments-loop-e
invariant-arguments-loop-e l = record {
  each : length l.values.items ≡ l.e-index;
  spends : l.stage.left ≤ l.initial.stage.left;
  step : arguments (world_seen l.around.world.now) (calls_from l.around) (setting l.around.at.here) l.binding l.slots
      (typed_trees_of (map typed_tree l.e-items)) (frame_seen l.frame.items) (stage_seen l.initial.stage)
      ≡ carry (arguments (world_seen l.around.world.now) (calls_from l.around) (setting l.around.at.here) l.binding (drop l.e-index l.slots)
      (typed_trees_of (map typed_tree (drop l.e-index l.e-items))) (frame_seen l.frame.items) (stage_seen l.stage))
      (λ xs. done (map value_seen l.values.items ++ xs));
}

abbrev pub invariant-statements-loop-s : goal.invariant-statements-loop-s
invariant-statements-loop-s l = record {
  slots : length l.frame.items ≡ length l.initial.frame.items;
  spends : l.stage.left ≤ l.initial.stage.left;
  step : execute_all (world_seen l.around.world.now) (calls_from l.around) (place_seen l.around.at) (typed_statements_of (map typed_statement l.s-items))
      (frame_seen l.initial.frame.items) (stage_seen l.initial.stage)
      ≡ execute_all (world_seen l.around.world.now) (calls_from l.around) (place_seen l.around.at)
      (typed_statements_of (map typed_statement (drop l.s-index l.s-items))) (frame_seen l.frame.items) (stage_seen l.stage);
}

abbrev pub invariant-turns-loop-again : goal.invariant-turns-loop-again
invariant-turns-loop-again l = record {
  slots : length l.frame.items ≡ length l.initial.frame.items;
  spends : l.stage.left ≤ l.initial.stage.left;
  turns : Turns (value_of l.around l.condition)
      (flow_of l.around l.step)
      (flow_of l.around l.body)
      (frame_seen l.initial.frame.items) (stage_seen l.initial.stage) (frame_seen l.frame.items) (stage_seen l.stage);
}

abbrev pub decreases-turns-loop-again : goal.decreases-turns-loop-again
decreases-turns-loop-again l = l.stage.left

abbrev pub invariant-repeats-loop-flow : goal.invariant-repeats-loop-flow
invariant-repeats-loop-flow l = record {
  slots : length l.frame.items ≡ length l.initial.frame.items;
  spends : l.stage.left ≤ l.initial.stage.left;
  turns : Repeats (value_of l.around l.condition)
      (flow_of l.around l.body)
      (frame_seen l.initial.frame.items) (stage_seen l.initial.stage) (frame_seen l.frame.items) (stage_seen l.stage);
}

abbrev pub decreases-repeats-loop-flow : goal.decreases-repeats-loop-flow
decreases-repeats-loop-flow l = l.stage.left
