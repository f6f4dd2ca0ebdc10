use Rattle.std.proofs.Common.{◌≡◌, ◌≤◌, ◌*◌, take}
use Rattle.std.specs.Prelude.{map, sum}
use Rattle.language_model.specs.Evaluation.{array_elements}
use Rattle.value_steps.specs.Views.{value_seen}
use Rattle.clear_eval.proofs.calling.array_elements.Given as goal

abbrev pub invariant-loop-argument : goal.invariant-loop-argument
invariant-loop-argument l = record {
  count : l.count ≡ sum (map array_elements (map value_seen (take l.argument-index l.arguments)));
  small : l.count ≤ 1048576 * l.argument-index;
}
