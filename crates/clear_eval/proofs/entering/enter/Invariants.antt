use Rattle.std.proofs.Common.{◌≡◌, ◌<◌, ℕ, length, get_or}
use Rattle.std.specs.Prelude.{map}
use Rattle.language_model.specs.Evaluation.{entered, nothing}
use Rattle.value_steps.specs.Views.{value_seen}
use Rattle.clear_eval.proofs.entering.enter.Given as goal

abbrev pub invariant-loop-number : goal.invariant-loop-number
invariant-loop-number l = record {
  slots : length l.frame.items ≡ l.number;
  frame : (k : ℕ) → k < l.number → get_or (map value_seen l.frame.items) k nothing ≡ entered l.binding l.slots (map value_seen l.fn.arguments.items) k;
}
