use Rattle.std.proofs.Common.{◌≡◌, ◌<◌, ℕ, length, get_or}
use Rattle.std.specs.Prelude.{map}
use Rattle.language_model.specs.Evaluation.{nothing}
use Rattle.named_values.specs.Machine.{filled_with}
use Rattle.value_steps.specs.Views.{value_seen}
use Rattle.code_machine.proofs.begin.filled.Given as goal

abbrev pub invariant-loop-number : goal.invariant-loop-number
invariant-loop-number l = record {
  count : length l.registers.items ≡ l.number;
  values : (k : ℕ) → k < l.number → get_or (map value_seen l.registers.items) k nothing ≡ filled_with l.kinds (map value_seen l.fn.arguments.items) k;
}
