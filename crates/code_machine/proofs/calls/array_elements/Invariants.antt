use Rattle.std.proofs.Common.{◌≡◌, ◌≤◌, ◌*◌, take}
use Rattle.std.specs.Prelude.{map, sum}
use Rattle.language_model.specs.Evaluation.{array_elements}
use Rattle.named_values.specs.Machine.{values_at}
use Rattle.code_machine.specs.Views.{registers_seen}
use Rattle.code_machine.proofs.calls.array_elements.Given as goal

abbrev pub invariant-loop-argument : goal.invariant-loop-argument
invariant-loop-argument l = record {
  count : l.count ≡ sum (map array_elements (values_at (registers_seen l.machine.registers.items) (map (λ r. r.0) (take l.argument-index l.arguments))));
  small : l.count ≤ 1048576 * l.argument-index;
}
