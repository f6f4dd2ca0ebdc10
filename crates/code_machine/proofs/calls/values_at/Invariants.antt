use Rattle.std.proofs.Common.{◌≡◌, take}
use Rattle.std.specs.Prelude.{map}
use Rattle.named_values.specs.Machine.{values_at}
use Rattle.value_steps.specs.Views.{value_seen}
use Rattle.code_machine.specs.Views.{registers_seen}
use Rattle.code_machine.proofs.calls.values_at.Given as goal

abbrev pub invariant-loop-argument : goal.invariant-loop-argument
invariant-loop-argument l =
    map value_seen l.values.items ≡ values_at (registers_seen l.machine.registers.items) (map (λ r. r.0) (take l.argument-index l.arguments))
