use Rattle.std.proofs.Common.{◌≡◌, drop}
use Rattle.code_machine.specs.Named.{is_in}
use Rattle.code_machine.proofs.named.is_in.Given as goal

abbrev pub invariant-loop-value : goal.invariant-loop-value
invariant-loop-value l = is_in l.registers l.number ≡ is_in (drop l.value-index l.registers) l.number
