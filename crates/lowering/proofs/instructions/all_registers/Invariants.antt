use Rattle.std.proofs.Common.{◌≡◌, take}
use Rattle.std.specs.Prelude.{map}
use Rattle.lowering.specs.Narrow.{capped}
use Rattle.lowering.proofs.instructions.all_registers.Given as goal

abbrev pub invariant-loop-number : goal.invariant-loop-number
invariant-loop-number l = map (λ r. r.0) l.registers.items ≡ map capped (take l.number-index l.numbers)
