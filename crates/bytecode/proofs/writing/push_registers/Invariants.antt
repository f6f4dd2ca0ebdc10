use Rattle.std.proofs.Common.{◌≡◌, ◌++◌, map, take}
use Rattle.bytecode.specs.Written.{bytes_of, short}
use Rattle.bytecode.proofs.writing.push_registers.Given as goal

abbrev pub invariant-loop-register : goal.invariant-loop-register
invariant-loop-register l = l.text.items ≡ l.initial.text.items ++ bytes_of (map (λ r. short r.0) (take l.register-index l.registers))
