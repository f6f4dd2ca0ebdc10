use Rattle.std.proofs.Common.{◌≡◌, map, take}
use Rattle.bytecode.specs.InMemory.{raw_instruction}
use Rattle.bytecode.proofs.copy.copy_body.Given as goal

abbrev pub invariant-loop-instruction : goal.invariant-loop-instruction
invariant-loop-instruction l = map raw_instruction l.copies.items ≡ map raw_instruction (take l.instruction-index l.body)
