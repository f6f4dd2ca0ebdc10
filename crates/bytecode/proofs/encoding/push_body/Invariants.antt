use Rattle.std.proofs.Common.{◌≡◌, ◌++◌, take}
use Rattle.std.specs.List.{flat_map}
use Rattle.bytecode.specs.Written.{bytes_of, instruction_numbers}
use Rattle.bytecode.specs.InMemory.{raw_instruction}
use Rattle.bytecode.proofs.encoding.push_body.Given as goal

abbrev pub invariant-loop-instruction : goal.invariant-loop-instruction
invariant-loop-instruction l =
    l.text.items ≡ l.initial.text.items ++ bytes_of (flat_map (λ i. instruction_numbers (raw_instruction i)) (take l.instruction-index l.body))
