use Rattle.std.proofs.Common.{◌≡◌, ◌++◌, take}
use Rattle.std.specs.List.{flat_map}
use Rattle.bytecode.specs.Written.{bytes_of, head_numbers}
use Rattle.bytecode.specs.InMemory.{raw_function}
use Rattle.bytecode.proofs.encoding.push_heads.Given as goal

abbrev pub invariant-loop-function : goal.invariant-loop-function
invariant-loop-function l = l.text.items ≡ l.initial.text.items ++ bytes_of (flat_map (λ f. head_numbers (raw_function f)) (take l.function-index l.functions))
