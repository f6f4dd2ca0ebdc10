use Rattle.std.proofs.Common.{◌≡◌, map, take}
use Rattle.bytecode.specs.InMemory.{raw_function}
use Rattle.bytecode.proofs.copy.copy_functions.Given as goal

abbrev pub invariant-loop-function : goal.invariant-loop-function
invariant-loop-function l = map raw_function l.copies.items ≡ map raw_function (take l.function-index l.functions)
