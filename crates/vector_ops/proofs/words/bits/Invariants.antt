use Rattle.std.proofs.Common.{◌≡◌, take}
use Rattle.std.specs.List.{flat_map}
use Rattle.gates.specs.Clear.{bits_of}
use Rattle.vector_ops.proofs.words.bits.Given as goal

abbrev pub invariant-loop-x : goal.invariant-loop-x
invariant-loop-x l = l.words.items ≡ flat_map bits_of (take l.x-index l.xs)
