use Rattle.std.proofs.Common.{◌≡◌, ◌%◌, ◌^◌, sum, take}
use Rattle.vector_ops.proofs.words.wrapping_sum.Given as goal

abbrev pub invariant-loop-x : goal.invariant-loop-x
invariant-loop-x l = l.total ≡ sum (take l.x-index l.xs) % 2 ^ 64
