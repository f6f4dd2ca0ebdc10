use Rattle.std.proofs.Common.{◌≡◌, ◌≤◌, length}
use Rattle.split_share.specs.SplitStrand.{signed_sum}
use Rattle.split_share.proofs.split.sum_with.Given as goal

abbrev pub invariant-loop-at : goal.invariant-loop-at
invariant-loop-at g l = (l.at ≤ length l.u) × (l.words ≡ signed_sum l.negated l.at l.u l.got)
