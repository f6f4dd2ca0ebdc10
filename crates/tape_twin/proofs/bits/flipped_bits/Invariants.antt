use Rattle.std.proofs.Common.{◌≡◌, ◌≤◌, length}
use Rattle.share_convert.specs.Converting.{flipped}
use Rattle.tape_twin.proofs.bits.flipped_bits.Given as goal

abbrev pub invariant-loop-at : goal.invariant-loop-at
invariant-loop-at g l = (l.at ≤ length l.x) × (l.turned ≡ flipped l.at l.x l.y)
