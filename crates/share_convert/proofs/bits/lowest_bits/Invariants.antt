use Rattle.std.proofs.Common.{◌≡◌, ◌≤◌, length}
use Rattle.share_convert.specs.Bits.{bits}
use Rattle.share_convert.proofs.bits.lowest_bits.Given as goal

abbrev pub invariant-loop-at : goal.invariant-loop-at
invariant-loop-at g l = (l.at ≤ length l.x) × (l.low ≡ bits l.at l.x)
