use Rattle.std.proofs.Common.{◌≡◌, ◌≤◌, length}
use Rattle.share_convert.specs.Bits.{negative_where}
use Rattle.share_convert.proofs.bits.negated.Given as goal

abbrev pub invariant-loop-at : goal.invariant-loop-at
invariant-loop-at g l = (l.at ≤ length l.bits) × (l.made ≡ negative_where l.at l.bits l.words)
