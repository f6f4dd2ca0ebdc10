use Rattle.std.proofs.Common.{◌≡◌, ◌≤◌, length}
use Rattle.share_convert.specs.Bits.{one_less_where}
use Rattle.share_convert.proofs.bits.one_less.Given as goal

abbrev pub invariant-loop-at : goal.invariant-loop-at
invariant-loop-at g l = (l.at ≤ length l.bits) × (l.made ≡ one_less_where l.at l.bits l.words)
