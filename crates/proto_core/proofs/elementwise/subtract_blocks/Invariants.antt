use Rattle.std.proofs.Common.{◌≡◌, ◌≤◌, length}
use Rattle.proto_core.specs.Elementwise.{minus}
use Rattle.proto_core.proofs.elementwise.subtract_blocks.Given as goal

abbrev pub invariant-loop-at : goal.invariant-loop-at
invariant-loop-at g l = (l.at ≤ length l.x) × (l.difference ≡ minus g.R.ShareRing.ring l.at l.x l.y)
