use Rattle.std.proofs.Common.{◌≡◌, ◌≤◌}
use Rattle.proto_core.specs.Elementwise.{zeros}
use Rattle.proto_core.proofs.elementwise.zero_block.Given as goal

abbrev pub invariant-loop-at : goal.invariant-loop-at
invariant-loop-at g l = (l._at ≤ l.n) × (l.block ≡ zeros g.R.ShareRing.ring l._at)
