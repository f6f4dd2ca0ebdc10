use Rattle.std.proofs.Common.{◌≡◌, ◌≤◌, ◌-◌}
use Rattle.lane_kernel.specs.Lanewise.{crossed}
use Rattle.proto_core.proofs.Edits.{edited}
use Rattle.lane_kernel.proofs.cross.cross.Given as goal

abbrev pub invariant-loop-at : goal.invariant-loop-at
invariant-loop-at g l = (l.at ≤ l.n) × (l.w ≡ edited l.at (crossed g.R.ShareRing.ring l.u l.v l.up l.vp) l.fn.w)

abbrev pub decreases-loop-at : goal.decreases-loop-at
decreases-loop-at g l = l.n - l.at

abbrev pub invariant-loop-at-2 : goal.invariant-loop-at-2
invariant-loop-at-2 g l = (l.at ≤ l.n) × (l.w ≡ edited l.at (crossed g.R.ShareRing.ring l.u l.v l.up l.vp) l.fn.w)

abbrev pub decreases-loop-at-2 : goal.decreases-loop-at-2
decreases-loop-at-2 g l = l.n - l.at
