use Rattle.std.proofs.Common.{◌≡◌, ◌≤◌, ◌-◌}
use Rattle.proto_core.proofs.Edits.{edited}
use Rattle.multiply.proofs.Crossings.{crossed_at}
use Rattle.multiply.proofs.kernels.add_crossed.Given as goal

abbrev pub invariant-loop-at : goal.invariant-loop-at
invariant-loop-at g l =
    (l.at ≤ l.n)
    × (l.share ≡ edited l.at (crossed_at g.R.ShareRing.ring l.u l.v l.previous l.fn.share l.n) l.fn.share)

abbrev pub decreases-loop-at : goal.decreases-loop-at
decreases-loop-at g l = l.n - l.at
