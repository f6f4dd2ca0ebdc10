use Rattle.std.proofs.Common.{◌≡◌, ◌≤◌, length}
use Rattle.proto_core.specs.Lists.{at}
use Rattle.proto_core.proofs.Edits.{edited}
use Rattle.reshare.proofs.kernels.add_two.Given as goal

abbrev pub invariant-loop-at : goal.invariant-loop-at
invariant-loop-at g l =
    let r = g.R.ShareRing.ring in
    (l.at ≤ length l.fn.share) × (l.share ≡ edited l.at (λ k. r.add (r.add (at l.fn.share k) (at l.second k)) (at l.third k)) l.fn.share)
