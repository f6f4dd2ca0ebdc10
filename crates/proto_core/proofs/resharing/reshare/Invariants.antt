use Rattle.std.proofs.Common.{◌≡◌, ◌≤◌, length}
use Rattle.proto_core.specs.Lists.{at, each}
use Rattle.proto_core.proofs.resharing.reshare.Given as goal

abbrev pub invariant-loop-at : goal.invariant-loop-at
invariant-loop-at g l =
    let r = g.R.ShareRing.ring in
    (l.at ≤ length l.u) × (l.share ≡ each l.at (λ k. r.sub (r.add (at l.u k) (at l.mask k)) (at l.got k)))
