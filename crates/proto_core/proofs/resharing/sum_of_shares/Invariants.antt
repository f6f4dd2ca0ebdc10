use Rattle.std.proofs.Common.{◌≡◌, ◌≤◌, length}
use Rattle.proto_core.specs.Lists.{at, each}
use Rattle.proto_core.proofs.resharing.sum_of_shares.Given as goal

abbrev pub invariant-loop-at : goal.invariant-loop-at
invariant-loop-at g l =
    let r = g.R.ShareRing.ring in
    (l.at ≤ length l.x) × (l.sum ≡ each l.at (λ k. r.add (r.add (at l.x k) (at l.y k)) (at l.z k)))
