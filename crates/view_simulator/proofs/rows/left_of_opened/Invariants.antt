use Rattle.std.proofs.Common.{◌≡◌, ◌≤◌, length}
use Rattle.proto_core.specs.Lists.{at, each}
use Rattle.view_simulator.proofs.rows.left_of_opened.Given as goal

abbrev pub invariant-loop-at : goal.invariant-loop-at
invariant-loop-at g l =
    let r = g.R.ShareRing.ring in
    (l.at ≤ length l.share) × (l.left ≡ each l.at (λ k. r.sub (r.sub (at l.opened k) (at l.share k)) (at l.other k)))
