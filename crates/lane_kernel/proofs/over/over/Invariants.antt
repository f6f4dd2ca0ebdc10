use Rattle.std.proofs.Common.{◌≡◌, ◌≤◌, ◌-◌}
use Rattle.proto_core.specs.Lists.{at}
use Rattle.proto_core.proofs.Edits.{edited}
use Rattle.lane_kernel.proofs.over.over.Given as goal

abbrev pub invariant-loop-at : goal.invariant-loop-at
invariant-loop-at g l = (l.at ≤ l.n) × (l.acc ≡ edited l.at (λ k. g.O.LaneOp.op (at l.fn.acc k) (at l.x k)) l.fn.acc)

abbrev pub decreases-loop-at : goal.decreases-loop-at
decreases-loop-at g l = l.n - l.at

abbrev pub invariant-loop-at-2 : goal.invariant-loop-at-2
invariant-loop-at-2 g l = (l.at ≤ l.n) × (l.acc ≡ edited l.at (λ k. g.O.LaneOp.op (at l.fn.acc k) (at l.x k)) l.fn.acc)

abbrev pub decreases-loop-at-2 : goal.decreases-loop-at-2
decreases-loop-at-2 g l = l.n - l.at
