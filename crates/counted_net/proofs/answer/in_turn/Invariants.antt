use Rattle.std.proofs.Common.{◌-◌, ◌^◌, length}
use Rattle.counted_net.proofs.Made.{Making}
use Rattle.counted_net.proofs.answer.in_turn.Given as goal

abbrev pub invariant-loop-link : goal.invariant-loop-link
invariant-loop-link l = Making l.scripts (λ k. 0) l.net

abbrev pub decreases-loop-link : goal.decreases-loop-link
decreases-loop-link l = 2 ^ 63 - length l.net.delivered
