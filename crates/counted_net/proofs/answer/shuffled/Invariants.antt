use Rattle.std.proofs.Common.{◌-◌, ◌^◌, length}
use Rattle.counted_net.proofs.Made.{Shuffling}
use Rattle.counted_net.proofs.answer.shuffled.Given as goal

abbrev pub invariant-loop-link : goal.invariant-loop-link
invariant-loop-link l = Shuffling l.scripts l.fn.seed l.words l.net

abbrev pub decreases-loop-link : goal.decreases-loop-link
decreases-loop-link l = 2 ^ 63 - length l.net.delivered
