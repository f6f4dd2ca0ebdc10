use Rattle.std.proofs.Common.{◌-◌, ◌^◌, length}
use Rattle.std.specs.Prelude.{None}
use Rattle.link_schedule.specs.Miners.{ForEachState, GoesAlong}
use Rattle.link_schedule.proofs.Making.{Making}
use Rattle.link_schedule.proofs.net.Net3.drain.Given as goal

abbrev pub invariant-loop-link : goal.invariant-loop-link
invariant-loop-link g l =
    ForEachState l.fn.self (g.T.TapeSource.state l.fn.tapes)
    (λ s. GoesAlong s l.self (g.T.TapeSource.state l.fn.tapes) (g.T.TapeSource.state l.tapes) None (Making (λ k. 0)))

abbrev pub decreases-loop-link : goal.decreases-loop-link
decreases-loop-link g l = 2 ^ 63 - length l.self.recorded.items
