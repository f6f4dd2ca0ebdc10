use Rattle.std.specs.Prelude.{None}
use Rattle.link_schedule.specs.Miners.{ForEachState, GoesAlong}
use Rattle.link_schedule.proofs.Entries.{AtEntry}
use Rattle.link_schedule.proofs.net.Net3.run.Given as goal

abbrev pub invariant-loop-link : goal.invariant-loop-link
invariant-loop-link g l =
    ForEachState l.fn.self (g.T.TapeSource.state l.fn.tapes)
    (λ s. GoesAlong s l.self (g.T.TapeSource.state l.fn.tapes) (g.T.TapeSource.state l.tapes) None (λ net then. AtEntry net then l.schedule l.link-index))
