use Rattle.miner_core.specs.Drawing.{left_for, DrewOn}
use Rattle.miner_core.proofs.engine.Engine.run_on.Given as goal

abbrev pub invariant-loop-standing : goal.invariant-loop-standing
invariant-loop-standing g l = DrewOn g.P.Party.me l.fn.self l.self (g.T.TapeSource.state l.fn.tapes) (g.T.TapeSource.state l.tapes)

abbrev pub decreases-loop-standing : goal.decreases-loop-standing
decreases-loop-standing g l = left_for g.P.Party.me (g.T.TapeSource.state l.tapes)
