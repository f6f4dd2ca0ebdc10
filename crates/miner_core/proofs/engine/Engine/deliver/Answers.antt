use Rattle.miner_core.proofs.Draws.{delivers}
use Rattle.miner_core.proofs.engine.Engine.deliver.Goals as goal

pub returns-clause-delivers : goal.returns-clause-delivers
returns-clause-delivers g c =
    let r = c.in_ok-receive.ensures in
    delivers g.P.Party.me c.args.self.now c.receive.new.self c.run_on.new.self c.in_ok-standing.standing c.args.link c.args.words.now
    (g.T.TapeSource.state c.args.tapes.now) (g.T.TapeSource.state c.run_on.new.tapes) r.leads r.story r.tape c.in_ok-standing.ensures.runs
