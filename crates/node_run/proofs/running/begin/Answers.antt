use Rattle.std.proofs.Common.{◌∙◌, ap, Err}
use Rattle.std.proofs.lemmas.Result.{err_from_is_err_and}
use Rattle.miner_core.proofs.Sources.{draws_none}
use Rattle.node_run.proofs.running.begin.Goals as goal

pub returns-in_err-hello-clause-draws : goal.returns-in_err-hello-clause-draws
returns-in_err-hello-clause-draws g c =
    let p = err_from_is_err_and c.from_residual.result c.from_residual.ensures.1 in
    draws_none g.P.Party.me (g.T.TapeSource.state c.args.tapes.now) c.from_residual.result (p.1 ∙ ap Err p.2)
