use Rattle.std.proofs.Common.{◌∙◌, ap, Err}
use Rattle.std.proofs.lemmas.Result.{err_from_is_err_and}
use Rattle.miner_core.proofs.Sources.{draws_unsupplied}
use Rattle.miner_core.proofs.engine.Engine.draw.Goals as goal

pub returns-in_err-supply_from-clause-draws : goal.returns-in_err-supply_from-clause-draws
returns-in_err-supply_from-clause-draws g c =
    let p = err_from_is_err_and c.from_residual.result c.from_residual.ensures.1 in
    let h = c.in_err-supply_from.ensures in
    draws_unsupplied g.P.Party.me (g.T.TapeSource.state c.args.tapes.now) (g.T.TapeSource.state c.supply_from.new.tapes) c.in_err-supply_from.field-0.0
    c.from_residual.result (p.1 ∙ ap Err p.2) h.cause h.still
