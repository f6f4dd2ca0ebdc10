use Rattle.std.proofs.Common.{◌∙◌, ap, Err}
use Rattle.std.proofs.lemmas.Result.{err_from_is_err_and}
use Rattle.miner_core.proofs.Sources.{drawn_none, draws_none, draws_on, draws_on_err}
use Rattle.node_run.proofs.making.miner.Goals as goal

pub returns-in_err-task-clause-draws : goal.returns-in_err-task-clause-draws
returns-in_err-task-clause-draws g c =
    let p = err_from_is_err_and c.from_residual.result c.from_residual.ensures.1 in
    draws_none g.P.Party.me (g.T.TapeSource.state c.args.tapes.now) c.from_residual.result (p.1 ∙ ap Err p.2)

pub returns-in_err-miner-clause-draws : goal.returns-in_err-miner-clause-draws
returns-in_err-miner-clause-draws g c =
    let i = g.P.Party.me in
    let a = g.T.TapeSource.state c.args.tapes.now in
    let b = g.T.TapeSource.state c.new.new.tapes in
    let p = err_from_is_err_and c.from_residual-in_err-miner.result c.from_residual-in_err-miner.ensures.1 in
    rw (p.1, p.2) (draws_on_err i a a b (drawn_none i a) (λ s. s) c.in_err-miner.field-0.0 c.in_err-miner.ensures.draws)

pub returns-clause-draws : goal.returns-clause-draws
returns-clause-draws g c =
    let h = c.in_ok-miner.ensures.draws in
    record { drawn = h.drawn; lost = tt; still = h.still }
