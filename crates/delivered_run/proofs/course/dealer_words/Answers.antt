use Rattle.std.proofs.lemmas.Result.{err_from_is_err_and}
use Rattle.delivered_run.proofs.Sources.{dealer_failed, dealer_without}
use Rattle.delivered_run.proofs.course.dealer_words.Goals as goal

pub returns-in_err-words : goal.returns-in_err-words
returns-in_err-words g c =
    let is = err_from_is_err_and c.from_residual.result c.from_residual.ensures.1 in
    rw (is.1, is.2) (dealer_without (g.T.TapeSource.state c.args.tapes.now) c.args.inputs.now (λ words. words.items))

pub returns-in-Err : goal.returns-in-Err
returns-in-Err g c =
    let state = g.T.TapeSource.state in
    let h = c.in-Err.ensures in
    dealer_failed (state c.args.tapes.now) (state c.take.new.self) c.args.inputs.now (λ words. words.items) h.err
    (record { rose = h.cause.failed; unsteady = λ s. (h.steady s).failed }) h.still
