use Rattle.std.proofs.lemmas.Result.{err_from_is_err_and}
use Rattle.delivered_run.proofs.Sources.{dealer_without}
use Rattle.delivered_run.proofs.course.prepared.Goals as goal

pub returns-in_err-code-clause-draws : goal.returns-in_err-code-clause-draws
returns-in_err-code-clause-draws g c =
    let is = err_from_is_err_and c.from_residual.result c.from_residual.ensures.1 in
    rw (is.1, is.2) (dealer_without (g.T.TapeSource.state c.args.tapes.now) c.args.inputs.now (λ s. s.words.items))

pub returns-in_err-words-clause-draws : goal.returns-in_err-words-clause-draws
returns-in_err-words-clause-draws g c =
    let is = err_from_is_err_and c.from_residual-in_err-words.result c.from_residual-in_err-words.ensures.1 in
    let h = c.in_err-words.ensures in
    rw (is.1, is.2) (record { taken = h.taken; drew = h.drew; few = h.few; ok = tt; err = h.err; still = h.still })

pub returns-clause-draws : goal.returns-clause-draws
returns-clause-draws g c =
    let h = c.in_ok-words.ensures in
    record { taken = h.taken; drew = h.drew; few = h.few; ok = h.ok; err = tt; still = h.still }
