use Rattle.std.proofs.lemmas.Result.{err_from_is_err_and}
use Rattle.miner_core.specs.Story.{sent_to_next}
use Rattle.link_schedule.proofs.Passing.{no_words, none_is_left, some_words}
use Rattle.link_schedule.proofs.miners.pass_to_next.Goals as goal

pub unreachable-requires : goal.unreachable-requires
unreachable-requires g c =
    let can = c.requires.can in
    none_is_left c.requires.w.stream (sent_to_next g.S.Party.me) c.requires.w.to_next can.sending can.has
    (λ going tape of. no_words _ _ _ c.in_default.is (c.oldest_to_next.ensures.oldest c.requires.w can.sender going tape of))

pub returns-in_err-give : goal.returns-in_err-give
returns-in_err-give g c = λ w v can.
    let is = err_from_is_err_and c.from_residual.result c.from_residual.ensures.1 in
    let h = c.in_err-give.ensures v can.receiver can.going can.left in
    rw (is.1, is.2)
    (record {
      stream = h.stream;
      message = c.in-Some.words.now;
      oldest = λ going tape of. some_words _ _ _ _ c.in-Some.is (c.oldest_to_next.ensures.oldest w can.sender going tape of);
      gives = h.gives;
      ok = tt;
    })

pub returns : goal.returns
returns g c = λ w v can.
    let h = c.in_ok-give.ensures v can.receiver can.going can.left in
    record {
      stream = h.stream;
      message = c.in-Some.words.now;
      oldest = λ going tape of. some_words _ _ _ _ c.in-Some.is (c.oldest_to_next.ensures.oldest w can.sender going tape of);
      gives = h.gives;
      ok = (
        c.fetch_to_next.ensures.some w can.sender can.has,
        h.is,
      );
    }
