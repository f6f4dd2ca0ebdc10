use Rattle.std.proofs.Common.{sym, subst}
use Rattle.link_schedule.specs.Coming.{Gives}
use Rattle.link_schedule.proofs.Coming.{gives}
use Rattle.link_schedule.proofs.miners.give.Goals as goal

pub returns : goal.returns
returns g c = λ w is going left.
    let i = g.P.Party.me in
    let l = c.args.link in
    let m = c.args.words.now in
    let a = g.T.TapeSource.state c.args.tapes.now in
    let b = g.T.TapeSource.state c.deliver_words.new.tapes in
    let h = c.deliver_words.ensures.comes w is in
    record {
      stream = h.stream;
      is = h.is;
      gives =
          subst (Gives i l m w.stream h.stream a b) (sym c.taken.ensures)
          (gives i l m w.stream h.stream a b going left c.deliver_words.ensures.still c.deliver_words.result (h.answers going)
          (c.deliver_words.ensures.ended.states w is));
    }
