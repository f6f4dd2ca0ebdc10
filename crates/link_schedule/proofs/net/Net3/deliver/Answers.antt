use Rattle.std.proofs.Common.{rules, ◌≡◌, length, refl, sym, ◌∙◌, ap, Err}
use Rattle.std.proofs.lemmas.Result.{err_from_is_err_and}
use Rattle.std.specs.Prelude.{Some}
use Rattle.link_schedule.specs.declared.errors.DeliverErr.TheVariants.{EmptyLink, Lost}
use Rattle.link_schedule.specs.Answers.{DeliverAnswers}
use Rattle.link_schedule.specs.Miners.{IsOnItsWay}
use Rattle.link_schedule.proofs.Along.{along_less}
use Rattle.link_schedule.proofs.Nets.{goes_nowhere, use_of}
use Rattle.link_schedule.proofs.Ordering.{Delivered, delivered_full}
use Rattle.link_schedule.proofs.net.Net3.deliver.Goals as goal

pub returns-then-not-is_under_way-clause-answers : goal.returns-then-not-is_under_way-clause-answers
returns-then-not-is_under_way-clause-answers g c = λ s is going left.
    let len : c.len.result ≡ length c.args.self.now.recorded.items = search rules in
    goes_nowhere s c.args.self.now (g.T.TapeSource.state c.args.tapes.now)
    (λ x y. DeliverAnswers x y c.args.link (Err (EmptyLink c.len.result c.args.link c.sent.result))) is going left
    (λ tapes may.
    let none = sym (c.is_under_way.ensures s is going tapes may) ∙ c.if-not-is_under_way.true in (
      none,
      len ∙ ap length is.recorded,
      refl,
      c.sent.ensures s is going tapes may none,
      refl,
    ))

pub deliver_full-requires : goal.deliver_full-requires
deliver_full-requires g c =
    let r = c.requires in
    let going = use_of c.args.self.now r.0 r.1 c.in_default.is in
    (r.0, r.1, going, r.2, λ same tapes may. sym (c.is_under_way.ensures r.0 r.1 same tapes may) ∙ c.if-not-is_under_way.false)

pub returns-in_err-deliver_full-clause-answers : goal.returns-in_err-deliver_full-clause-answers
returns-in_err-deliver_full-clause-answers g c = λ s is going left.
    let a = g.T.TapeSource.state c.args.tapes.now in
    let b = g.T.TapeSource.state c.deliver_full.new.tapes in
    let on : IsOnItsWay c.args.link s = λ same tapes may. sym (c.is_under_way.ensures s is same tapes may) ∙ c.if-not-is_under_way.false in
    let why = c.in_err-deliver_full.field-0.0 in
    let p = err_from_is_err_and c.from_residual.result c.from_residual.ensures.1 in
    let d = c.in_err-deliver_full.ensures.delivers s is going left on in
    rw (p.1, p.2)
    (record {
      then = d.then;
      along =
          along_less s d.then a b (Delivered c.args.link (Err why)) (Some why) (λ x y. DeliverAnswers x y c.args.link (Err (Lost why))) d.along
          (λ x y h. tt);
      is = d.is;
    })

pub returns-clause-answers : goal.returns-clause-answers
returns-clause-answers g c = λ s is going left.
    let on : IsOnItsWay c.args.link s = λ same tapes may. sym (c.is_under_way.ensures s is same tapes may) ∙ c.if-not-is_under_way.false in
    let d = c.in_ok-deliver_full.ensures.delivers s is going left on in
    record {
      then = d.then;
      along =
          delivered_full s d.then (g.T.TapeSource.state c.args.tapes.now) (g.T.TapeSource.state c.deliver_full.new.tapes) c.args.link going left on d.along;
      is = d.is;
    }
