use Rattle.std.proofs.Common.{refl, ◌∙◌}
use Rattle.std.proofs.lemmas.Result.{err_from_is_err_and}
use Rattle.counted_net.specs.declared.delivery.DeliveryErr.TheVariants as err
use Rattle.link_schedule.proofs.Nets.{keep_on}
use Rattle.delivered_run.specs.declared.errors.CourseErr.TheVariants as course
use Rattle.delivered_run.specs.Deliveries.{delivery_seen}
use Rattle.delivered_run.specs.Drawing.{NetGoes}
use Rattle.delivered_run.specs.States.{IsRunIn, RunState}
use Rattle.delivered_run.proofs.Netting.{goes_refused, goes_short, goes_well}
use Rattle.delivered_run.proofs.States.{as_err, as_ok}
use Rattle.delivered_run.proofs.running.run_net.Goals as goal

pub returns-in_err-deliver_all-clause-goes : goal.returns-in_err-deliver_all-clause-goes
returns-in_err-deliver_all-clause-goes g c = λ s is going left.
    let state = g.T.TapeSource.state in
    let p = err_from_is_err_and c.from_residual.result c.from_residual.ensures.1 in
    let e = c.in_err-deliver_all.field-0.0 in
    let d = c.in_err-deliver_all.ensures s is going left in
    rw (p.1, p.2)
    (as_err IsRunIn (NetGoes (state c.args.tapes.now) (state c.deliver_all.new.tapes) (delivery_seen c.args.delivery.now) s) e
    (goes_refused (state c.args.tapes.now) (state c.deliver_all.new.tapes) (delivery_seen c.args.delivery.now) s d.then e d.delivers))

pub returns-in_err-report-clause-goes : goal.returns-in_err-report-clause-goes
returns-in_err-report-clause-goes g c = λ s is going left.
    let state = g.T.TapeSource.state in
    let p = err_from_is_err_and c.from_residual-in_err-report.result c.from_residual-in_err-report.ensures.1 in
    let d = c.in_ok-deliver_all.ensures s is going left in
    rw (p.1, p.2)
    (as_err IsRunIn (NetGoes (state c.args.tapes.now) (state c.deliver_all.new.tapes) (delivery_seen c.args.delivery.now) s) (course.Delivery err.Memory)
    (goes_short (state c.args.tapes.now) (state c.deliver_all.new.tapes) (delivery_seen c.args.delivery.now) s d.then d.delivers))

pub returns-in_err-delivered-clause-goes : goal.returns-in_err-delivered-clause-goes
returns-in_err-delivered-clause-goes g c = λ s is going left.
    let state = g.T.TapeSource.state in
    let p = err_from_is_err_and c.from_residual-in_err-delivered.result c.from_residual-in_err-delivered.ensures.1 in
    let d = c.in_ok-deliver_all.ensures s is going left in
    rw (p.1, p.2)
    (as_err IsRunIn (NetGoes (state c.args.tapes.now) (state c.deliver_all.new.tapes) (delivery_seen c.args.delivery.now) s) (course.Delivery err.Memory)
    (goes_short (state c.args.tapes.now) (state c.deliver_all.new.tapes) (delivery_seen c.args.delivery.now) s d.then d.delivers))

pub returns-clause-goes : goal.returns-clause-goes
returns-clause-goes g c = λ s is going left.
    let state = g.T.TapeSource.state in
    let d = c.in_ok-deliver_all.ensures s is going left in
    let ran : RunState = record { run = record { report = c.in_ok-report.report; delivered = c.in_ok-delivered.delivered }; net = d.then } in
    as_ok IsRunIn (NetGoes (state c.args.tapes.now) (state c.deliver_all.new.tapes) (delivery_seen c.args.delivery.now) s) _ ran
    (record { run = refl; net = d.is })
    (goes_well (state c.args.tapes.now) (state c.deliver_all.new.tapes) (delivery_seen c.args.delivery.now) s d.then ran refl d.delivers
    (c.in_ok-report.ensures d.then d.is d.delivers.ok.going) (c.in_ok-delivered.ensures.items ∙ c.recorded.ensures d.then d.is))

pub returns-clause-kept : goal.returns-clause-kept
returns-clause-kept g c = λ past s is going left keeps.
    let d = c.in_ok-deliver_all.ensures s is going left in
    keep_on past c.args.net c.deliver_all.new.net s d.then is going d.is d.delivers.ok.going d.delivers.ok.past keeps
