use Rattle.std.proofs.Common.{refl}
use Rattle.std.proofs.lemmas.Result.{err_from_is_err_and}
use Rattle.counted_net.specs.declared.delivery.DeliveryErr.TheVariants as err
use Rattle.link_schedule.specs.Miners.{IsNetOf}
use Rattle.delivered_run.specs.declared.errors.CourseErr.TheVariants as course
use Rattle.delivered_run.specs.Deliveries.{delivery_seen}
use Rattle.delivered_run.specs.Drawing.{course_of, NetRuns, RunsDealt}
use Rattle.delivered_run.specs.States.{IsRunIn}
use Rattle.delivered_run.proofs.Netting.{runs_made, runs_unmade, runs_without}
use Rattle.delivered_run.proofs.States.{as_err}
use Rattle.delivered_run.proofs.running.run_dealt.Goals as goal

pub returns-in_err-part-clause-runs : goal.returns-in_err-part-clause-runs
returns-in_err-part-clause-runs g c =
    let a = g.T.TapeSource.state c.args.tapes.now in
    let given = delivery_seen c.args.delivery.now in
    let is = err_from_is_err_and c.from_residual.result c.from_residual.ensures.1 in
    rw (is.1, is.2)
    (as_err IsRunIn (λ r. NetRuns a a r (RunsDealt c.args.job.now c.args.files.now given r)) (course.Delivery err.Memory)
    (runs_without c.args.job.now c.args.files.now given a))

pub returns-in_err-net-clause-runs : goal.returns-in_err-net-clause-runs
returns-in_err-net-clause-runs g c =
    let a = g.T.TapeSource.state c.args.tapes.now in
    let b = g.T.TapeSource.state c.net.new.tapes in
    let given = delivery_seen c.args.delivery.now in
    let why = c.in_err-net.field-0.0 in
    let is = err_from_is_err_and c.from_residual-in_err-net.result c.from_residual-in_err-net.ensures.1 in
    rw (is.1, is.2)
    (as_err IsRunIn (λ r. NetRuns a b r (RunsDealt c.args.job.now c.args.files.now given r)) (course_of why)
    (runs_unmade c.args.job.now c.args.files.now given IsNetOf _ a b why c.in_err-net.ensures.makes))

pub run_net-requires : goal.run_net-requires
run_net-requires g c = let ok = c.in_ok-net.ensures.makes.ok in (ok.0, ok.1, λ going. ok.2.left)

pub returns-clause-runs : goal.returns-clause-runs
returns-clause-runs g c =
    let state = g.T.TapeSource.state in
    let ok = c.in_ok-net.ensures.makes.ok in
    let h = c.run_net.ensures.goes ok.0 ok.1 ok.2.going (λ going. ok.2.left) in
    record {
      seen = h.seen;
      is = h.is;
      goes =
          runs_made c.args.job.now c.args.files.now (delivery_seen c.args.delivery.now) _ refl refl refl c.in_ok-part.ensures.value IsNetOf
          (state c.args.tapes.now) (state c.net.new.tapes) (state c.run_net.new.tapes) c.in_ok-net.net c.in_ok-net.ensures.makes h.seen h.goes;
    }

pub returns-clause-kept : goal.returns-clause-kept
returns-clause-kept g c =
    let ok = c.in_ok-net.ensures.makes.ok in
    c.run_net.ensures.kept c.args.past ok.0 ok.1 ok.2.going (λ going. ok.2.left) c.in_ok-net.ensures.kept
