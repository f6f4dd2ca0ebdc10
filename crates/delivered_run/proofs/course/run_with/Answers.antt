use Rattle.std.proofs.Common.{refl}
use Rattle.std.proofs.lemmas.Result.{err_from_is_err_and}
use Rattle.delivered_run.specs.declared.errors.CourseErr.TheVariants as fault
use Rattle.delivered_run.specs.Deliveries.{delivery_seen}
use Rattle.delivered_run.specs.Drawing.{CourseDraws, NetRuns, RunsDealt}
use Rattle.delivered_run.specs.States as course
use Rattle.delivered_run.specs.States.{IsCourseIn, IsRunIn}
use Rattle.delivered_run.proofs.Going.{dealt_course, dealt_refused, undealt_course, undealt_not}
use Rattle.delivered_run.proofs.States.{as_err, as_ok, seen_err, seen_ok}
use Rattle.delivered_run.proofs.course.run_with.Goals as goal

pub returns-in_err-end-in-Ok-clause-runs : goal.returns-in_err-end-in-Ok-clause-runs
returns-in_err-end-in-Ok-clause-runs g c =
    let a = g.T.TapeSource.state c.args.tapes.now in
    let b = g.T.TapeSource.state c.run_dealt.new.tapes in
    let job = c.args.job.now in
    let given = delivery_seen c.args.delivery.now in
    let files = c.in-Ok.files in
    let e = c.in_err-end-in-Ok.field-0.0 in
    let is = err_from_is_err_and c.from_residual.result c.from_residual.ensures.1 in
    rw (is.1, is.2)
    (as_err IsCourseIn (CourseDraws job c.args.words.now given a b) e
    (dealt_refused job c.args.words.now given files c.in-Ok.ensures.enough c.in-Ok.ensures.first c.in-Ok.ensures.second c.in-Ok.ensures.third a b e
    (seen_err IsRunIn (λ r. NetRuns a b r (RunsDealt job files given r)) e c.in_err-end-in-Ok.ensures.runs)))

pub returns-in_ok-end-in-Ok-clause-runs : goal.returns-in_ok-end-in-Ok-clause-runs
returns-in_ok-end-in-Ok-clause-runs g c =
    let a = g.T.TapeSource.state c.args.tapes.now in
    let b = g.T.TapeSource.state c.run_dealt.new.tapes in
    let job = c.args.job.now in
    let given = delivery_seen c.args.delivery.now in
    let files = c.in-Ok.files in
    let h = seen_ok IsRunIn (λ r. NetRuns a b r (RunsDealt job files given r)) c.in_ok-end-in-Ok.end c.in_ok-end-in-Ok.ensures.runs in
    as_ok IsCourseIn (CourseDraws job c.args.words.now given a b) _ (course.Dealt files h.state) (refl, h.is)
    (dealt_course job c.args.words.now given files c.in-Ok.ensures.enough c.in-Ok.ensures.first c.in-Ok.ensures.second c.in-Ok.ensures.third a b
    h.state h.goes)

pub returns-in_err-run-in-Err-clause-runs : goal.returns-in_err-run-in-Err-clause-runs
returns-in_err-run-in-Err-clause-runs g c =
    let a = g.T.TapeSource.state c.args.tapes.now in
    let given = delivery_seen c.args.delivery.now in
    let e = c.in_err-run-in-Err.field-0.0 in
    let is = err_from_is_err_and c.from_residual-in_err-run-in-Err.result c.from_residual-in_err-run-in-Err.ensures.1 in
    rw (is.1, is.2)
    (as_err IsCourseIn (CourseDraws c.args.job.now c.args.words.now given a a) (fault.Delivery e)
    (undealt_not c.args.job.now c.args.words.now given a c.in-Err.refusal c.in-Err.ensures.short e c.in_err-run-in-Err.ensures))

pub returns-in_ok-run-in-Err-clause-runs : goal.returns-in_ok-run-in-Err-clause-runs
returns-in_ok-run-in-Err-clause-runs g c =
    let a = g.T.TapeSource.state c.args.tapes.now in
    let given = delivery_seen c.args.delivery.now in
    let run = c.in_ok-run-in-Err.run' in
    as_ok IsCourseIn (CourseDraws c.args.job.now c.args.words.now given a a) _ (course.Undealt run) refl
    (undealt_course c.args.job.now c.args.words.now given a c.in-Err.refusal c.in-Err.ensures.short run c.in_ok-run-in-Err.ensures)
