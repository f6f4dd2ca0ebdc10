use Rattle.std.proofs.Common.{Ok, Err, ◌∙◌}
use Rattle.std.proofs.lemmas.Result.{err_from_is_err_and}
use Rattle.program_trees.specs.TypedPrograms.{typed_program_tree}
use Rattle.counted_net.specs.declared.delivery.DeliveryErr.TheVariants.{Memory}
use Rattle.delivered_run.specs.declared.errors.CourseErr.TheVariants as fault
use Rattle.delivered_run.specs.Courses.{IsCourseOf}
use Rattle.delivered_run.specs.Deliveries.{delivery_seen}
use Rattle.delivered_run.specs.Sources.{RunsFrom}
use Rattle.delivered_run.specs.States.{CourseState, IsCourseIn}
use Rattle.delivered_run.proofs.Sources.{runs_as}
use Rattle.delivered_run.proofs.States.{seen_err, seen_ok, told_same}
use Rattle.viewed_run.specs.declared.seen.SeenRun.{SeenRun}
use Rattle.viewed_run.specs.Seen.{IsSeenRunOf}
use Rattle.viewed_run.proofs.Viewed.{refused_so, seen_so}
use Rattle.viewed_run.proofs.seen.run_seen.Goals as goal

pub returns-in_err-course : goal.returns-in_err-course
returns-in_err-course g c =
    let state = g.T.TapeSource.state in
    let p = typed_program_tree c.args.program.now in
    let entries = c.args.inputs.now in
    let given = delivery_seen c.args.delivery.now in
    let e = c.in_err-course.field-0.0 in
    let is = err_from_is_err_and c.from_residual.result c.from_residual.ensures.1 in
    let a = state c.args.tapes.now in
    let b = state c.run_in_net.new.tapes in
    let h = seen_err IsCourseIn (λ seen. RunsFrom a b entries seen (λ t. IsCourseOf p entries t c.args.budget given seen)) e c.in_err-course.ensures.runs in
    rw (is.1, is.2)
    (runs_as {A = CourseState} a b entries (Err e) (Err e)
    (λ t. IsCourseOf p entries t c.args.budget given (Err e)) (λ t. IsSeenRunOf p entries t c.args.budget given (Err e)) h h.cause
    (λ t h. refused_so p entries t c.args.budget given e h))

pub returns-in_err-views : goal.returns-in_err-views
returns-in_err-views g c =
    let state = g.T.TapeSource.state in
    let p = typed_program_tree c.args.program.now in
    let entries = c.args.inputs.now in
    let given = delivery_seen c.args.delivery.now in
    let a = state c.args.tapes.now in
    let b = state c.run_in_net.new.tapes in
    let went = seen_ok IsCourseIn (λ seen. RunsFrom a b entries seen (λ t. IsCourseOf p entries t c.args.budget given seen)) c.in_ok-course.course
    c.in_ok-course.ensures.runs in
    let is = err_from_is_err_and c.from_residual-in_err-views.result c.from_residual-in_err-views.ensures.1 in
    rw (is.1, is.2)
    (runs_as a b entries (Ok went.state) (Err (fault.Delivery Memory))
    (λ t. IsCourseOf p entries t c.args.budget given (Ok went.state))
    (λ t. IsSeenRunOf p entries t c.args.budget given (Err (fault.Delivery Memory)))
    went.goes tt (λ t h. tt))

pub returns : goal.returns
returns g c =
    let state = g.T.TapeSource.state in
    let p = typed_program_tree c.args.program.now in
    let entries = c.args.inputs.now in
    let given = delivery_seen c.args.delivery.now in
    let a = state c.args.tapes.now in
    let b = state c.run_in_net.new.tapes in
    let course = c.in_ok-course.course in
    let went = seen_ok IsCourseIn (λ seen. RunsFrom a b entries seen (λ t. IsCourseOf p entries t c.args.budget given seen)) course
    c.in_ok-course.ensures.runs in
    let seen : SeenRun = record { run = c.into_run.result; views = c.in_ok-views.views } in
    runs_as a b entries (Ok went.state) (Ok seen)
    (λ t. IsCourseOf p entries t c.args.budget given (Ok went.state)) (λ t. IsSeenRunOf p entries t c.args.budget given (Ok seen)) went.goes tt
    (λ t h. seen_so p entries t c.args.budget given c.requires.accepted went.state h seen
    (c.into_run.ensures ∙ told_same course went.state went.is) (c.in_ok-views.ensures went.state went.is))
