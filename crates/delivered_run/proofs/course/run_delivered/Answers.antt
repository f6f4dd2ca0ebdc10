use Rattle.std.proofs.Common.{Ok, Err, refl, ◌∙◌}
use Rattle.std.proofs.lemmas.Result.{err_from_is_err_and}
use Rattle.program_trees.specs.TypedPrograms.{typed_program_tree}
use Rattle.delivered_run.specs.Courses.{IsCourseOf}
use Rattle.delivered_run.specs.Deliveries.{delivery_seen}
use Rattle.delivered_run.specs.Sources.{RunsFrom}
use Rattle.delivered_run.specs.States.{IsCourseIn}
use Rattle.delivered_run.proofs.Sources.{told_from}
use Rattle.delivered_run.proofs.States.{seen_err, seen_ok, told_same}
use Rattle.delivered_run.proofs.course.run_delivered.Goals as goal

pub returns-in_err-course : goal.returns-in_err-course
returns-in_err-course g c =
    let a = g.T.TapeSource.state c.args.tapes.now in
    let b = g.T.TapeSource.state c.run_in_net.new.tapes in
    let p = typed_program_tree c.args.program.now in
    let entries = c.args.inputs.now in
    let given = delivery_seen c.args.delivery.now in
    let e = c.in_err-course.field-0.0 in
    let is = err_from_is_err_and c.from_residual.result c.from_residual.ensures.1 in
    rw (is.1, is.2)
    (told_from a b p entries c.args.budget given (Err e) (Err e) refl
    (seen_err IsCourseIn (λ seen. RunsFrom a b entries seen (λ t. IsCourseOf p entries t c.args.budget given seen)) e c.in_err-course.ensures.runs))

pub returns : goal.returns
returns g c =
    let a = g.T.TapeSource.state c.args.tapes.now in
    let b = g.T.TapeSource.state c.run_in_net.new.tapes in
    let p = typed_program_tree c.args.program.now in
    let entries = c.args.inputs.now in
    let given = delivery_seen c.args.delivery.now in
    let course = c.in_ok-course.course in
    let h = seen_ok IsCourseIn (λ seen. RunsFrom a b entries seen (λ t. IsCourseOf p entries t c.args.budget given seen)) course
    c.in_ok-course.ensures.runs in
    told_from a b p entries c.args.budget given (Ok h.state) (Ok c.into_run.result) (c.into_run.ensures ∙ told_same course h.state h.is) h.goes
