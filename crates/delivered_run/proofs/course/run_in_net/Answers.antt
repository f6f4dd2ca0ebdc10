use Rattle.std.proofs.Common.{All, Err, subst}
use Rattle.std.proofs.lemmas.Result.{err_from_is_err_and}
use Rattle.input_share.specs.AddUp.{HasWords}
use Rattle.program_run.specs.Inputs.{AreSound, dealt_of}
use Rattle.program_run.specs.Reports.{eval_with}
use Rattle.program_trees.specs.TypedPrograms.{typed_program_tree}
use Rattle.delivered_run.specs.Courses.{HasCourse, IsCourseOf}
use Rattle.delivered_run.specs.Deliveries.{delivery_seen}
use Rattle.delivered_run.specs.Drawing.{course_of}
use Rattle.delivered_run.specs.Sources.{RunsFrom}
use Rattle.delivered_run.specs.States.{CourseState, IsCourseIn}
use Rattle.delivered_run.proofs.Going.{lost_so}
use Rattle.delivered_run.proofs.Sources.{runs_undrawn, runs_with}
use Rattle.delivered_run.proofs.States.{as_err}
use Rattle.delivered_run.proofs.course.run_in_net.Goals as goal

pub returns-in_err-prepared-clause-runs : goal.returns-in_err-prepared-clause-runs
returns-in_err-prepared-clause-runs g c =
    let state = g.T.TapeSource.state in
    let p = typed_program_tree c.args.program.now in
    let entries = c.args.inputs.now in
    let given = delivery_seen c.args.delivery.now in
    let why = c.in_err-prepared.field-0.0 in
    let is = err_from_is_err_and c.from_residual.result c.from_residual.ensures.1 in
    let a = state c.args.tapes.now in
    let b = state c.prepared.new.tapes in
    rw (is.1, is.2)
    (as_err IsCourseIn (λ seen. RunsFrom a b entries seen (λ t. IsCourseOf p entries t c.args.budget given seen)) (course_of why)
    (runs_undrawn a b entries (λ s. s.words.items) why
    (λ t. IsCourseOf p entries t c.args.budget given (Err (course_of why))) c.in_err-prepared.ensures.draws
    (λ t. lost_so CourseState (dealt_of entries t.dealer) (eval_with p entries t c.args.budget) given (HasCourse p entries t c.args.budget given) why)))

pub returns-clause-runs : goal.returns-clause-runs
returns-clause-runs g c =
    let state = g.T.TapeSource.state in
    let p = typed_program_tree c.args.program.now in
    let entries = c.args.inputs.now in
    let given = delivery_seen c.args.delivery.now in
    let a = state c.args.tapes.now in
    let made = c.in_ok-prepared.ensures in
    let sound : AreSound entries = record { form = c.requires.inputs; words = subst (All HasWords) c.entries.ensures c.see_entries.ensures } in
    let h = c.run_with.ensures.runs in
    record {
      seen = h.seen;
      is = h.is;
      goes =
          runs_with a (state c.prepared.new.tapes) (state c.run_with.new.tapes) _ (λ s. s.words.items) c.in_ok-prepared.prepared c.deref.result.now given
          h.seen made.draws h.goes c.deref.ensures.value made.lengths p c.requires.accepted made.code sound;
    }
