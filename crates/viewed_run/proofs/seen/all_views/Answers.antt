use Rattle.std.proofs.Common.{sym, subst}
use Rattle.std.proofs.lemmas.Result.{IfOk-weaker}
use Rattle.std.specs.Prelude.{IfOk}
use Rattle.delivered_run.specs.declared.course.Course.{Course}
use Rattle.delivered_run.specs.declared.course.Course.TheVariants as kept
use Rattle.delivered_run.specs.States.{CourseState, IsCourseIn}
use Rattle.viewed_run.specs.Seen.{SeeOf}
use Rattle.viewed_run.proofs.Viewed.{see_dealt}
use Rattle.viewed_run.proofs.seen.all_views.Goals as goal

pub returns-in-Dealt : goal.returns-in-Dealt
returns-in-Dealt c =
    subst (λ (x : Course). IfOk c.views_in.result (λ views. (seen : CourseState) → IsCourseIn x seen → SeeOf seen views)) (sym c.in-Dealt.is)
    (IfOk-weaker c.views_in.result _ (λ views. (seen : CourseState) → IsCourseIn (kept.Dealt c.in-Dealt.files c.in-Dealt.end) seen → SeeOf seen views)
    (see_dealt c.in-Dealt.files c.in-Dealt.end) c.views_in.ensures)
