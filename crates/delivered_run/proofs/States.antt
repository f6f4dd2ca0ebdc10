-- Answers, by the state of what is kept.
use Rattle.std.proofs.Common.{◌≡◌, Result, Ok, Err, refl, sym, subst}
use Rattle.delivered_run.specs.declared.errors.CourseErr.{CourseErr}
use Rattle.delivered_run.specs.declared.course.Course.{Course}
use Rattle.delivered_run.specs.declared.course.Course.TheVariants as kept
use Rattle.delivered_run.specs.States.{CourseState, Dealt, Undealt, AsSeen, IsAnswerIn, IsCourseIn, run_told, told_of}

module _ {A S : Type 0} (Is : A → S → Type 0) (Q : Result S CourseErr → Type 0) where
  pub seen_err : (e : CourseErr) → AsSeen Is Q (Err e) → Q (Err e)
  seen_err e h = by_seen h.seen h.is h.goes
    where
      by_seen : (r : Result S CourseErr) → IsAnswerIn Is (Err e) r → Q r → Q (Err e)
      by_seen (Ok s) is q = absurd is
      by_seen (Err f) is q = subst (λ x. Q (Err x)) (sym is) q

  -- what is kept stands so
  pub record StandsSo (x : A) : Type 0 where
    pub state : S
    pub is : Is x state
    pub goes : Q (Ok state)

  pub seen_ok : (x : A) → AsSeen Is Q (Ok x) → StandsSo x
  seen_ok x h = by_seen h.seen h.is h.goes
    where
      by_seen : (r : Result S CourseErr) → IsAnswerIn Is (Ok x) r → Q r → StandsSo x
      by_seen (Ok s) is q = record { state = s; is = is; goes = q }
      by_seen (Err f) is q = absurd is

  pub as_err : (e : CourseErr) → Q (Err e) → AsSeen Is Q (Err e)
  as_err e q = record { seen = Err e; is = refl; goes = q }

  pub as_ok : (x : A) (s : S) → Is x s → Q (Ok s) → AsSeen Is Q (Ok x)
  as_ok x s is q = record { seen = Ok s; is = is; goes = q }

-- what was told is the same
pub told_same : (course : Course) (seen : CourseState) → IsCourseIn course seen → told_of course ≡ run_told seen
told_same (kept.Dealt files end) (Dealt dealt ran) is = is.1.run
told_same (kept.Undealt run) (Undealt told) is = is
told_same (kept.Dealt files end) (Undealt told) is = absurd is
told_same (kept.Undealt run) (Dealt dealt ran) is = absurd is
