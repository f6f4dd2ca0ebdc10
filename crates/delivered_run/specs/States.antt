-- How a run and a course stand, by the state of the net that is kept: what is said of them is said of that state.
use Rattle.std.specs.Prelude.{◌≡◌, Result, Ok, Err}
use Rattle.input_share.specs.declared.dealing.Dealt as sharing
use Rattle.miner_core.specs.declared.kept.Kept.{Kept}
use Rattle.link_schedule.specs.Miners.{IsNetOf, KeepSo}
use Rattle.link_schedule.specs.Streams.{StreamNet}
use Rattle.delivered_run.specs.declared.course.Course.{Course}
use Rattle.delivered_run.specs.declared.course.Course.TheVariants as kept
use Rattle.delivered_run.specs.declared.errors.CourseErr.{CourseErr}
use Rattle.delivered_run.specs.declared.running.DeliveredRun.{DeliveredRun}
use Rattle.delivered_run.specs.declared.running.NetRun.{NetRun}

-- ---- by the state of the net

-- what came of a run of three miners, and the state of their net after it
pub record RunState : Type 0 where
  pub run : DeliveredRun
  pub net : StreamNet

-- how a program's run went: its inputs were dealt in these files, and three miners ran its code; or they were not dealt
pub data CourseState : Type 0 where
  Dealt : sharing.Dealt → RunState → CourseState
  Undealt : DeliveredRun → CourseState

-- what came of it
abbrev pub run_told : CourseState → DeliveredRun
run_told (Dealt files end) = end.run
run_told (Undealt run) = run

-- ---- of what is kept

pub record IsRunIn (ran : NetRun) (seen : RunState) : Type 0 where
  pub run : ran.run ≡ seen.run
  pub net : IsNetOf ran.net seen.net

abbrev pub IsCourseIn : Course → CourseState → Type 0
IsCourseIn (kept.Dealt files end) (Dealt dealt seen) = (files ≡ dealt) × IsRunIn end seen
IsCourseIn (kept.Undealt run) (Undealt told) = run ≡ told
IsCourseIn course seen = ⊥

-- what was told of a course
abbrev pub told_of : Course → DeliveredRun
told_of (kept.Dealt files end) = end.run
told_of (kept.Undealt run) = run

-- the miners of a course keep this of what is done with
abbrev pub KeepInCourse : Kept → Course → Type 0
KeepInCourse past (kept.Dealt files end) = KeepSo past end.net
KeepInCourse past (kept.Undealt run) = Unit {0}

-- ---- of an answer

module _ {A S : Type 0} (Is : A → S → Type 0) where
  abbrev pub IsAnswerIn : Result A CourseErr → Result S CourseErr → Type 0
  IsAnswerIn (Ok x) (Ok s) = Is x s
  IsAnswerIn (Err e) (Err f) = e ≡ f
  IsAnswerIn result seen = ⊥

  -- with some state of what is kept, this holds
  pub record AsSeen (Q : Result S CourseErr → Type 0) (result : Result A CourseErr) : Type 0 where
    pub seen : Result S CourseErr
    pub is : IsAnswerIn result seen
    pub goes : Q seen
