-- The run of a program, and what each miner saw of it.
use Rattle.std.specs.Prelude.{◌≡◌, ℕ, List, Some, None, Result}
use Rattle.proto_core.specs.declared.party.Number.{Number}
use Rattle.protocol_model.specs.Network.{Delivery}
use Rattle.tape_file.specs.Tapes.{FourTapes}
use Rattle.program_trees.specs.TypedPrograms.{TypedProgramTree}
use Rattle.value_file.specs.declared.inputs.Entry.{Entry}
use Rattle.input_share.specs.declared.dealing.Dealt.{Dealt}
use Rattle.view_text.specs.View.{View}
use Rattle.program_views.specs.Views.{view_of}
use Rattle.protocol_model.specs.Runs.{Tapes}
use Rattle.link_schedule.specs.Net.{by_number}
use Rattle.link_schedule.specs.Streams.{StreamNet, MayHave, with_tapes}
use Rattle.delivered_run.specs.States.{CourseState}
use Rattle.delivered_run.specs.States as course
use Rattle.delivered_run.specs.declared.errors.CourseErr.{CourseErr}
use Rattle.delivered_run.specs.Courses.{file_of}
use Rattle.delivered_run.specs.Deliveries.{HasRunOf, IsOrRefused}
use Rattle.viewed_run.specs.declared.seen.SeenRun.{SeenRun}
use Rattle.viewed_run.specs.declared.seen.Views.{Views}
use Rattle.viewed_run.specs.Seats.{SeesIn, nothing_but}

abbrev pub view_in : Views → Number → View
view_in views i = by_number views.one views.two views.three i

-- ---- what the three miners saw

-- with all three tapes that they may have
abbrev pub SeeIn : StreamNet → Dealt → Views → Type 0
SeeIn net files views =
    net.lost ≡ None → (tapes : Tapes) → MayHave net tapes
    → (i : Number) → SeesIn (with_tapes net tapes) i (file_of files i) (tapes i) (view_in views i)

abbrev pub SeeOf : CourseState → Views → Type 0
SeeOf (course.Dealt files end) views = SeeIn end.net files views
SeeOf (course.Undealt run) views = (i : Number) → view_in views i ≡ nothing_but i run.report.end

-- ---- of a program

module _ (p : TypedProgramTree) (entries : List Entry) (t : FourTapes) (budget : ℕ) (given : Delivery) where
  -- it has run as its evaluation in the clear reports, and each miner's view is the one that it has of such a run
  pub record HasSeenRun (seen : SeenRun) : Type 0 where
    pub run : HasRunOf p entries t budget given seen.run
    pub views : (i : Number) → view_of i p entries t budget given ≡ Some (view_in seen.views i)

  -- so it is, or the schedule is refused as the net says, or no more is said since a tape couldn't be read
  abbrev pub IsSeenRunOf : Result SeenRun CourseErr → Type 0
  IsSeenRunOf result = IsOrRefused p entries t budget given HasSeenRun result
