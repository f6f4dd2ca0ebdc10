-- How a program's run by three miners apart goes: what was dealt, and the miners as they stand after it.
use Rattle.std.specs.Prelude.{◌≡◌, ◌<◌, ℕ, List, length, false, Result}
use Rattle.proto_core.specs.declared.party.Number.{Number}
use Rattle.proto_core.specs.Net.{run_of}
use Rattle.protocol_model.specs.Network.{Delivery, order_of}
use Rattle.protocol_model.specs.Runs.{Tapes}
use Rattle.tape_file.specs.Tapes.{FourTapes}
use Rattle.program_trees.specs.TypedPrograms.{TypedProgramTree}
use Rattle.value_file.specs.declared.inputs.Entry.{Entry}
use Rattle.input_share.specs.Dealing.{dealt, need_of}
use Rattle.input_share.specs.ShareFile.{MinerFile}
use Rattle.input_share.specs.declared.dealing.Dealt as sharing
use Rattle.language_model.specs.Reports.{Offered, Report}
use Rattle.clear_eval.specs.Offers.{offered}
use Rattle.bytecode.specs.Raw.{RawCode}
use Rattle.verified_code.specs.Settled.{settled}
use Rattle.verified_code.specs.Steps.{Function}
use Rattle.view_model.specs.TapeMaps.{miners_of}
use Rattle.code_runs.specs.Dealt.{Dealt}
use Rattle.program_run.specs.Codes.{IsCodeOf}
use Rattle.program_run.specs.Inputs.{dealt_of}
use Rattle.code_runs.specs.Runs.{messages, scripts}
use Rattle.program_run.specs.Dealt.{CanBeDealt}
use Rattle.program_run.specs.Reports.{eval_with, lengths_of}
use Rattle.miner_runs.specs.OwnRuns.{OwnRunAsReported, own_nodes}
use Rattle.link_schedule.specs.Net.{NetState, by_number, net_node}
use Rattle.link_schedule.specs.Streams.{MayHave, with_tapes}
use Rattle.delivered_run.specs.States.{CourseState}
use Rattle.delivered_run.specs.States as course
use Rattle.delivered_run.specs.declared.errors.CourseErr.{CourseErr}
use Rattle.delivered_run.specs.declared.running.DeliveredRun.{DeliveredRun}
use Rattle.delivered_run.specs.States.{RunState}
use Rattle.delivered_run.specs.Deliveries.{HasRun, HasRunOf, IsOr, IsOrRefused}

-- ---- three miners with this code, by what was offered and dealt, and the report of the run in the clear

module _ (o : Offered) (d : Dealt) (c : List Function) (budget : ℕ) (tapes : Tapes) (r : Report) where
  -- they run the code as the report says, and each has done all of its part, with all messages of the run
  pub record IsAtItsEnd (given : Delivery) (net : NetState) : Type 0 where
    pub own : OwnRunAsReported o d c budget tapes r
    pub going : net.lost ≡ false
    pub steps : net.budget ≡ budget
    pub delivered : net.delivered ≡ order_of (scripts d r) given
    pub node : (i : Number) → net_node net i ≡ run_of (own_nodes o d c budget tapes) (messages d r tapes) i

  -- these are tapes that the net may have, with which it is so
  pub record HasNetRun (given : Delivery) (ran : RunState) : Type 0 where
    pub run : HasRun d r given ran.run
    pub may : MayHave ran.net tapes
    pub net : IsAtItsEnd given (with_tapes ran.net tapes)

  -- so it is, or the schedule is refused
  abbrev pub IsNetRun : Delivery → Result RunState CourseErr → Type 0
  IsNetRun given result = IsOr d r given (HasNetRun given) result

-- ---- of a program

-- a function for each instance that the program reaches, as the miners run them
abbrev pub IsSettledOf : TypedProgramTree → List Function → Type 0
IsSettledOf p c = (raw : RawCode) × IsCodeOf p raw × (c ≡ settled raw)

abbrev pub file_of : sharing.Dealt → Number → MinerFile
file_of files i = by_number files.first files.second files.third i

module _ (p : TypedProgramTree) (entries : List Entry) (t : FourTapes) (budget : ℕ) (given : Delivery) where
  -- the inputs are dealt in these files, with which the miners have run the program's code
  pub record IsDealtRun (files : sharing.Dealt) (end : RunState) : Type 0 where
    pub code : List Function
    pub of_program : IsSettledOf p code
    pub can : CanBeDealt entries t
    pub file : (i : Number) → file_of files i ≡ dealt i entries t.dealer (lengths_of t)
    pub ran :
        HasNetRun (offered entries (lengths_of t)) (dealt_of entries t.dealer) code budget (miners_of t) (eval_with p entries t budget) given end

  -- the dealer's tape is too short
  pub record IsUndealtRun (run : DeliveredRun) : Type 0 where
    pub few : length t.dealer < need_of entries
    pub ran : HasRunOf p entries t budget given run

  abbrev pub HasCourse : CourseState → Type 0
  HasCourse (course.Dealt files end) = IsDealtRun files end
  HasCourse (course.Undealt run) = IsUndealtRun run

  abbrev pub IsCourseOf : Result CourseState CourseErr → Type 0
  IsCourseOf result = IsOrRefused p entries t budget given HasCourse result
