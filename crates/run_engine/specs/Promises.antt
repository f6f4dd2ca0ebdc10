-- What each command promises: its effect over files that are as they must be, and for which files it is refused.
use Rattle.std.specs.Prelude.{◌≡◌, ◌⊎◌, ◌≤◌, ◌||◌, ℕ, List, length, Bool, true, false, Ok}
use Rattle.outside.specs.Files.{Contents}
use Rattle.reached_instances.specs.Instances.{Instance}
use Rattle.reached_instances.specs.Reached.{IsReachedList}
use Rattle.command_frame.specs.declared.status.Status.{Status}
use Rattle.command_frame.specs.declared.status.Status.TheVariants.{Memory}
use Rattle.command_frame.specs.Answer.{Effect}
use Rattle.command_frame.specs.Moments.{AreSteady, Moment, Reach, files_alone}
use Rattle.command_frame.specs.Status.{can_breach, can_refuse}
use Rattle.command_frame.specs.Whole.{HasFailed, IsDone}
use Rattle.command_words.specs.Ask.{CompileAsk, DealAsk, EvalAsk, RunAsk, UpgradeAsk}
use Rattle.bytecode.specs.Raw.{RawCode}
use Rattle.protocol_model.specs.Network.{Accepted, Delivery}
use Rattle.input_share.specs.Dealing.{need_of}
use Rattle.language_model.specs.Reports.{Report}
use Rattle.tape_file.specs.Tapes.{FourTapes}
use Rattle.program_trees.specs.TypedPrograms.{TypedProgramTree}
use Rattle.value_file.specs.declared.inputs.Entry.{Entry}
use Rattle.program_commands.specs.Check.{check_effect}
use Rattle.program_commands.specs.Compile.{compile_effect, written_effect}
use Rattle.program_commands.specs.Upgrade.{old_code_at}
use Rattle.program_commands.specs.Deal.{deal_effect}
use Rattle.program_commands.specs.Eval.{report_effect, report_for}
use Rattle.miner_commands.specs.Run.{run_told}
use Rattle.program_commands.specs.Held.{HoldsTyped, HoldsEvaluation, HoldsDeal}
use Rattle.run_engine.specs.Runs.{HoldsRun, net_for}

-- over steady objects the wanted effect is there whole, or memory ran out
abbrev pub Gives : Reach → (Effect → Type 0) → (before after : Moment) → Status → Type 0
Gives reach Wanted before after given =
    (effect : Effect) → Wanted effect → AreSteady reach before → IsDone before after effect given ⊎ (given ≡ Memory)

-- what files hold or another miner did may be refused with this status
abbrev pub is_refusal : Status → Bool
is_refusal s = can_refuse s || can_breach s

-- what a command keeps, where what it reaches tells what it holds: its effect, and that it is refused exactly for what is not as it must be, or
-- a fault is told. Its refusals have these statuses; one that the command can end with is no refusal.
pub record KeepsOf (reach : Reach) (refuses : Status → Bool) (Wanted : Effect → Type 0) (Refused : Status → Type 0) (ends : Status → Bool)
    (before after : Moment) (given : Status) : Type 0 where
  pub gives : Gives reach Wanted before after given
  pub refused_only : refuses given ≡ true → ends given ≡ false → Refused given
  pub refused_if : (status : Status) → Refused status → (given ≡ status) ⊎ HasFailed reach before after given

-- the same of a command over files alone
abbrev pub Keeps : (Effect → Type 0) → (Status → Type 0) → (ends : Status → Bool) → (before after : Moment) → Status → Type 0
Keeps Wanted Refused ends before after given = KeepsOf files_alone can_refuse Wanted Refused ends before after given

-- ---- the effects

-- of `check`, over an accepted program within the limits
abbrev pub CheckEffect : (path : List ℕ) → Contents → Effect → Type 0
CheckEffect path files effect = (program : TypedProgramTree) × HoldsTyped path files program × (effect ≡ check_effect)

-- of `compile`, over an accepted program within the limits: its code, with a function for each instance that it reaches
abbrev pub CompileEffect : CompileAsk → Contents → Effect → Type 0
CompileEffect ask files effect = (program : TypedProgramTree) × (reached : List Instance) × HoldsTyped ask.program files program
    × IsReachedList program reached × (effect ≡ compile_effect ask.code program reached)

-- of `upgrade`, over code of the first version that may run: the same code as it is written today, and how many functions it has
abbrev pub UpgradeEffect : UpgradeAsk → Contents → Effect → Type 0
UpgradeEffect ask files effect = (old : RawCode) × (old_code_at files ask.old ≡ Ok old) × (effect ≡ written_effect ask.code old)

-- of `eval` and `need`, over an accepted program within the limits and a good input: a text of the evaluation in the clear, and its end
abbrev pub EvalEffect : (Report → List ℕ) → EvalAsk → Contents → Effect → Type 0
EvalEffect text ask files effect = (program : TypedProgramTree) × (entries : List Entry) × HoldsEvaluation ask files program entries
    × (effect ≡ report_effect text (report_for program entries ask.budget))

-- of `run`, over files that are all as they must be, and a complete delivery: the text of the evaluation with tapes of these lengths,
-- its end, and, where they are asked for, the miners' views and the links that were delivered
abbrev pub RunEffect : RunAsk → Contents → Effect → Type 0
RunEffect ask files effect = (program : TypedProgramTree) × (entries : List Entry) × (tapes : FourTapes) × (delivery : Delivery)
    × HoldsRun ask files program entries tapes delivery × (net_for ask program entries tapes delivery ≡ Accepted)
    × (effect ≡ run_told ask program entries tapes delivery)

-- of `deal`, over files that are as they must be and a dealer's tape that has words enough: its six files
abbrev pub DealEffect : DealAsk → Contents → Effect → Type 0
DealEffect ask files effect = (entries : List Entry) × (tapes : FourTapes) × HoldsDeal ask files entries tapes × (need_of entries ≤ length tapes.dealer)
    × (effect ≡ deal_effect ask.to entries tapes)
