-- A program's run by three miners, under every order of delivery.
use Rattle.std.specs.Prelude.{ℕ, List}
use Rattle.tape_file.specs.Tapes.{FourTapes}
use Rattle.value_file.specs.declared.inputs.Entry.{Entry}
use Rattle.program_trees.specs.TypedPrograms.{TypedProgramTree}
use Rattle.reached_instances.specs.Instances.{Instance}
use Rattle.reached_instances.specs.Reached.{IsReachedList}
use Rattle.clear_eval.specs.Offers.{offered}
use Rattle.verified_code.specs.Settled.{settled}
use Rattle.written_code.specs.RawCodes.{raw_code_of_program}
use Rattle.code_inputs.specs.TapeMaps.{miners_of}
use Rattle.code_inputs.specs.Inputs.{dealt_of}
use Rattle.code_runs.specs.Runs.{RunAsReported}
use Rattle.program_run.specs.Accepted.{IsAccepted}
use Rattle.program_run.specs.Reports.{eval_with, lengths_of}
use Rattle.program_run.specs.Dealt.{CanBeDealt}

-- each miner with its shares of the inputs and its tape alone, they run the program's code as its evaluation in the clear reports, in any
-- order of delivery
pub record RunsOnShares (p : TypedProgramTree) (entries : List Entry) (t : FourTapes) (budget : ℕ) : Type 0 where
  pub reached : List Instance
  pub are : IsReachedList p reached
  pub run :
      RunAsReported (offered entries (lengths_of t)) (dealt_of entries t.dealer) (settled (raw_code_of_program p reached)) budget (miners_of t)
      (eval_with p entries t budget)

abbrev pub RunsWhereAccepted : TypedProgramTree → List Entry → FourTapes → (budget : ℕ) → Type 0
RunsWhereAccepted p entries t budget = IsAccepted p → CanBeDealt entries t → RunsOnShares p entries t budget
