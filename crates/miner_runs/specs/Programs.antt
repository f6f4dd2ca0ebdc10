-- A program's run by three miners, each by its own shares and tape alone.
use Rattle.std.specs.Prelude.{ℕ, List}
use Rattle.tape_file.specs.Tapes.{FourTapes}
use Rattle.value_file.specs.declared.inputs.Entry.{Entry}
use Rattle.program_trees.specs.TypedPrograms.{TypedProgramTree}
use Rattle.reached_instances.specs.Instances.{Instance}
use Rattle.reached_instances.specs.Reached.{IsReachedList}
use Rattle.program_run.specs.Offers.{offered}
use Rattle.verified_code.specs.Settled.{settled}
use Rattle.program_run.specs.RawCodes.{raw_code_of_program}
use Rattle.view_model.specs.TapeMaps.{miners_of}
use Rattle.program_run.specs.Inputs.{dealt_of}
use Rattle.program_run.specs.Reports.{eval_with, lengths_of}
use Rattle.miner_runs.specs.OwnRuns.{OwnRunAsReported}

-- they run the program's code as its evaluation in the clear reports
pub record OwnRunsOnShares (p : TypedProgramTree) (entries : List Entry) (t : FourTapes) (budget : ℕ) : Type 0 where
  pub reached : List Instance
  pub are : IsReachedList p reached
  pub run :
      OwnRunAsReported (offered entries (lengths_of t)) (dealt_of entries t.dealer) (settled (raw_code_of_program p reached)) budget (miners_of t)
      (eval_with p entries t budget)
