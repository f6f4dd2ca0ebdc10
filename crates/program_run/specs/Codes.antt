-- The code of a program, and code that three miners may run.
use Rattle.std.specs.Prelude.{◌≡◌, ℕ, List}
use Rattle.bytecode.specs.Raw.{RawCode}
use Rattle.written_code.specs.RawCodes.{raw_code_of_program}
use Rattle.reached_instances.specs.Instances.{Instance}
use Rattle.reached_instances.specs.Reached.{IsReachedList}
use Rattle.program_trees.specs.TypedPrograms.{TypedProgramTree}
use Rattle.language_model.specs.Reports.{Report}
use Rattle.value_file.specs.declared.inputs.Entry.{Entry}
use Rattle.tape_file.specs.Tapes.{FourTapes}
use Rattle.verified_code.specs.Settled.{settled}
use Rattle.lowering.specs.Meaning.{mean}
use Rattle.clear_eval.specs.Offers.{offered}
use Rattle.code_inputs.specs.TapeMaps.{miners_of}
use Rattle.code_inputs.specs.Inputs.{dealt_of}
use Rattle.code_runs.specs.Laws.{MayRunShared}
use Rattle.program_run.specs.Reports.{lengths_of}

-- a function for each instance that the program reaches
pub record IsCodeOf (p : TypedProgramTree) (given : RawCode) : Type 0 where
  pub reached : List Instance
  pub are : IsReachedList p reached
  pub code : given ≡ raw_code_of_program p reached

-- code that three miners may run on shares of these entries, dealt with the dealer's words, and on these tapes
abbrev pub CanRunOn : RawCode → List Entry → FourTapes → Type 0
CanRunOn code entries tapes =
    MayRunShared (offered entries (lengths_of tapes)) (dealt_of entries tapes.dealer) (settled code) (miners_of tapes)

-- what its run in the clear gives
abbrev pub code_report : RawCode → List Entry → FourTapes → (budget : ℕ) → Report
code_report code entries tapes budget = mean (settled code) (offered entries (lengths_of tapes)) budget
