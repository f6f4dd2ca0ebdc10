-- What is promised of three miners that run code, each by its own shares and tape alone.
use Rattle.std.specs.Prelude.{ℕ, List}
use Rattle.protocol_model.specs.Runs.{Tapes}
use Rattle.language_model.specs.Reports.{Offered}
use Rattle.verified_code.specs.Steps.{Function}
use Rattle.miner_core.specs.Meaning.{mean}
use Rattle.code_places.specs.Dealt.{Dealt}
use Rattle.code_runs.specs.Laws.{MayRunShared}
use Rattle.tape_file.specs.Tapes.{FourTapes}
use Rattle.value_file.specs.declared.inputs.Entry.{Entry}
use Rattle.program_trees.specs.TypedPrograms.{TypedProgramTree}
use Rattle.program_run.specs.Accepted.{IsAccepted}
use Rattle.program_run.specs.Dealt.{CanBeDealt}
use Rattle.miner_runs.specs.OwnRuns.{OwnRunAsReported}
use Rattle.miner_runs.specs.Programs.{OwnRunsOnShares}

-- they run code that may run as it runs in the clear
module _ (o : Offered) (d : Dealt) (c : List Function) (budget : ℕ) (tapes : Tapes) where
  abbrev pub OwnMinersRunTheCode : Type 0
  OwnMinersRunTheCode = MayRunShared o d c tapes → OwnRunAsReported o d c budget tapes (mean c o budget)

abbrev pub OwnRunsWhereAccepted : TypedProgramTree → List Entry → FourTapes → (budget : ℕ) → Type 0
OwnRunsWhereAccepted p entries t budget = IsAccepted p → CanBeDealt entries t → OwnRunsOnShares p entries t budget
