-- What is promised of three miners that run code, and what is asked of it.
use Rattle.std.specs.Prelude.{◌≡◌, ℕ, nat_le, true, List, length, Some}
use Rattle.std.specs.List.{slice_get}
use Rattle.proto_core.specs.declared.party.Number.{Number}
use Rattle.proto_core.specs.Lists.{AreWords}
use Rattle.protocol_model.specs.Runs.{Tapes}
use Rattle.shared_gates.specs.Model.{miner_of}
use Rattle.language_model.specs.Effects.{Clear}
use Rattle.language_model.specs.Reports.{Offered, world_of, dealing, eval}
use Rattle.program_trees.specs.TypedPrograms.{TypedProgramTree}
use Rattle.reached_instances.specs.Instances.{Instance}
use Rattle.verified_code.specs.Steps.{Function}
use Rattle.code_model.specs.Meaning.{mean, AreForward}
use Rattle.code_model.specs.Programs.{code_of}
use Rattle.code_model.specs.Fit.{IsFitProgram}
use Rattle.gate_laws.specs.Dealt.{Dealt, drawn_by}
use Rattle.gate_laws.specs.Laws.{MayRun, IsDealing}
use Rattle.code_runs.specs.Runs.{RunAsReported}

-- code that may run in the clear and whose jumps go forward, inputs that are dealt, and tapes of words, as long as they are offered
pub record MayRunShared (o : Offered) (d : Dealt) (c : List Function) (tapes : Tapes) : Type 0 where
  pub code : MayRun (world_of Clear o) d c
  pub main : Function
  pub first : slice_get c 0 ≡ Some main
  pub forward : AreForward c
  pub dealt : IsDealing d
  pub dealer : nat_le (dealing (world_of Clear o)) o.dealer ≡ true
  pub words : (i : Number) → AreWords (tapes i)
  pub long : (i : Number) → length (tapes i) ≡ drawn_by o.lengths (miner_of i)

-- they run such code as it runs in the clear
module _ (o : Offered) (d : Dealt) (c : List Function) (budget : ℕ) (tapes : Tapes) where
  abbrev pub MinersRunTheCode : Type 0
  MinersRunTheCode = MayRunShared o d c tapes → RunAsReported o d c budget tapes (mean c o budget)

-- where the code is that of a program, the report is that of its evaluation
abbrev pub MinersRunTheProgram : Offered → Dealt → TypedProgramTree → List Instance → (budget : ℕ) → Tapes → Type 0
MinersRunTheProgram o d p is budget tapes =
    IsFitProgram p is → MayRunShared o d (code_of p is) tapes → RunAsReported o d (code_of p is) budget tapes (eval p o budget)
