-- What is promised of the code of accepted programs, and of the inputs that it runs on.
use Rattle.std.specs.Prelude.{◌≡◌, ℕ, List, Some}
use Rattle.program_trees.specs.Programs.{ProgramTree}
use Rattle.domain_types.specs.ProgramTypes as types
use Rattle.program_trees.specs.TypedPrograms.{TypedProgramTree}
use Rattle.name_resolution.specs.Functions.{typed_of}
use Rattle.reached_instances.specs.Instances.{Instance}
use Rattle.reached_instances.specs.Reached.{IsReachedList}
use Rattle.reached_instances.specs.Limits.{IsWithinLimits}
use Rattle.value_file.specs.declared.inputs.Entry.{Entry}
use Rattle.language_model.specs.Effects.{GivenInput, Clear}
use Rattle.language_model.specs.Reports.{Offered, world_of, eval}
use Rattle.verified_code.specs.Settled.{settled}
use Rattle.code_model.specs.Kinded.{AreSingle}
use Rattle.code_model.specs.Laws.{AreFitting}
use Rattle.written_code.specs.Programs.{IsWellTyped}
use Rattle.written_code.specs.Sources.{IsWellWritten}
use Rattle.lowered_code.specs.RawCodes.{raw_code_of_program}
use Rattle.gate_laws.specs.Offers.{AreOffered}
use Rattle.gate_laws.specs.Machines.{AreTaking}
use Rattle.gate_laws.specs.Laws.{LiteralsAreWords, IsDealing, MayRun, GatesSuit}
use Rattle.code_inputs.specs.Inputs.{AreGivenAs, AreSound, Suffice, dealt_of}

-- ---- ACCEPTED PROGRAMS

-- a program that the checker accepts and the grammar allows, its typed tree and its instances, within the limits of size
pub record IsAccepted (source : ProgramTree) (p : TypedProgramTree) (is : List Instance) : Type 0 where
  pub typed : types.IsAccepted source
  pub written : IsWellWritten source
  pub resolved : typed_of source ≡ Some p
  pub reached : IsReachedList p is
  pub within : IsWithinLimits p

-- ---- LITERALS

abbrev pub HasWordsWhereWellTyped : TypedProgramTree → List Instance → Type 0
HasWordsWhereWellTyped p is = IsWellTyped p → IsReachedList p is → LiteralsAreWords (raw_code_of_program p is)

-- so its steps fit, and take values that have gates
abbrev pub SuitsWhereAccepted : ProgramTree → Type 0
SuitsWhereAccepted source =
    (p : TypedProgramTree) (is : List Instance) → IsAccepted source p is
    → AreFitting (settled (raw_code_of_program p is)) × AreTaking (settled (raw_code_of_program p is))

-- ---- INPUTS

abbrev pub AreDealtWhereSound : List Entry → (dealer : List ℕ) → Type 0
AreDealtWhereSound entries dealer = AreSound entries → Suffice entries dealer → IsDealing (dealt_of entries dealer)

-- whatever the dealer's words
abbrev pub AreOfferedWhereSound : List Entry → (dealer : List ℕ) → List GivenInput → Type 0
AreOfferedWhereSound entries dealer inputs =
    AreSound entries → AreGivenAs entries inputs → AreOffered (dealt_of entries dealer) 0 inputs × AreSingle inputs

-- ---- RUNS

-- the code of an accepted program may run on a file's inputs
abbrev pub RunsOnInputs : ProgramTree → List Entry → (dealer : List ℕ) → Offered → Type 0
RunsOnInputs source entries dealer o =
    AreSound entries → AreGivenAs entries o.inputs → (p : TypedProgramTree) (is : List Instance) → IsAccepted source p is
    → MayRun (world_of Clear o) (dealt_of entries dealer) (settled (raw_code_of_program p is))

-- the gates of a program's evaluation suit what is dealt
abbrev pub EvaluationSuits : ProgramTree → List Entry → (dealer : List ℕ) → Offered → (budget : ℕ) → Type 0
EvaluationSuits source entries dealer o budget =
    AreSound entries → Suffice entries dealer → AreGivenAs entries o.inputs → (p : TypedProgramTree) (is : List Instance) → IsAccepted source p is
    → GatesSuit (world_of Clear o) (dealt_of entries dealer) (eval p o budget)
