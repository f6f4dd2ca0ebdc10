-- What is promised of the code of accepted programs.
use Rattle.std.specs.Prelude.{◌≡◌, ◌≤◌, ℕ, List, length, Some}
use Rattle.program_trees.specs.Programs.{ProgramTree}
use Rattle.domain_types.specs.ProgramTypes.{IsAccepted}
use Rattle.std.specs.List.{slice_get}
use Rattle.sc_text.specs.Lists.{Among}
use Rattle.program_trees.specs.TypedPrograms.{TypedFunctionTree, TypedProgramTree}
use Rattle.name_resolution.specs.Functions.{typed_of}
use Rattle.reached_instances.specs.Instances.{Instance}
use Rattle.reached_instances.specs.Reached.{IsReachedList}
use Rattle.reached_instances.specs.Limits.{IsWithinLimits}
use Rattle.language_model.specs.Effects.{World}
use Rattle.language_model.specs.Reports.{evaluated}
use Rattle.verified_code.specs.Settled.{settled}
use Rattle.verified_code.specs.Steps.{Function}
use Rattle.verified_code.specs.Verified.{IsVerified}
use Rattle.code_model.specs.Fit.{IsFitProgram}
use Rattle.code_model.specs.Kinded.{IsIn}
use Rattle.code_model.specs.Meaning.{mean_in}
use Rattle.code_model.specs.Programs.{code_of}
use Rattle.code_model.specs.Instructions.{nowhere}
use Rattle.well_typed.specs.Programs.{IsWellTyped}
use Rattle.well_typed.specs.Sources.{IsWellWritten}
use Rattle.lowered_code.specs.RawCodes.{raw_code_of_program}

-- a well-typed program fits what its code asks of it
abbrev pub FitsWhereWellTyped : TypedProgramTree → List Instance → Type 0
FitsWhereWellTyped p is = IsWellTyped p → IsReachedList p is → IsFitProgram p is

-- in each world, clear or blind, with each budget and whatever the answers
abbrev pub MeansAlways : TypedProgramTree → List Instance → Type 0
MeansAlways p is = (w : World) (budget : ℕ) (answers : List ℕ) → mean_in w (code_of p is) budget answers ≡ evaluated w p budget answers

abbrev pub MeansWhereAccepted : ProgramTree → Type 0
MeansWhereAccepted source =
    IsAccepted source → IsWellWritten source → (p : TypedProgramTree) → typed_of source ≡ Some p → (is : List Instance) → IsReachedList p is
    → MeansAlways p is

-- ---- RAW CODE

-- a function with more registers has none whose number is that for no register
abbrev pub HasNumberedRegisters : List Function → Type 0
HasNumberedRegisters c = (f : Function) → IsIn c f → length f.kinds ≤ nowhere

-- no function of these instances is too large
abbrev pub AreSmall : TypedProgramTree → List Instance → Type 0
AreSmall p is = (i : Instance) → Among i is → (f : TypedFunctionTree) → slice_get p.functions i.function ≡ Some f → f.size ≤ 4095

-- what is typed of a program's tree has few registers for its size
abbrev pub HasNumbersWhereSmall : ProgramTree → Type 0
HasNumbersWhereSmall source =
    (p : TypedProgramTree) → typed_of source ≡ Some p → (is : List Instance) → AreSmall p is → HasNumberedRegisters (code_of p is)

-- it is verified, and settles to the code
abbrev pub IsVerifiedWhereWellTyped : TypedProgramTree → List Instance → Type 0
IsVerifiedWhereWellTyped p is =
    IsWellTyped p → IsReachedList p is → HasNumberedRegisters (code_of p is)
    → IsVerified (raw_code_of_program p is) × (settled (raw_code_of_program p is) ≡ code_of p is)

-- no function of a program that is not refused for its size is too large
abbrev pub IsSmallWithinLimits : TypedProgramTree → List Instance → Type 0
IsSmallWithinLimits p is = IsWithinLimits p → IsReachedList p is → AreSmall p is

-- what is settled of the raw code of an accepted program that is not refused for its size does what the program does
abbrev pub RunsWhereAccepted : ProgramTree → Type 0
RunsWhereAccepted source =
    IsAccepted source → IsWellWritten source → (p : TypedProgramTree) → typed_of source ≡ Some p → (is : List Instance) → IsReachedList p is
    → IsWithinLimits p
    → IsVerified (raw_code_of_program p is)
    × ((w : World) (budget : ℕ) (answers : List ℕ) → mean_in w (settled (raw_code_of_program p is)) budget answers ≡ evaluated w p budget answers)
