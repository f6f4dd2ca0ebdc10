-- What is promised of raw code: that it can be written, and that no function of it is heavier than its tree.
use Rattle.std.specs.Prelude.{◌≡◌, ℕ, ◌+◌, ◌*◌, ◌^◌, ◌<◌, ◌≤◌, List, [], ◌∷◌, length, Some}
use Rattle.std.specs.List.{slice_get, flat_map}
use Rattle.sc_text.specs.Name.{is_name}
use Rattle.program_trees.specs.Programs.{ProgramTree}
use Rattle.domain_types.specs.ProgramTypes.{IsAccepted}
use Rattle.program_trees.specs.TypedPrograms.{TypedProgramTree}
use Rattle.name_resolution.specs.Functions.{typed_of}
use Rattle.reached_instances.specs.Instances.{Instance}
use Rattle.reached_instances.specs.Reached.{IsReachedList}
use Rattle.reached_instances.specs.Limits.{sizes, IsWithinLimits}
use Rattle.bytecode.specs.Raw.{RawFunction}
use Rattle.bytecode.specs.Writable.{IsWritable}
use Rattle.verified_code.specs.Steps.{Step, Function}
use Rattle.code_model.specs.Kinded.{IsIn}
use Rattle.lowered_code.specs.Instructions.{function_names, raw_code_of}
use Rattle.lowered_code.specs.Right.{AreRight}
use Rattle.written_code.specs.Sources.{IsWellWritten}
use Rattle.lowered_code.specs.RawCodes.{raw_code_of_program}
use Rattle.written_code.specs.Says.{StepSays}
use Rattle.written_code.specs.Laws.{is_word}
use Rattle.written_code.specs.WrittenSources.{is_line, IsPlacedProgram}

-- ---- RAW CODE

-- counts and places have two bytes
abbrev pub IsFew : ℕ → Type 0
IsFew n = n < 2 ^ 16

-- there are so few functions, steps of each, and names in all steps; and each step's word, line and name can be written
pub record HasRoom (c : List Function) : Type 0 where
  pub functions : IsFew (length c)
  pub steps : (f : Function) → IsIn c f → IsFew (length f.steps)
  pub names : IsFew (length (flat_map function_names c))
  pub says : (f : Function) → IsIn c f → (place : ℕ) (i : Step) → slice_get f.steps place ≡ Some i → StepSays is_word is_line is_name i

abbrev pub IsWritableWhereRight : List Function → Type 0
IsWritableWhereRight c = AreRight c → HasRoom c → IsWritable (raw_code_of c)

-- ---- PROGRAMS

-- the code of an accepted program within the limits of size, whose lines and names are those of a text
abbrev pub IsWritableWhereAccepted : ProgramTree → Type 0
IsWritableWhereAccepted source =
    IsAccepted source → IsWellWritten source → IsPlacedProgram source → (p : TypedProgramTree) → typed_of source ≡ Some p → (is : List Instance)
    → IsReachedList p is → IsWithinLimits p → IsWritable (raw_code_of_program p is)

-- ---- WEIGHTS

-- of a function of this size, which is the number of its tree's nodes and its parameters
abbrev pub weight : ℕ → ℕ
weight size = 16 * size

pub record IsWithinWeight (size : ℕ) (f : RawFunction) : Type 0 where
  pub instructions : length f.body ≤ weight size
  pub registers : length f.registers ≤ weight size

-- one function for each size. Sizes are counted up to the largest number of 32 bits, and nothing is said of a function that reaches it
abbrev pub AreWithinWeight : List ℕ → List RawFunction → Type 0
AreWithinWeight [] [] = Unit {0}
AreWithinWeight (size ∷ sizes) (f ∷ fs) = (size + 1 < 2 ^ 32 → IsWithinWeight size f) × AreWithinWeight sizes fs
AreWithinWeight _ _ = ⊥

-- the code of whatever instances of a typed program
abbrev pub IsWithinWeightWhereTyped : ProgramTree → Type 0
IsWithinWeightWhereTyped source =
    (p : TypedProgramTree) → typed_of source ≡ Some p → (is : List Instance) → AreWithinWeight (sizes p is) (raw_code_of_program p is).functions
