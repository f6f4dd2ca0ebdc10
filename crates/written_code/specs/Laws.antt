-- What is promised of the words, lines and names in the code of a program.
use Rattle.std.specs.Prelude.{◌≡◌, ◌^◌, ℕ, Bool, true, IsTrue, nat_lt, List, Some}
use Rattle.std.specs.List.{slice_get}
use Rattle.program_trees.specs.TypedPrograms.{TypedProgramTree}
use Rattle.reached_instances.specs.Instances.{Instance}
use Rattle.verified_code.specs.Steps.{Step, Function}
use Rattle.code_model.specs.Kinded.{IsIn}
use Rattle.code_model.specs.Programs.{code_of}
use Rattle.reached_instances.specs.Reached.{IsReachedList}
use Rattle.well_typed.specs.Programs.{IsWellTyped}
use Rattle.written_code.specs.Says.{InstancesSay, StepSays}

-- what all words, lines and names of the trees of these instances pass, those of their code pass too. The code has truth values of its own,
-- and line 0 where no trap can come
abbrev pub SaysWhatTreesSay : (is_word is_line : ℕ → Bool) → (is_text : List ℕ → Bool) → TypedProgramTree → List Instance → Type 0
SaysWhatTreesSay is_word is_line is_text p is =
    IsTrue (is_word 0) → IsTrue (is_word 1) → IsTrue (is_line 0) → InstancesSay is_word is_line is_text p is
    → (f : Function) → IsIn (code_of p is) f → (place : ℕ) (i : Step) → slice_get f.steps place ≡ Some i → StepSays is_word is_line is_text i

abbrev pub is_word : ℕ → Bool
is_word n = nat_lt n (2 ^ 64)

abbrev pub any_number : ℕ → Bool
any_number n = true

abbrev pub any_text : List ℕ → Bool
any_text text = true

-- the words of the literals
abbrev pub WellTypedSaysWords : TypedProgramTree → List Instance → Type 0
WellTypedSaysWords p is = IsWellTyped p → IsReachedList p is → InstancesSay is_word any_number any_text p is
