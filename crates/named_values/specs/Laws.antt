-- What is promised of the values that code takes.
use Rattle.std.specs.Prelude.{◌≡◌, ◌+◌, ◌≤◌, ℕ, List, ◌++◌, Option, Some, None, Ok, Err}
use Rattle.std.specs.List.{slice_get}
use Rattle.gates.specs.declared.gate.Gate.{Gate}
use Rattle.gates.specs.Clear.{Values, FitFrom}
use Rattle.gates.specs.Counts.{made_by_all}
pub use Rattle.gates.specs.Taken.{HaveSame}
use Rattle.language_model.specs.Effects.{World, Stage, RunStop, Run}
use Rattle.verified_code.specs.Steps.{Function}
use Rattle.code_model.specs.Machine.{Machine, step, exec}
use Rattle.named_values.specs.Named.{Numbers, or_from, AllTake, MachineNames, AreAmong}

-- ---- WHAT GATES TAKE

-- where two lists of values have the same of all numbers that gates take, and stand alike from the gates' own on, both fit the gates if one does
abbrev pub FitByWhatTheyTake : (inputs xs ys : Values) → ℕ → List Gate → Type 0
FitByWhatTheyTake inputs xs ys next gates =
    AllTake (HaveSame xs ys) gates → ((k : ℕ) → next ≤ k → slice_get xs k ≡ slice_get ys k) → FitFrom inputs xs next gates
    → FitFrom inputs ys next gates

-- ---- WHAT CODE TAKES

-- a later stage: its further gates take values of these numbers alone
pub record Grows (N : Numbers) (s u : Stage) : Type 0 where
  pub gates : List Gate
  pub more : u.gates ≡ s.gates ++ gates
  pub made : u.made ≡ s.made + made_by_all gates
  pub take : AllTake N gates

-- a step comes to a later stage, and to a machine that names these numbers alone
abbrev pub Arrives : Numbers → Stage → Run Machine → Type 0
Arrives N s (Ok x) = Grows N s x.1 × AreAmong (MachineNames x.0) N
Arrives N s (Err e) = Grows N s e.1

-- a step takes values that the machine names, or that it makes itself; after it the machine names no others
abbrev pub StepTakesWhatIsNamed : World → List Function → Machine → Stage → Type 0
StepTakesWhatIsNamed w c m s = Arrives (or_from (MachineNames m) s.made) s (step w c (slice_get m.steps m.pc) m s)

abbrev pub Ends : Numbers → Stage → Option (RunStop × Stage) → Type 0
Ends N s None = Unit {0}
Ends N s (Some x) = Grows N s x.1

-- and so do all steps after it
abbrev pub RunTakesWhatIsNamed : World → List Function → ℕ → Machine → Stage → Type 0
RunTakesWhatIsNamed w c k m s = Ends (or_from (MachineNames m) s.made) s (exec w c k m s)
