-- What is promised of code as turns of a run.
use Rattle.std.specs.Prelude.{◌≡◌, ◌≢◌, ℕ, List, ◌++◌, [], Some, Ok, Err}
use Rattle.gates.specs.declared.gate.Gate.{Gate}
use Rattle.language_model.specs.Beginnings.{Begins}
use Rattle.language_model.specs.Effects.{World, Clear, Stage, Short, Run}
use Rattle.language_model.specs.Learned.{learned_of}
use Rattle.language_model.specs.Reports.{Offered, world_of}
use Rattle.verified_code.specs.Steps.{Declassify, Function}
use Rattle.gate_laws.specs.Machine.{Machine, step}
use Rattle.driven_nodes.specs.Steps.{ToRun}
use Rattle.driven_nodes.specs.Twins.{Course, Twins}
use Rattle.code_places.specs.Places.{Place, next_step, step_told, first_place, when_told}
use Rattle.code_places.specs.Twins.{GoAlike, EndAlike}

-- ---- BESIDE THE RUN IN THE CLEAR

-- in the clear nothing has to be told
abbrev pub code_course : World → List Function → Course Place Gate
code_course w c = record { step = λ p. step_told w c p []; gates = λ p. p.stage.gates; opened = λ p. learned_of p.stage.events }

-- the code's steps in the clear
abbrev pub in_the_clear : Offered → List Function → Course Place Gate
in_the_clear o c = code_course (world_of Clear o) c

-- each step in the clear has one beside it
abbrev pub CodeHasTwins : Offered → List Function → Type 0
CodeHasTwins o c = Twins (in_the_clear o c) (when_told o c) GoAlike EndAlike

abbrev pub BeginsAlike : List Function → (budget : ℕ) → Type 0
BeginsAlike c budget = GoAlike (first_place c budget) (first_place c budget)

-- ---- STEPS IN ANY WORLD

abbrev pub stage_behind : {A : Type 0} → Run A → Stage
stage_behind (Ok x) = x.1
stage_behind (Err e) = e.1

abbrev pub OnlyDeclassifyOpens : World → List Function → Type 0
OnlyDeclassifyOpens w c =
    (m : Machine) (s : Stage) → ((d r : ℕ) → next_step m ≢ Some (Declassify d r)) → (stage_behind (step w c (next_step m) m s)).opened ≡ s.opened

-- a later stage: gates may have been made, but no event was told, no word opened and no answer taken
pub record HasToldNothing (s u : Stage) : Type 0 where
  pub events : u.events ≡ s.events
  pub opened : u.opened ≡ s.opened
  pub answers : u.answers ≡ s.answers
  pub gates : Begins s.gates u.gates

-- so a step that wants words can be done again with them
abbrev pub WantsBeforeItTells : World → List Function → Type 0
WantsBeforeItTells w c = (m : Machine) (s u : Stage) → step w c (next_step m) m s ≡ Err (Short, u) → HasToldNothing s u

-- ---- GATES

-- gates that are run in one are run part by part
pub record RunsInParts {G : Type 0} (to_run : ToRun G) : Type 0 where
  pub none : (before : List G) → to_run before [] ≡ []
  pub joins : (before xs ys : List G) → to_run before (xs ++ ys) ≡ to_run before xs ++ to_run (before ++ xs) ys
