-- The meaning of code: the report of its run, in the clear or blind.
use Rattle.std.specs.Prelude.{◌≡◌, ℕ, ◌+◌, ◌*◌, ◌<◌, nat_le, if◌then◌else◌, max, length, List, [], ◌∷◌, Option, Some, unwrap_or}
use Rattle.std.specs.List.{slice_get}
use Rattle.sc_text.specs.declared.end.Ending.TheVariants as ending
use Rattle.blind_evaluation.specs.Effects.{World, Stage, RunStop, Ended, Clear, Answers}
use Rattle.blind_evaluation.specs.Reports.{Report, Offered, world_of, public_part, dealing, not_dealt, beginning, reported}
use Rattle.verified_code.specs.Steps.{Step, Jump, Function}
use Rattle.code_model.specs.Machine.{exec, start}

abbrev pub longest : List Function → ℕ
longest [] = 0
longest (f ∷ fs) = max (length f.steps) (longest fs)

-- how many steps a run can have where jumps go forward: a branch and a call are charged, and a return answers a call
abbrev pub fuel : List Function → ℕ → ℕ
fuel p budget = budget * (longest p + 1) + longest p + 1

abbrev pub report_at : World → ℕ → RunStop × Stage → Report
report_at w budget x = reported w budget x.0 x.1

-- a run that had no end would be out of budget
abbrev pub stopped_or : Stage → Option (RunStop × Stage) → RunStop × Stage
stopped_or s stopped = unwrap_or stopped (Ended ending.Budget, s)

abbrev pub mean_in : World → List Function → (budget : ℕ) → (answers : List ℕ) → Report
mean_in w p budget answers =
    if nat_le (dealing w) w.dealer then
    report_at w budget (stopped_or (beginning budget answers) (exec w p (fuel p budget) (start p) (beginning budget answers)))
    else not_dealt w

-- in the clear
abbrev pub mean : List Function → Offered → (budget : ℕ) → Report
mean p o budget = mean_in (world_of Clear o) p budget []

-- for one who knows the public part and what is opened
abbrev pub blind_mean : List Function → Offered → (answers : List ℕ) → (budget : ℕ) → Report
blind_mean p o answers budget = mean_in (world_of Answers (public_part o)) p budget answers

-- ---- CODE WHOSE RUNS END

-- each jump goes forward
abbrev pub IsForward : List Step → Type 0
IsForward code = (pc target : ℕ) → slice_get code pc ≡ Some (Jump target) → pc < target

abbrev pub AreForward : List Function → Type 0
AreForward p = (g : ℕ) (f : Function) → slice_get p g ≡ Some f → IsForward f.steps
