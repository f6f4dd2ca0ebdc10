-- What is promised of code.
use Rattle.std.specs.Prelude.{◌≡◌, ℕ, List, [], ◌∷◌, ◌++◌, Some, Ok, Err}
use Rattle.std.specs.List.{slice_get}
use Rattle.program_trees.specs.TypedPrograms.{TypedProgramTree}
use Rattle.sc_text.specs.Lists.{Among}
use Rattle.reached_instances.specs.Instances.{Instance}
use Rattle.reached_instances.specs.Calls.{main_of}
use Rattle.reached_instances.specs.Reached.{IsReachedList}
use Rattle.blind_evaluation.specs.Effects.{World, Stage, RunStop, Run}
use Rattle.blind_evaluation.specs.Reports.{Offered, beginning, evaluated}
use Rattle.blind_evaluation.specs.Courses.{TakeSameCourse, IsEnded}
use Rattle.bytecode.specs.Raw.{RawCode}
use Rattle.verified_code.specs.Settled.{settled}
use Rattle.verified_code.specs.Verified.{IsVerified}
use Rattle.verified_code.specs.Steps.{Step, Function}
use Rattle.code_model.specs.Machine.{Machine, step, exec, start}
use Rattle.code_model.specs.Meaning.{fuel, mean_in, mean, blind_mean, AreForward}
use Rattle.code_model.specs.Programs.{code_of}
use Rattle.code_model.specs.Fit.{IsFitAlone, IsFitProgram, the_main}
use Rattle.code_model.specs.Kinded.{AreSingle, IsFitting, IsIn, IsWithin}

abbrev pub MeansTheProgram : TypedProgramTree → List Instance → World → (budget : ℕ) → (answers : List ℕ) → Type 0
MeansTheProgram p is w budget answers = IsFitProgram p is → mean_in w (code_of p is) budget answers ≡ evaluated w p budget answers

-- told the words that the run in the clear opens, and any more after them
abbrev pub BlindTakesTheSameCourse : TypedProgramTree → List Instance → Offered → (budget : ℕ) → (more : List ℕ) → Type 0
BlindTakesTheSameCourse p is o budget more =
    IsFitProgram p is → TakeSameCourse (mean (code_of p is) o budget) (blind_mean (code_of p is) o ((mean (code_of p is) o budget).opened ++ more) budget)

abbrev pub BlindNeverWants : TypedProgramTree → List Instance → Offered → (budget : ℕ) → (more : List ℕ) → Type 0
BlindNeverWants p is o budget more =
    IsFitProgram p is → IsEnded (blind_mean (code_of p is) o ((mean (code_of p is) o budget).opened ++ more) budget).stop

-- of the list of reached instances it is enough that each fits alone, and that `main` has no domain variables
abbrev pub FitsWhereReached : TypedProgramTree → List Instance → Type 0
FitsWhereReached p is = IsReachedList p is → main_of p ≡ the_main ∷ [] → ((i : Instance) → Among i is → IsFitAlone p i) → IsFitProgram p is

-- why the run stopped and where it stood
abbrev pub Stops : World → List Function → (fuel : ℕ) → Stage → Type 0
Stops w c n s = (x : RunStop × Stage) × (exec w c n (start c) s ≡ Some x)

abbrev pub EndsWithinFuel : World → List Function → (budget : ℕ) → (answers : List ℕ) → Type 0
EndsWithinFuel w c budget answers = AreForward c → Stops w c (fuel c budget) (beginning budget answers)

-- ---- KINDS

abbrev pub StaysAt : List Function → Run Machine → Type 0
StaysAt c (Ok x) = IsWithin c x.0
StaysAt c (Err e) = Unit {0}

abbrev pub AreFitting : List Function → Type 0
AreFitting c = (f : Function) → IsIn c f → IsFitting c f

-- the next step is there, and leads to a place within the code, where each register is of its kind
abbrev pub StaysWithin : World → List Function → Machine → Stage → Type 0
StaysWithin w c m s = ((i : Step) × (slice_get m.steps m.pc ≡ Some i)) × StaysAt c (step w c (slice_get m.steps m.pc) m s)

abbrev pub KeepsKinds : World → List Function → Type 0
KeepsKinds w c = AreFitting c → AreSingle w.inputs → (m : Machine) → IsWithin c m → (s : Stage) → StaysWithin w c m s

abbrev pub BeginsWithin : List Function → Type 0
BeginsWithin c = AreFitting c → (main : Function) → slice_get c 0 ≡ Some main → IsWithin c (start c)

-- ---- VERIFIED CODE

-- its steps fit, and its jumps go forward
abbrev pub RunsWhereVerified : RawCode → Type 0
RunsWhereVerified c = IsVerified c → AreFitting (settled c) × AreForward (settled c)
