-- Machines whose values stand, and code whose steps take values that have gates.
use Rattle.std.specs.Prelude.{◌≡◌, ℕ, ◌<◌, false, IsTrue, List, [], ◌∷◌, Some, Ok, Err}
use Rattle.std.specs.List.{slice_get}
use Rattle.program_trees.specs.declared.expression.DataType.{DataType}
use Rattle.program_trees.specs.declared.expression.DataType.TheVariants.{Uint64}
use Rattle.program_trees.specs.declared.expression.DataType.TheVariants as datatype
use Rattle.shared_plans.specs.Shares as shares
use Rattle.shared_plans.specs.GateRuns.{GateRun}
use Rattle.language_model.specs.Effects.{World, Stage, Run}
use Rattle.language_model.specs.Values.{Value}
use Rattle.language_model.specs.Evaluation.{Frame}
use Rattle.bytecode.specs.declared.kind.Kind.{Kind}
use Rattle.verified_code.specs.Fitting.{is_number}
use Rattle.verified_code.specs.Steps.{Step, Literal, Binary, Not, Cast, Fill, Put, Cat, Sum, Bits, Lookup, Function}
use Rattle.code_model.specs.Machine.{Caller, Machine}
use Rattle.code_model.specs.Kinded.{HasKind, IsIn, cast_source, left_array, right_array}
use Rattle.gate_laws.specs.Facts.{IsProper, none_of, AllStand, facts_of, run_at, IsAt, Grows, Comes}
use Rattle.gate_laws.specs.Dealt.{bound, Dealt}
use Rattle.gate_laws.specs.Rows.{element_taken, secrecy_suits}

-- ---- MACHINES

abbrev pub ValueStands : GateRun → Value → Type 0
ValueStands r v = AllStand r (facts_of v) × IsProper v

abbrev pub FrameStands : GateRun → Frame → Type 0
FrameStands r registers = (k : ℕ) → ValueStands r (registers k)

abbrev pub CallersStand : GateRun → List Caller → Type 0
CallersStand r [] = Unit {0}
CallersStand r (c ∷ cs) = FrameStands r c.registers × CallersStand r cs

-- the value of each register stands, of those of the callers too
pub record MachineStands (r : GateRun) (m : Machine) : Type 0 where
  pub registers : FrameStands r m.registers
  pub callers : CallersStand r m.stack

module _ (w : World) (d : Dealt) where
  -- a later stage, where the machine stands
  pub record Arrives (s u : Stage) (kinds : List shares.Kind) (m : Machine) : Type 0 where
    pub later : List shares.Kind
    pub grown : Grows w d s u kinds later
    pub stage : IsAt w d later none_of u
    pub stands : MachineStands (run_at w d later u) m

  abbrev pub ArrivesAt : Stage → List shares.Kind → Run Machine → Type 0
  ArrivesAt s kinds (Ok x) = Arrives s x.1 kinds x.0
  ArrivesAt s kinds (Err e) = Comes w d s e.1 kinds none_of [] (Unit {0})

-- ---- CODE

abbrev pub HasElement : List Kind → ℕ → DataType → Type 0
HasElement kinds r e = (k : Kind) × HasKind kinds r k × (k.element ≡ e)

abbrev pub HasNumbers : List Kind → ℕ → Type 0
HasNumbers kinds r = (k : Kind) × HasKind kinds r k × IsTrue (is_number k.element)

-- literals are in range, and operands have the elements that the step takes, and gates where they are private
abbrev pub StepTakes : List Kind → Step → Type 0
StepTakes kinds (Literal d e n) = n < bound e
StepTakes kinds (Binary line op ds d a b) =
    (x : Kind) × (y : Kind) × HasKind kinds a x × HasKind kinds b y × (x.element ≡ element_taken op) × (y.element ≡ element_taken op)
    × (x.array ≡ left_array ds) × (y.array ≡ right_array ds) × secrecy_suits op x.secret y.secret
StepTakes kinds (Not d r) = HasElement kinds r datatype.Bool
StepTakes kinds (Cast c d r) = HasElement kinds r (cast_source c)
StepTakes kinds (Fill line d n x) = (k : Kind) × HasKind kinds x k × (k.array ≡ false)
StepTakes kinds (Put line a i x) = (k : Kind) × (l : Kind) × HasKind kinds a k × HasKind kinds x l × (l.element ≡ k.element) × (l.array ≡ false)
StepTakes kinds (Cat line d a b) = (k : Kind) × (l : Kind) × HasKind kinds a k × HasKind kinds b l × (l.element ≡ k.element)
StepTakes kinds (Sum d r) = HasNumbers kinds r
StepTakes kinds (Bits line d r) = HasElement kinds r Uint64
StepTakes kinds (Lookup line d a i) = HasNumbers kinds a × HasElement kinds i Uint64
StepTakes kinds i = Unit {0}

abbrev pub AreTaking : List Function → Type 0
AreTaking c = (f : Function) → IsIn c f → (place : ℕ) (i : Step) → slice_get f.steps place ≡ Some i → StepTakes f.kinds i
