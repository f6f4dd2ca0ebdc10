-- Values and registers of a kind, and code whose steps have operands of the kinds that they want.
use Rattle.std.specs.Prelude.{◌≡◌, ◌<◌, ℕ, ◌+◌, Bool, true, false, ◌||◌, List, [], ◌∷◌, length, Option, Some, None}
use Rattle.std.specs.List.{slice_get}
use Rattle.program_trees.specs.declared.expression.DataType.{DataType}
use Rattle.program_trees.specs.declared.expression.DataType.TheVariants.{Uint64}
use Rattle.program_trees.specs.declared.expression.DataType.TheVariants as datatype
use Rattle.sc_text.specs.Lists.{Among}
use Rattle.program_trees.specs.declared.operators.Cast as casts
use Rattle.program_trees.specs.declared.operators.Operands.{Operands}
use Rattle.program_trees.specs.declared.operators.Operands.TheVariants.{Scalars, ArrayAndScalar, ScalarAndArray, Arrays}
use Rattle.blind_evaluation.specs.Effects.{GivenInput}
use Rattle.blind_evaluation.specs.Values.{Value, is_secret}
use Rattle.blind_evaluation.specs.Operations.{result_shape}
use Rattle.bytecode.specs.declared.kind.Kind.{Kind}
use Rattle.verified_code.specs.Fitting.{looked_up_of}
use Rattle.verified_code.specs.Steps.{kind_shape, Step, Literal, Move, Store, Binary, Not, Cast, Classify, Fill, At, Put, Size, Cat, Sum, Bits, Lookup, Declassify}
use Rattle.verified_code.specs.Steps.{Argument, Publish, Assert, Branch, Jump, Call, Return, ReturnNone, Function}
use Rattle.blind_evaluation.specs.Evaluation.{Frame}
use Rattle.code_model.specs.Machine.{Caller, Machine}
use Rattle.code_model.specs.Kinds.{kind_of}

-- ---- VALUES

-- as private as the kind says, of its shape, and of one element where it is no array
pub record IsOf (k : Kind) (v : Value) : Type 0 where
  pub secret : is_secret v.secrecy ≡ k.secret
  pub shape : v.shape ≡ kind_shape k
  pub single : k.array ≡ false → length v.words ≡ 1

-- an input that is no array has one element
abbrev pub IsSingle : GivenInput → Type 0
IsSingle x = x.shape.array ≡ false → length x.words ≡ 1

abbrev pub AreSingle : List GivenInput → Type 0
AreSingle xs = (x : GivenInput) → Among x xs → IsSingle x

-- ---- KINDS

abbrev pub public_scalar : DataType → Kind
public_scalar e = record { secret = false; element = e; array = false }

abbrev pub with_secret : Bool → Kind → Kind
with_secret b k = record { secret = b; element = k.element; array = k.array }

abbrev pub with_array : Bool → Kind → Kind
with_array b k = record { secret = k.secret; element = k.element; array = b }

abbrev pub cast_source : casts.Cast → DataType
cast_source c = c.given

abbrev pub cast_target : casts.Cast → DataType
cast_target c = c.wanted

abbrev pub left_array : Operands → Bool
left_array Scalars = false
left_array ArrayAndScalar = true
left_array ScalarAndArray = false
left_array Arrays = true

abbrev pub right_array : Operands → Bool
right_array Scalars = false
right_array ArrayAndScalar = false
right_array ScalarAndArray = true
right_array Arrays = true

-- ---- STEPS

-- a register is there, and is of this kind
abbrev pub HasKind : List Kind → ℕ → Kind → Type 0
HasKind kinds r k = slice_get kinds r ≡ Some k

-- the arguments of a call are of the kinds of the called function's first registers
abbrev pub ArgumentsHave : List Kind → List ℕ → List Kind → Type 0
ArgumentsHave kinds [] ks = Unit {0}
ArgumentsHave kinds (r ∷ rs) [] = ⊥
ArgumentsHave kinds (r ∷ rs) (k ∷ ks) = HasKind kinds r k × ArgumentsHave kinds rs ks

-- a result that is wanted is given, and its register is of its kind
abbrev pub ResultFits : List Kind → Option ℕ → Option Kind → Type 0
ResultFits kinds None given = Unit {0}
ResultFits kinds (Some d) given = (k : Kind) × (given ≡ Some k) × HasKind kinds d k

-- the operands of a step of this function are such that its registers keep their kinds
abbrev pub StepFits : List Function → Function → Step → Type 0
StepFits p f (Literal d e n) = HasKind f.kinds d (public_scalar e)
StepFits p f (Move d r) = (k : Kind) × HasKind f.kinds r k × HasKind f.kinds d k
StepFits p f (Store d r) = (k : Kind) × HasKind f.kinds r k × HasKind f.kinds d k
StepFits p f (Binary line op ds d a b) =
    (x : Kind) × (y : Kind) × HasKind f.kinds a x × HasKind f.kinds b y × (x.array ≡ left_array ds) × (y.array ≡ right_array ds)
    × HasKind f.kinds d (kind_of (x.secret || y.secret) (result_shape op ds))
StepFits p f (Not d r) = (k : Kind) × HasKind f.kinds r k × HasKind f.kinds d k
StepFits p f (Cast c d r) =
    (b : Bool) × (a : Bool) × HasKind f.kinds r (record { secret = b; element = cast_source c; array = a })
    × HasKind f.kinds d (record { secret = b; element = cast_target c; array = a })
StepFits p f (Classify d r) = (k : Kind) × HasKind f.kinds r k × HasKind f.kinds d (with_secret true k)
StepFits p f (Fill line d n x) = (k : Kind) × HasKind f.kinds x k × HasKind f.kinds d (with_array true k)
StepFits p f (At line d a i) = (k : Kind) × HasKind f.kinds a k × HasKind f.kinds d (with_array false k)
StepFits p f (Put line a i x) = (k : Kind) × HasKind f.kinds a k × (k.array ≡ true)
StepFits p f (Size d r) = HasKind f.kinds d (public_scalar Uint64)
StepFits p f (Cat line d a b) = (k : Kind) × HasKind f.kinds a k × HasKind f.kinds b k × (k.array ≡ true) × HasKind f.kinds d k
StepFits p f (Sum d r) = (k : Kind) × HasKind f.kinds r k × HasKind f.kinds d (with_array false k)
StepFits p f (Bits line d r) = (k : Kind) × HasKind f.kinds r k × HasKind f.kinds d (with_array true (with_secret k.secret (public_scalar datatype.Bool)))
StepFits p f (Lookup line d a i) = (k : Kind) × (l : Kind) × HasKind f.kinds a k × HasKind f.kinds i l × HasKind f.kinds d (looked_up_of k l)
StepFits p f (Declassify d r) = (k : Kind) × HasKind f.kinds r k × HasKind f.kinds d (with_secret false k)
StepFits p f (Argument line k text d) = HasKind f.kinds d k
StepFits p f (Publish text r) = Unit {0}
StepFits p f (Assert line r) = Unit {0}
StepFits p f (Branch r b target) = target < length f.steps
StepFits p f (Jump target) = target < length f.steps
StepFits p f (Call line g d args) =
    (h : Function) × (slice_get p g ≡ Some h) × ArgumentsHave f.kinds args h.kinds × ResultFits f.kinds d h.gives
StepFits p f (Return r) = (k : Kind) × (f.gives ≡ Some k) × HasKind f.kinds r k
StepFits p f ReturnNone = f.gives ≡ None

abbrev pub is_return : Step → Bool
is_return (Return r) = true
is_return ReturnNone = true
is_return i = false

-- each step fits, and all but a return have a step after them
pub record IsFitting (p : List Function) (f : Function) : Type 0 where
  pub some : 0 < length f.steps
  pub fits : (place : ℕ) (i : Step) → slice_get f.steps place ≡ Some i → StepFits p f i
  pub goes_on : (place : ℕ) (i : Step) → slice_get f.steps place ≡ Some i → is_return i ≡ false → place + 1 < length f.steps

abbrev pub IsIn : List Function → Function → Type 0
IsIn p f = (g : ℕ) × (slice_get p g ≡ Some f)

-- ---- MACHINES

abbrev pub RegistersFit : List Kind → Frame → Type 0
RegistersFit kinds registers = (r : ℕ) (k : Kind) → HasKind kinds r k → IsOf k (registers r)

-- each caller goes on in a function of the code, with registers of its kinds, and has one for the result if it wants it
abbrev pub AreWithin : List Function → Option Kind → List Caller → Type 0
AreWithin p given [] = Unit {0}
AreWithin p given (c ∷ cs) =
    (f : Function) × IsIn p f × (c.steps ≡ f.steps) × (c.pc < length f.steps) × RegistersFit f.kinds c.registers × ResultFits f.kinds c.result given
    × AreWithin p f.gives cs

-- a machine is in a function of the code, at a step that is there, and each register is of its kind
pub record IsWithin (p : List Function) (m : Machine) : Type 0 where
  pub own : Function
  pub there : IsIn p own
  pub steps : m.steps ≡ own.steps
  pub place : m.pc < length own.steps
  pub registers : RegistersFit own.kinds m.registers
  pub callers : AreWithin p own.gives m.stack
