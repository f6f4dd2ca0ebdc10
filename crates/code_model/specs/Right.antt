-- Steps that are right: all that is asked of their instructions is so.
use Rattle.std.specs.Prelude.{◌≡◌, ◌<◌, ◌≤◌, ℕ, ◌+◌, Bool, true, false, ◌||◌, IsTrue, List, [], ◌∷◌, length, take, Option, Some, None, is_some}
use Rattle.std.specs.List.{slice_get}
use Rattle.program_trees.specs.declared.expression.DataType.{DataType}
use Rattle.program_trees.specs.declared.expression.DataType.TheVariants.{Uint64, Int64}
use Rattle.program_trees.specs.declared.expression.DataType.TheVariants as datatype
use Rattle.program_trees.specs.declared.operators.BinaryOperator.{BinaryOperator}
use Rattle.program_trees.specs.declared.operators.BinaryOperator.TheVariants.{Words, Ints, Bools}
use Rattle.program_trees.specs.Operators.{on_ints}
use Rattle.code_model.specs.Operations.{result_shape}
use Rattle.bytecode.specs.declared.kind.Kind.{Kind}
use Rattle.verified_code.specs.Fitting.{secrecy_fits, is_number, may_be_literal}
use Rattle.verified_code.specs.Steps.{Step, Function, Literal, Move, Store, Binary, Not, Cast, Classify, Fill, At, Put, Size, Cat, Sum, Bits, Lookup, Declassify}
use Rattle.verified_code.specs.Steps.{Argument, Publish, Assert, Branch, Jump, Call, Return, ReturnNone}
use Rattle.code_model.specs.Kinds.{kind_of}
use Rattle.code_model.specs.Kinded.{public_scalar, cast_source, cast_target, left_array, right_array, HasKind, ResultFits}
use Rattle.code_model.specs.Kinded.{is_return, IsIn}
use Rattle.code_model.specs.Instructions.{nowhere}

abbrev pub kind : (secret : Bool) → DataType → (array : Bool) → Kind
kind secret element array = record { secret = secret; element = element; array = array }

abbrev pub operand_element : BinaryOperator → DataType
operand_element (Words op) = Uint64
operand_element (Ints op) = Int64
operand_element (Bools op) = datatype.Bool

-- numbers with a sign have no operator that works bit by bit
abbrev pub has_operator : BinaryOperator → Bool
has_operator (Words op) = true
has_operator (Ints op) = is_some (on_ints op)
has_operator (Bools op) = true

-- registers of these kinds, one by one, and as many
abbrev pub AreOf : List Kind → List ℕ → List Kind → Type 0
AreOf kinds [] [] = Unit {0}
AreOf kinds [] (k ∷ ks) = ⊥
AreOf kinds (r ∷ rs) [] = ⊥
AreOf kinds (r ∷ rs) (k ∷ ks) = HasKind kinds r k × AreOf kinds rs ks

-- in code of these functions, in a function that has registers of these kinds, gives this back, and has so many steps
module _ (c : List Function) (kinds : List Kind) (gives : Option Kind) (count : ℕ) where
  abbrev pub IsRight : Step → Type 0
  IsRight (Literal d e n) = HasKind kinds d (public_scalar e) × IsTrue (may_be_literal e n)
  IsRight (Move d r) = (k : Kind) × HasKind kinds r k × HasKind kinds d k
  IsRight (Store d r) = (k : Kind) × HasKind kinds r k × HasKind kinds d k
  IsRight (Binary line op ds d a b) =
      (x : Bool) × (y : Bool) × HasKind kinds a (kind x (operand_element op) (left_array ds)) × HasKind kinds b (kind y (operand_element op) (right_array ds))
      × IsTrue (has_operator op) × IsTrue (secrecy_fits op x y) × HasKind kinds d (kind_of (x || y) (result_shape op ds))
  IsRight (Not d r) = (s : Bool) × (a : Bool) × HasKind kinds r (kind s datatype.Bool a) × HasKind kinds d (kind s datatype.Bool a)
  IsRight (Cast x d r) = (s : Bool) × (a : Bool) × HasKind kinds r (kind s (cast_source x) a) × HasKind kinds d (kind s (cast_target x) a)
  IsRight (Classify d r) = (e : DataType) × (a : Bool) × HasKind kinds r (kind false e a) × HasKind kinds d (kind true e a)
  IsRight (Fill line d n x) =
      (s : Bool) × (e : DataType) × HasKind kinds n (public_scalar Uint64) × HasKind kinds x (kind s e false) × HasKind kinds d (kind s e true)
  IsRight (At line d a i) =
      (s : Bool) × (e : DataType) × HasKind kinds a (kind s e true) × HasKind kinds i (public_scalar Uint64) × HasKind kinds d (kind s e false)
  IsRight (Put line a i x) =
      (s : Bool) × (e : DataType) × HasKind kinds a (kind s e true) × HasKind kinds i (public_scalar Uint64) × HasKind kinds x (kind s e false)
  IsRight (Size d r) = (s : Bool) × (e : DataType) × HasKind kinds r (kind s e true) × HasKind kinds d (public_scalar Uint64)
  IsRight (Cat line d a b) = (s : Bool) × (e : DataType) × HasKind kinds a (kind s e true) × HasKind kinds b (kind s e true) × HasKind kinds d (kind s e true)
  IsRight (Sum d r) = (s : Bool) × (e : DataType) × IsTrue (is_number e) × HasKind kinds r (kind s e true) × HasKind kinds d (kind s e false)
  IsRight (Bits line d r) = (s : Bool) × (a : Bool) × HasKind kinds r (kind s Uint64 a) × HasKind kinds d (kind s datatype.Bool true)
  IsRight (Lookup line d a i) =
      (e : DataType) × (m : Bool) × IsTrue (is_number e) × HasKind kinds a (kind true e true) × HasKind kinds i (kind true Uint64 m)
      × HasKind kinds d (kind true e m)
  IsRight (Declassify d r) = (s : Bool) × (e : DataType) × (a : Bool) × HasKind kinds r (kind s e a) × HasKind kinds d (kind false e a)
  IsRight (Argument line k text d) = HasKind kinds d k
  IsRight (Publish text r) = (k : Kind) × HasKind kinds r k
  IsRight (Assert line r) = HasKind kinds r (public_scalar datatype.Bool)
  IsRight (Branch r b target) = HasKind kinds r (public_scalar datatype.Bool) × (target < count)
  IsRight (Jump target) = target < count
  IsRight (Call line g d arguments) =
      (h : Function) × (slice_get c g ≡ Some h) × AreOf kinds arguments (take h.parameters h.kinds) × ResultFits kinds d h.gives
  IsRight (Return r) = (k : Kind) × (gives ≡ Some k) × HasKind kinds r k
  IsRight ReturnNone = gives ≡ None

-- its registers have numbers, its parameters are registers, and each step is right; only a return has no step after it
pub record IsRightFunction (c : List Function) (f : Function) : Type 0 where
  pub registers : length f.kinds ≤ nowhere
  pub parameters : f.parameters ≤ length f.kinds
  pub some : 0 < length f.steps
  pub goes_on : (place : ℕ) (i : Step) → slice_get f.steps place ≡ Some i → is_return i ≡ false → place + 1 < length f.steps
  pub forward : (place target : ℕ) → slice_get f.steps place ≡ Some (Jump target) → place < target
  pub steps : (place : ℕ) (i : Step) → slice_get f.steps place ≡ Some i → IsRight c f.kinds f.gives (length f.steps) i

-- the first function is main, which has no parameters and gives nothing back
pub record AreRight (c : List Function) : Type 0 where
  pub main : Function
  pub begins : slice_get c 0 ≡ Some main
  pub plain : main.parameters ≡ 0
  pub nothing : main.gives ≡ None
  pub functions : (f : Function) → IsIn c f → IsRightFunction c f
