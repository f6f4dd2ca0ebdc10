-- The instruction that a step is, and the raw code of functions.
use Rattle.std.specs.Prelude.{ℕ, ◌+◌, List, [], ◌∷◌, ◌++◌, fold, map, Option, Some, None, if◌then◌else◌}
use Rattle.std.specs.List.{flat_map, list_any}
use Rattle.std.specs.Str.{bytes_eq}
use Rattle.program_trees.specs.declared.operators.BinaryOperator.{BinaryOperator}
use Rattle.program_trees.specs.Operators.{sign_of}
use Rattle.bytecode.specs.InMemory.{operator_byte}
use Rattle.bytecode.specs.Raw.{Raw, RawFunction, RawCode}
use Rattle.bytecode.specs.Raw as raw
use Rattle.verified_code.specs.Steps.{Step, Function, Literal, Move, Store, Binary, Not, Cast, Classify, Fill, At, Put, Size, Cat, Sum, Bits, Lookup, Declassify}
use Rattle.verified_code.specs.Steps.{Argument, Publish, Assert, Branch, Jump, Call, Return, ReturnNone}
use Rattle.code_model.specs.Words.{truth_word}

-- ---- NUMBERS

-- an operator's byte: that of its sign
abbrev pub operator_number : BinaryOperator → ℕ
operator_number op = operator_byte (sign_of op)

-- the number that stands for no register
abbrev pub nowhere : ℕ
nowhere = 65535

abbrev pub register_or_nowhere : Option ℕ → ℕ
register_or_nowhere None = nowhere
register_or_nowhere (Some d) = d

-- the place of a name among names that have it
abbrev pub place_among : List ℕ → List (List ℕ) → ℕ
place_among text [] = 0
place_among text (name ∷ names) = if bytes_eq text name then 0 else place_among text names + 1

-- ---- INSTRUCTIONS

module _ (names : List (List ℕ)) where
  -- operator, dimensions and kinds are left to the registers
  abbrev pub instruction : Step → Raw
  instruction (Literal d e n) = raw.Literal d n
  instruction (Move d r) = raw.Move d r
  instruction (Store d r) = raw.Store d r
  instruction (Binary line op ds d a b) = raw.Binary (operator_number op) d a b line
  instruction (Not d r) = raw.Not d r
  instruction (Cast c d r) = raw.Cast d r
  instruction (Classify d r) = raw.Classify d r
  instruction (Fill line d n x) = raw.Fill d n x line
  instruction (At line d a i) = raw.At d a i line
  instruction (Put line a i x) = raw.Put a i x line
  instruction (Size d r) = raw.Size d r
  instruction (Cat line d a b) = raw.Cat d a b line
  instruction (Sum d r) = raw.Sum d r
  instruction (Bits line d r) = raw.Bits d r line
  instruction (Lookup line d a i) = raw.Lookup d a i line
  instruction (Declassify d r) = raw.Declassify d r
  instruction (Argument line k text d) = raw.Argument d (place_among text names) line
  instruction (Publish text r) = raw.Publish (place_among text names) r
  instruction (Assert line r) = raw.Assert r line
  instruction (Branch r b target) = raw.Branch r (truth_word b) target
  instruction (Jump target) = raw.Jump target
  instruction (Call line g d arguments) = raw.Call g (register_or_nowhere d) arguments line
  instruction (Return r) = raw.Return r
  instruction ReturnNone = raw.ReturnNone

  abbrev pub raw_function : Function → RawFunction
  raw_function f = record { parameters = f.parameters; gives = f.gives; registers = f.kinds; body = map instruction f.steps }

-- ---- NAMES

abbrev pub step_names : Step → List (List ℕ)
step_names (Argument line k text d) = text ∷ []
step_names (Publish text r) = text ∷ []
step_names _ = []

abbrev pub function_names : Function → List (List ℕ)
function_names f = flat_map step_names f.steps

-- one more after names, unless it is there
abbrev pub naming : List (List ℕ) → List ℕ → List (List ℕ)
naming names text = if list_any (bytes_eq text) names then names else names ++ text ∷ []

abbrev pub naming_all : List (List ℕ) → List (List ℕ) → List (List ℕ)
naming_all = fold naming

-- each once, in the order of first use in the code
abbrev pub names_of : List Function → List (List ℕ)
names_of c = naming_all [] (flat_map function_names c)

-- ---- CODE

abbrev pub raw_code_of : List Function → RawCode
raw_code_of c = record { names = names_of c; functions = map (raw_function (names_of c)) c }
