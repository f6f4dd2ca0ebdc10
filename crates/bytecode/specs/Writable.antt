-- Which code can be written so that it is read again.
use Rattle.std.specs.Prelude.{ℕ, ◌<◌, ◌^◌, List, [], ◌∷◌, length, Bool, not, ◌&&◌, IsTrue}
use Rattle.std.specs.List.{AllByRecursion as Each, list_any}
use Rattle.std.specs.Str.{bytes_eq}
use Rattle.sc_text.specs.Name.{is_name}
use Rattle.bytecode.specs.Raw.{Raw, Literal, Move, Store, Binary, Not, Cast, Classify, Fill, At, Put, Size, Cat, Sum, Bits, Lookup, Declassify, Argument}
use Rattle.bytecode.specs.Raw.{Publish, Assert, Branch, Jump, Call, Return, ReturnNone, RawFunction, RawCode}
use Rattle.bytecode.specs.Written.{Number, sized, code_numbers}

-- the number's value has room in its bytes
abbrev pub Fits : Number → Type 0
Fits (sized n x) = x < 256 ^ n

-- the operator and the value of a branch are within their ranges
abbrev pub IsProper : Raw → Type 0
IsProper (Literal d x) = Unit {0}
IsProper (Move d r) = Unit {0}
IsProper (Store d r) = Unit {0}
IsProper (Binary o d a b line) = o < 14
IsProper (Not d r) = Unit {0}
IsProper (Cast d r) = Unit {0}
IsProper (Classify d r) = Unit {0}
IsProper (Fill d n x line) = Unit {0}
IsProper (At d a i line) = Unit {0}
IsProper (Put a i x line) = Unit {0}
IsProper (Size d r) = Unit {0}
IsProper (Cat d a b line) = Unit {0}
IsProper (Sum d r) = Unit {0}
IsProper (Bits d r line) = Unit {0}
IsProper (Lookup d a i line) = Unit {0}
IsProper (Declassify d r) = Unit {0}
IsProper (Argument d name line) = Unit {0}
IsProper (Publish name r) = Unit {0}
IsProper (Assert r line) = Unit {0}
IsProper (Branch r v target) = v < 2
IsProper (Jump target) = Unit {0}
IsProper (Call f d arguments line) = Unit {0}
IsProper (Return r) = Unit {0}
IsProper ReturnNone = Unit {0}

-- a name: 1 to 64 letters, digits and `_`; none of the earlier ones
abbrev pub is_new_name : List (List ℕ) → List ℕ → Bool
is_new_name earlier name = is_name name && not (list_any (bytes_eq name) earlier)

-- each is a name and none stands twice, nor among the earlier ones
abbrev pub AreNewNames : List (List ℕ) → List (List ℕ) → Type 0
AreNewNames earlier [] = Unit {0}
AreNewNames earlier (name ∷ names) = IsTrue (is_new_name earlier name) × AreNewNames (name ∷ earlier) names

abbrev pub AreProper : List RawFunction → Type 0
AreProper = Each (λ f. Each IsProper f.body)

pub record IsWritable (code : RawCode) : Type 0 where
  -- also says how many names, functions, registers and instructions there may be
  pub fits : Each Fits (code_numbers code)
  pub names : AreNewNames [] code.names
  pub some_function : 0 < length code.functions
  pub instructions : AreProper code.functions
