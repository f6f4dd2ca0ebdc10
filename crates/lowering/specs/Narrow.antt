-- Which instructions have numbers that are small enough for their fields.
use Rattle.std.specs.Prelude.{ℕ, min, nat_lt, Bool, true, ◌&&◌, List, map}
use Rattle.std.specs.List.{flat_map, list_all, AllByRecursion as Each}
use Rattle.bytecode.specs.Raw.{Raw, Literal, Move, Store, Binary, Not, Cast, Classify, Fill, At, Put, Size, Cat, Sum, Bits, Lookup, Declassify, Argument, Publish}
use Rattle.bytecode.specs.Raw.{Assert, Branch, Jump, Call, Return, ReturnNone, RawFunction, RawCode}
use Rattle.bytecode.specs.Writable.{Fits, IsWritable}
use Rattle.bytecode.specs.Written.{Number, head_numbers, body_numbers}
use Rattle.lowering.specs.declared.errors.LowerErr.{LowerErr}
use Rattle.lowering.specs.declared.errors.LowerErr.TheVariants.{Memory, TooLarge}

-- a number that two bytes hold
abbrev pub is_short : ℕ → Bool
is_short n = nat_lt n 65536

-- each number of two bytes is one
abbrev pub are_short : Raw → Bool
are_short (Literal d x) = is_short d
are_short (Move d r) = is_short d && is_short r
are_short (Store d r) = is_short d && is_short r
are_short (Binary o d a b line) = is_short d && (is_short a && is_short b)
are_short (Not d r) = is_short d && is_short r
are_short (Cast d r) = is_short d && is_short r
are_short (Classify d r) = is_short d && is_short r
are_short (Fill d n x line) = is_short d && (is_short n && is_short x)
are_short (At d a i line) = is_short d && (is_short a && is_short i)
are_short (Put a i x line) = is_short a && (is_short i && is_short x)
are_short (Size d r) = is_short d && is_short r
are_short (Cat d a b line) = is_short d && (is_short a && is_short b)
are_short (Sum d r) = is_short d && is_short r
are_short (Bits d r line) = is_short d && is_short r
are_short (Lookup d a i line) = is_short d && (is_short a && is_short i)
are_short (Declassify d r) = is_short d && is_short r
are_short (Argument d name line) = is_short d && is_short name
are_short (Publish name r) = is_short name && is_short r
are_short (Assert r line) = is_short r
are_short (Branch r v target) = is_short r && is_short target
are_short (Jump target) = is_short target
are_short (Call f d arguments line) = is_short f && (is_short d && list_all is_short arguments)
are_short (Return r) = is_short r
are_short ReturnNone = true

-- the largest number that two bytes hold, for a larger one
abbrev pub capped : ℕ → ℕ
capped n = min n 65535

abbrev pub capped_instruction : Raw → Raw
capped_instruction (Literal d x) = Literal (capped d) x
capped_instruction (Move d r) = Move (capped d) (capped r)
capped_instruction (Store d r) = Store (capped d) (capped r)
capped_instruction (Binary o d a b line) = Binary o (capped d) (capped a) (capped b) line
capped_instruction (Not d r) = Not (capped d) (capped r)
capped_instruction (Cast d r) = Cast (capped d) (capped r)
capped_instruction (Classify d r) = Classify (capped d) (capped r)
capped_instruction (Fill d n x line) = Fill (capped d) (capped n) (capped x) line
capped_instruction (At d a i line) = At (capped d) (capped a) (capped i) line
capped_instruction (Put a i x line) = Put (capped a) (capped i) (capped x) line
capped_instruction (Size d r) = Size (capped d) (capped r)
capped_instruction (Cat d a b line) = Cat (capped d) (capped a) (capped b) line
capped_instruction (Sum d r) = Sum (capped d) (capped r)
capped_instruction (Bits d r line) = Bits (capped d) (capped r) line
capped_instruction (Lookup d a i line) = Lookup (capped d) (capped a) (capped i) line
capped_instruction (Declassify d r) = Declassify (capped d) (capped r)
capped_instruction (Argument d name line) = Argument (capped d) (capped name) line
capped_instruction (Publish name r) = Publish (capped name) (capped r)
capped_instruction (Assert r line) = Assert (capped r) line
capped_instruction (Branch r v target) = Branch (capped r) v (capped target)
capped_instruction (Jump target) = Jump (capped target)
capped_instruction (Call f d arguments line) = Call (capped f) (capped d) (map capped arguments) line
capped_instruction (Return r) = Return (capped r)
capped_instruction ReturnNone = ReturnNone

-- a refusal of a number that is too large: not each of these fits
abbrev pub IsJust : LowerErr → List Number → Type 0
IsJust Memory numbers = Unit {0}
IsJust TooLarge numbers = Each Fits numbers → ⊥

-- a program is refused as too large only if its code can't be written
abbrev pub IsJustRefusal : LowerErr → RawCode → Type 0
IsJustRefusal Memory code = Unit {0}
IsJustRefusal TooLarge code = IsWritable code → ⊥

-- likewise of one of some functions
abbrev pub IsJustOfSome : LowerErr → List RawFunction → Type 0
IsJustOfSome Memory fs = Unit {0}
IsJustOfSome TooLarge fs = Each Fits (flat_map head_numbers fs) → Each Fits (flat_map body_numbers fs) → ⊥
