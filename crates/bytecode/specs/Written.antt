-- Code as it is written: a list of numbers, each in so many bytes.
use Rattle.std.specs.Prelude.{ℕ, zero, suc, ◌/◌, ◌%◌, List, [], ◌∷◌, ◌++◌, length, map}
use Rattle.std.specs.List.{flat_map}
use Rattle.bytecode.specs.Kinds.{kind_byte, return_byte}
use Rattle.bytecode.specs.Raw.{Raw, Literal, Move, Store, Binary, Not, Cast, Classify, Fill, At, Put, Size, Cat, Sum, Bits, Lookup, Declassify, Argument}
use Rattle.bytecode.specs.Raw.{Publish, Assert, Branch, Jump, Call, Return, ReturnNone, RawFunction, RawCode}

-- a number in so many bytes
pub data Number : Type 0 where
  sized : (bytes value : ℕ) → Number

-- the lowest byte first
abbrev pub little : ℕ → ℕ → List ℕ
little zero x = []
little (suc n) x = x % 256 ∷ little n (x / 256)

abbrev pub bytes_of : List Number → List ℕ
bytes_of [] = []
bytes_of (sized n x ∷ numbers) = little n x ++ bytes_of numbers

abbrev pub byte : ℕ → Number
byte = sized 1

-- a register, a name's or function's place, a target or a count
abbrev pub short : ℕ → Number
short = sized 2

abbrev pub source_line : ℕ → Number
source_line = sized 4

abbrev pub word : ℕ → Number
word = sized 8

-- the tag, then the operands
abbrev pub instruction_numbers : Raw → List Number
instruction_numbers (Literal d x) = byte 0x01 ∷ short d ∷ word x ∷ []
instruction_numbers (Move d r) = byte 0x02 ∷ short d ∷ short r ∷ []
instruction_numbers (Store d r) = byte 0x03 ∷ short d ∷ short r ∷ []
instruction_numbers (Binary o d a b line) = byte 0x04 ∷ byte o ∷ short d ∷ short a ∷ short b ∷ source_line line ∷ []
instruction_numbers (Not d r) = byte 0x05 ∷ short d ∷ short r ∷ []
instruction_numbers (Cast d r) = byte 0x06 ∷ short d ∷ short r ∷ []
instruction_numbers (Classify d r) = byte 0x07 ∷ short d ∷ short r ∷ []
instruction_numbers (Fill d n x line) = byte 0x08 ∷ short d ∷ short n ∷ short x ∷ source_line line ∷ []
instruction_numbers (At d a i line) = byte 0x09 ∷ short d ∷ short a ∷ short i ∷ source_line line ∷ []
instruction_numbers (Put a i x line) = byte 0x0a ∷ short a ∷ short i ∷ short x ∷ source_line line ∷ []
instruction_numbers (Size d r) = byte 0x0b ∷ short d ∷ short r ∷ []
instruction_numbers (Cat d a b line) = byte 0x0c ∷ short d ∷ short a ∷ short b ∷ source_line line ∷ []
instruction_numbers (Sum d r) = byte 0x0d ∷ short d ∷ short r ∷ []
instruction_numbers (Bits d r line) = byte 0x0e ∷ short d ∷ short r ∷ source_line line ∷ []
instruction_numbers (Lookup d a i line) = byte 0x19 ∷ short d ∷ short a ∷ short i ∷ source_line line ∷ []
instruction_numbers (Declassify d r) = byte 0x0f ∷ short d ∷ short r ∷ []
instruction_numbers (Argument d name line) = byte 0x10 ∷ short d ∷ short name ∷ source_line line ∷ []
instruction_numbers (Publish name r) = byte 0x11 ∷ short name ∷ short r ∷ []
instruction_numbers (Assert r line) = byte 0x12 ∷ short r ∷ source_line line ∷ []
instruction_numbers (Branch r v target) = byte 0x13 ∷ short r ∷ byte v ∷ short target ∷ []
instruction_numbers (Jump target) = byte 0x14 ∷ short target ∷ []
instruction_numbers (Call f d arguments line) = byte 0x16 ∷ short f ∷ short d ∷ short (length arguments) ∷ (map short arguments ++ source_line line ∷ [])
instruction_numbers (Return r) = byte 0x17 ∷ short r ∷ []
instruction_numbers ReturnNone = byte 0x18 ∷ []

-- what stands of a function before all bodies
abbrev pub head_numbers : RawFunction → List Number
head_numbers f =
    short f.parameters ∷ byte (return_byte f.gives) ∷ short (length f.registers)
    ∷ (map (λ kind. byte (kind_byte kind)) f.registers ++ short (length f.body) ∷ [])

abbrev pub body_numbers : RawFunction → List Number
body_numbers f = flat_map instruction_numbers f.body

abbrev pub name_numbers : List ℕ → List Number
name_numbers name = byte (length name) ∷ map byte name

-- `SC3P`, then the version
abbrev pub opening_numbers : List Number
opening_numbers = byte 83 ∷ byte 67 ∷ byte 51 ∷ byte 80 ∷ byte 2 ∷ []

abbrev pub code_numbers : RawCode → List Number
code_numbers code =
    opening_numbers
    ++ (short (length code.names) ∷ (flat_map name_numbers code.names
    ++ (short (length code.functions) ∷ (flat_map head_numbers code.functions ++ flat_map body_numbers code.functions))))

abbrev pub written_code : RawCode → List ℕ
written_code code = bytes_of (code_numbers code)
