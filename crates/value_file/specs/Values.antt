-- The value of an entry, over the data in its file.
use Rattle.std.specs.Prelude.{ℕ, ◌<◌, ◌^◌, List, [], ◌∷◌, length, All, Option, Some, None, option_map, option_and_then}
use Rattle.std.specs.Int.{w64, cast_unsigned}
use Rattle.serde_json.specs.Data.{Data, Items, no_items, item}
use Rattle.serde_json.specs.Find as find
use Rattle.value_file.specs.declared.value.DataType.{DataType}
use Rattle.value_file.specs.declared.value.DataType.TheVariants as data_type
use Rattle.value_file.specs.declared.value.Shape.{Shape}
use Rattle.value_file.specs.declared.value.Shape.TheVariants as shape
use Rattle.value_file.specs.declared.value.Value.{Value}
use Rattle.value_file.specs.declared.value.Value.TheVariants.{Number, Integer, Truth, Numbers, Integers, Truths}

-- the data type of a value
abbrev pub type_of : Value → DataType
type_of (Number n) = data_type.Uint64
type_of (Integer x) = data_type.Int64
type_of (Truth b) = data_type.Bool
type_of (Numbers ns) = data_type.Uint64
type_of (Integers xs) = data_type.Int64
type_of (Truths bs) = data_type.Bool

-- a scalar, or an array of so many elements
abbrev pub shape_of : Value → Shape
shape_of (Number n) = shape.Scalar
shape_of (Integer x) = shape.Scalar
shape_of (Truth b) = shape.Scalar
shape_of (Numbers ns) = shape.Array (length ns)
shape_of (Integers xs) = shape.Array (length xs)
shape_of (Truths bs) = shape.Array (length bs)

-- the count of elements of a shape
abbrev pub size_of : Shape → ℕ
size_of shape.Scalar = 1
size_of (shape.Array count) = count

-- the count of a value's elements; a scalar is one
abbrev pub count_of : Value → ℕ
count_of value = size_of (shape_of value)

-- what is held of numbers with a sign are words of 64 bits
abbrev pub HoldsWords : Value → Type 0
HoldsWords (Number n) = Unit {0}
HoldsWords (Integer x) = x < 2 ^ 64
HoldsWords (Truth b) = Unit {0}
HoldsWords (Numbers ns) = Unit {0}
HoldsWords (Integers xs) = All (λ x. x < 2 ^ 64) xs
HoldsWords (Truths bs) = Unit {0}

-- a number below 2^64, without a point, an exponent or a sign
abbrev pub number_in : Data → Option ℕ
number_in d = option_and_then find.as_u64 (find.as_number d)

-- the two's complement word of a number from -2^63 to 2^63 - 1, without a point or an exponent; `-0` is none
abbrev pub integer_in : Data → Option ℕ
integer_in d = option_map (cast_unsigned w64) (option_and_then find.as_i64 (find.as_number d))

-- one more element in front, where each is good
abbrev pub joined : {A : Type 0} → Option A → Option (List A) → Option (List A)
joined (Some x) (Some xs) = Some (x ∷ xs)
joined (Some x) None = None
joined None xs = None

-- the elements, where each passes
abbrev pub all_in : {A : Type 0} → (Data → Option A) → Items → Option (List A)
all_in one no_items = Some []
all_in one (item d ds) = joined (one d) (all_in one ds)

-- the value of an array, where there is an array, else that of a scalar
abbrev pub value_from : {A : Type 0} → (A → Value) → (List A → Value) → (Data → Option A) → Option Items → Data → Option Value
value_from scalar list one (Some ds) d = option_map list (all_in one ds)
value_from scalar list one None d = option_map scalar (one d)

-- a scalar or an array of the type
abbrev pub value_of : DataType → Data → Option Value
value_of data_type.Uint64 d = value_from Number Numbers number_in (find.as_array d) d
value_of data_type.Int64 d = value_from Integer Integers integer_in (find.as_array d) d
value_of data_type.Bool d = value_from Truth Truths find.as_bool (find.as_array d) d
