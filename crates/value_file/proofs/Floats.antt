-- A public file has no number with a point.
use Rattle.std.proofs.Common.{◌≡◌, ℕ, ℤ, pos, negsuc, ◌||◌, false, List, [], ◌∷◌, map, refl, ap}
use Rattle.std.specs.Int.{w64, cast_signed}
use Rattle.serde_json.specs.Data.{Data, boolean, number}
use Rattle.serde_json.specs.Find.{of_integer}
use Rattle.serde_json.specs.View.{items_of}
use Rattle.serde_json.specs.Written.{has_float, items_have_float}
use Rattle.value_file.specs.declared.value.DataType.{DataType}
use Rattle.value_file.specs.declared.value.DataType.TheVariants as data_type
use Rattle.value_file.specs.declared.value.Shape.{Shape}
use Rattle.value_file.specs.declared.value.Shape.TheVariants as shape
use Rattle.value_file.specs.declared.value.Value.{Value}
use Rattle.value_file.specs.declared.value.Value.TheVariants.{Number, Integer, Truth, Numbers, Integers, Truths}
use Rattle.value_file.specs.declared.public.PublicValue.{PublicValue}
use Rattle.value_file.specs.declared.public.PublicValue.TheVariants.{Known, Hidden}
use Rattle.value_file.specs.declared.public.PublicEntry.{PublicEntry}
use Rattle.value_file.specs.Values.{type_of}
use Rattle.value_file.specs.Public.{number_data, integer_data, value_data, shape_data, type_data, entry_data, entry_data_of, part_data}

pub items_have_float-map : {A : Type 0} (f : A → Data) → ((x : A) → has_float (f x) ≡ false) → (xs : List A) → items_have_float (items_of (map f xs)) ≡ false
items_have_float-map f none [] = refl
items_have_float-map f none (x ∷ xs) = rw (none x, items_have_float-map f none xs) refl

has_float-integer : (z : ℤ) → has_float (number (of_integer z)) ≡ false
has_float-integer (pos n) = refl
has_float-integer (negsuc n) = refl

pub has_float-value : (v : Value) → has_float (value_data v) ≡ false
has_float-value (Number n) = refl
has_float-value (Integer x) = has_float-integer (cast_signed w64 x)
has_float-value (Truth b) = refl
has_float-value (Numbers ns) = items_have_float-map number_data (λ n. refl) ns
has_float-value (Integers xs) = items_have_float-map integer_data (λ x. has_float-integer (cast_signed w64 x)) xs
has_float-value (Truths bs) = items_have_float-map boolean (λ b. refl) bs

pub has_float-shape : (s : Shape) → has_float (shape_data s) ≡ false
has_float-shape shape.Scalar = refl
has_float-shape (shape.Array count) = refl

pub has_float-type : (kind : DataType) → has_float (type_data kind) ≡ false
has_float-type data_type.Uint64 = refl
has_float-type data_type.Int64 = refl
has_float-type data_type.Bool = refl

has_float-entry : (name : List ℕ) (v : PublicValue) → has_float (entry_data_of name v) ≡ false
has_float-entry name (Known v) = rw (has_float-type (type_of v), has_float-value v) refl
has_float-entry name (Hidden kind s) = rw (has_float-shape s, has_float-type kind) refl

pub has_float-part : (part : List PublicEntry) → has_float (part_data part) ≡ false
has_float-part part = ap (λ b. b || false) (items_have_float-map entry_data (λ e. has_float-entry e.name e.value) part)
