-- The form of a public file, over the data of its text.
use Rattle.std.specs.Prelude.{ℕ, List, [], codes, if◌then◌else◌, Option, Some, None, option_map, option_and_then, Result, Ok, Err}
use Rattle.std.specs.Option.{ok_or}
use Rattle.std.specs.Str.{bytes_eq}
use Rattle.serde_json.specs.Data.{Data}
use Rattle.serde_json.specs.Find as find
use Rattle.value_file.specs.declared.value.Domain.{Domain}
use Rattle.value_file.specs.declared.value.Domain.TheVariants as domain
use Rattle.value_file.specs.declared.value.DataType.{DataType}
use Rattle.value_file.specs.declared.value.Shape.{Shape}
use Rattle.value_file.specs.declared.value.Shape.TheVariants as shape
use Rattle.value_file.specs.declared.public.PublicValue.{PublicValue}
use Rattle.value_file.specs.declared.public.PublicValue.TheVariants.{Known, Hidden}
use Rattle.value_file.specs.declared.public.PublicEntry.{PublicEntry}
use Rattle.value_file.specs.declared.read_err.Field.TheVariants as field
use Rattle.value_file.specs.declared.read_err.ReadErr.{ReadErr}
use Rattle.value_file.specs.declared.read_err.ReadErr.TheVariants.{Syntax}
use Rattle.value_file.specs.Json.{json_of}
use Rattle.value_file.specs.Values.{count_of, number_in, size_of}
use Rattle.value_file.specs.Input.{AreEntries, ◌>>=◌, field_or, head_of, value_in, inputs_in, within_limit}

-- a text has to be the word `scalar`, and else stands the count of the elements
abbrev pub shape_from : Option (List ℕ) → Data → Option Shape
shape_from (Some word) d = if bytes_eq word (codes "scalar") then Some shape.Scalar else None
shape_from None d = option_map shape.Array (number_in d)

abbrev pub shape_in : Data → Option Shape
shape_in d = option_and_then (λ shape. shape_from (find.as_str shape) shape) (find.get (codes "shape") d)

-- a public entry has its value, a private one its shape
abbrev pub public_value_of : ℕ → Domain → DataType → Data → Result PublicValue ReadErr
public_value_of place domain.Public kind d = field_or place field.Value (value_in kind d) >>= λ value. Ok (Known value)
public_value_of place domain.Private kind d = field_or place field.Shape (shape_in d) >>= λ shape. Ok (Hidden kind shape)

-- the count of the elements; a scalar is one
abbrev pub public_count : PublicValue → ℕ
public_count (Known value) = count_of value
public_count (Hidden kind shape) = size_of shape

abbrev pub public_elements_of : PublicEntry → ℕ
public_elements_of entry = public_count entry.value

-- the entry at this place, after entries of these names
unfoldable pub public_entry_of : ℕ → List (List ℕ) → Data → Result PublicEntry ReadErr
public_entry_of place earlier d = do
  head ← head_of place earlier d
  value ← public_value_of place head.domain head.data_type d
  within_limit public_elements_of place (record { name = head.name; value = value })

abbrev pub public_name_of : PublicEntry → List ℕ
public_name_of entry = entry.name

-- the public part that a file has
unfoldable pub read_public_of : List ℕ → Result (List PublicEntry) ReadErr
read_public_of bytes = ok_or (json_of bytes) Syntax >>= inputs_in public_entry_of public_name_of

-- a public part that may stand in a file
abbrev pub IsWritable : List PublicEntry → Type 0
IsWritable part = AreEntries public_name_of public_elements_of [] part
