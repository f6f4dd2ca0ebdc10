-- The public part of inputs, and the file of it.
use Rattle.std.specs.Prelude.{ℕ, List, map, codes}
use Rattle.std.specs.Int.{w64, cast_signed}
use Rattle.serde_json.specs.Data.{Data, number, unsigned, boolean, string, array, object, no_members, member}
use Rattle.serde_json.specs.Find.{of_integer}
use Rattle.serde_json.specs.View.{items_of}
use Rattle.serde_json.specs.Written.{compact_text}
use Rattle.value_file.specs.declared.value.Domain.{Domain}
use Rattle.value_file.specs.declared.value.Domain.TheVariants as domain
use Rattle.value_file.specs.declared.value.DataType.{DataType}
use Rattle.value_file.specs.declared.value.DataType.TheVariants as data_type
use Rattle.value_file.specs.declared.value.Shape.{Shape}
use Rattle.value_file.specs.declared.value.Shape.TheVariants as shape
use Rattle.value_file.specs.declared.value.Value.{Value}
use Rattle.value_file.specs.declared.value.Value.TheVariants.{Number, Integer, Truth, Numbers, Integers, Truths}
use Rattle.value_file.specs.declared.inputs.Entry.{Entry}
use Rattle.value_file.specs.declared.public.PublicValue.{PublicValue}
use Rattle.value_file.specs.declared.public.PublicValue.TheVariants.{Known, Hidden}
use Rattle.value_file.specs.declared.public.PublicEntry.{PublicEntry}
use Rattle.value_file.specs.Values.{type_of, shape_of, HoldsWords}

-- a public value stays; of a private one type and shape are left
abbrev pub shown : Domain → Value → PublicValue
shown domain.Public value = Known value
shown domain.Private value = Hidden (type_of value) (shape_of value)

abbrev pub public_entry : Entry → PublicEntry
public_entry entry = record { name = entry.name; value = shown entry.domain entry.value }

-- the public part of inputs
abbrev pub part_of : List Entry → List PublicEntry
part_of entries = map public_entry entries

-- of what everybody may know of a value
abbrev pub ShowsWords : PublicValue → Type 0
ShowsWords (Known value) = HoldsWords value
ShowsWords (Hidden kind shape) = Unit {0}

abbrev pub number_data : ℕ → Data
number_data n = number (unsigned n)

-- the number of which this is the two's complement word
abbrev pub integer_data : ℕ → Data
integer_data x = number (of_integer (cast_signed w64 x))

abbrev pub value_data : Value → Data
value_data (Number n) = number_data n
value_data (Integer x) = integer_data x
value_data (Truth b) = boolean b
value_data (Numbers ns) = array (items_of (map number_data ns))
value_data (Integers xs) = array (items_of (map integer_data xs))
value_data (Truths bs) = array (items_of (map boolean bs))

abbrev pub shape_data : Shape → Data
shape_data shape.Scalar = string (codes "scalar")
shape_data (shape.Array count) = number_data count

abbrev pub type_data : DataType → Data
type_data data_type.Uint64 = string (codes "uint64")
type_data data_type.Int64 = string (codes "int64")
type_data data_type.Bool = string (codes "bool")

-- the object of an entry, its keys in byte order
abbrev pub entry_data_of : List ℕ → PublicValue → Data
entry_data_of name (Known value) =
    object (member (codes "domain") (string (codes "public")) (member (codes "name") (string name)
    (member (codes "type") (type_data (type_of value)) (member (codes "value") (value_data value) no_members))))
entry_data_of name (Hidden kind shape) =
    object (member (codes "domain") (string (codes "private")) (member (codes "name") (string name)
    (member (codes "shape") (shape_data shape) (member (codes "type") (type_data kind) no_members))))

abbrev pub entry_data : PublicEntry → Data
entry_data entry = entry_data_of entry.name entry.value

-- the object of a public file
abbrev pub part_data : List PublicEntry → Data
part_data part = object (member (codes "inputs") (array (items_of (map entry_data part))) no_members)

-- a public file
unfoldable pub part_bytes : List PublicEntry → List ℕ
part_bytes part = compact_text (part_data part)
