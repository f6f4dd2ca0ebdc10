-- The form of an input file, over the data of its text.
use Rattle.std.specs.Prelude.{ℕ, ◌≡◌, ◌≤◌, ◌&&◌, List, [], ◌∷◌, ◌++◌, length, map, codes, not, nat_lt, if◌then◌else◌, Option, Some, None}
use Rattle.std.specs.Prelude.{option_and_then, Result, Ok, Err}
use Rattle.std.specs.Option.{ok_or}
use Rattle.std.specs.List.{list_any}
use Rattle.std.specs.Str.{bytes_eq}
use Rattle.sc_text.specs.Name.{is_name}
use Rattle.serde_json.specs.Data.{Data, Items, no_items, item}
use Rattle.serde_json.specs.Find as find
use Rattle.value_file.specs.declared.value.Domain.{Domain}
use Rattle.value_file.specs.declared.value.Domain.TheVariants as domain
use Rattle.value_file.specs.declared.value.DataType.{DataType}
use Rattle.value_file.specs.declared.value.DataType.TheVariants as data_type
use Rattle.value_file.specs.declared.value.Value.{Value}
use Rattle.value_file.specs.declared.fields.EntryHead.{EntryHead}
use Rattle.value_file.specs.declared.inputs.Entry.{Entry}
use Rattle.value_file.specs.declared.read_err.Field.{Field}
use Rattle.value_file.specs.declared.read_err.Field.TheVariants as field
use Rattle.value_file.specs.declared.read_err.ReadErr.{ReadErr}
use Rattle.value_file.specs.declared.read_err.ReadErr.TheVariants.{Syntax, BadField, TooLong}
use Rattle.value_file.specs.Json.{json_of, text_in, list_in}
use Rattle.value_file.specs.Values.{count_of, value_of}

-- a step and then another, where the first has an answer
infixl 10 ◌>>=◌
abbrev pub ◌>>=◌ : {A B E : Type 0} → Result A E → (A → Result B E) → Result B E
(Ok x) >>= next = next x
(Err e) >>= next = Err e

-- a field of the entry at this place is as it should be, else it is refused
abbrev pub field_or : {A : Type 0} → ℕ → Field → Option A → Result A ReadErr
field_or place name found = ok_or found (BadField (Some place) name)

-- a name of good form that none of the earlier entries has
unfoldable pub new_name : List (List ℕ) → List ℕ → Option (List ℕ)
new_name earlier text = if is_name text && not (list_any (bytes_eq text) earlier) then Some text else None

abbrev pub name_in : List (List ℕ) → Data → Option (List ℕ)
name_in earlier d = option_and_then (new_name earlier) (text_in (codes "name") d)

unfoldable pub domain_of : List ℕ → Option Domain
domain_of word =
    if bytes_eq word (codes "public") then Some domain.Public
    else if bytes_eq word (codes "private") then Some domain.Private
    else None

unfoldable pub data_type_of : List ℕ → Option DataType
data_type_of word =
    if bytes_eq word (codes "uint64") then Some data_type.Uint64
    else if bytes_eq word (codes "int64") then Some data_type.Int64
    else if bytes_eq word (codes "bool") then Some data_type.Bool
    else None

abbrev pub value_in : DataType → Data → Option Value
value_in kind d = option_and_then (value_of kind) (find.get (codes "value") d)

-- what an entry of each kind has: its name, after entries of these names, who may know it, and its data type
abbrev pub head_of : ℕ → List (List ℕ) → Data → Result EntryHead ReadErr
head_of place earlier d = do
  name ← field_or place field.Name (name_in earlier d)
  domain ← field_or place field.Domain (option_and_then domain_of (text_in (codes "domain") d))
  kind ← field_or place field.Type (option_and_then data_type_of (text_in (codes "type") d))
  Ok (record { name = name; domain = domain; data_type = kind })

-- an entry has at most 65,536 elements
unfoldable pub within_limit : {E : Type 0} → (E → ℕ) → ℕ → E → Result E ReadErr
within_limit count place entry = if nat_lt 65536 (count entry) then Err (TooLong place) else Ok entry

abbrev pub elements_of : Entry → ℕ
elements_of entry = count_of entry.value

-- the entry at this place, after entries of these names
unfoldable pub entry_of : ℕ → List (List ℕ) → Data → Result Entry ReadErr
entry_of place earlier d = do
  head ← head_of place earlier d
  value ← field_or place field.Value (value_in head.data_type d)
  within_limit elements_of place (record { name = head.name; domain = head.domain; value = value })

abbrev pub name_of : Entry → List ℕ
name_of entry = entry.name

-- the entries of a list as `one` reads them at their places, after those before it, whose names it is given
abbrev pub entries_after : {E : Type 0} → (ℕ → List (List ℕ) → Data → Result E ReadErr) → (E → List ℕ) → List E → Items → Result (List E) ReadErr
entries_after one name before no_items = Ok before
entries_after one name before (item d ds) = one (length before) (map name before) d >>= λ entry. entries_after one name (before ++ entry ∷ []) ds

-- the entries in an object's list `inputs`
unfoldable pub inputs_in : {E : Type 0} → (ℕ → List (List ℕ) → Data → Result E ReadErr) → (E → List ℕ) → Data → Result (List E) ReadErr
inputs_in one name d = ok_or (list_in (codes "inputs") d) (BadField None field.Inputs) >>= entries_after one name []

-- the inputs that a file has
unfoldable pub read_of : List ℕ → Result (List Entry) ReadErr
read_of bytes = ok_or (json_of bytes) Syntax >>= inputs_in entry_of name_of

-- an input that may stand in a file after inputs of these names: its name is of good form and none of them, and it has
-- at most 65,536 elements
pub record IsEntry (earlier : List (List ℕ)) (name : List ℕ) (count : ℕ) : Type 0 where
  pub fresh : new_name earlier name ≡ Some name
  pub short : count ≤ 65536

-- each entry may stand after those before it
abbrev pub AreEntries : {E : Type 0} → (E → List ℕ) → (E → ℕ) → List E → List E → Type 0
AreEntries name count before [] = Unit {0}
AreEntries name count before (entry ∷ entries) = IsEntry (map name before) (name entry) (count entry) × AreEntries name count (before ++ entry ∷ []) entries

-- inputs that may stand in a file
abbrev pub AreInputs : List Entry → Type 0
AreInputs inputs = AreEntries name_of elements_of [] inputs
