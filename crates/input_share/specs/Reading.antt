-- The form of a share file, over the data of its text.
use Rattle.std.specs.Prelude.{ℕ, ◌≡◌, ◌==◌, List, [], ◌∷◌, length, All, codes, if◌then◌else◌, Option, Some, None, option_and_then, Result, Ok}
use Rattle.std.specs.List.{find}
use Rattle.std.specs.Option.{ok_or}
use Rattle.serde_json.specs.Data.{Data}
use Rattle.serde_json.specs.Find.{get}
use Rattle.proto_core.specs.declared.party.Number.{Number}
use Rattle.proto_core.specs.declared.party.Number.TheVariants.{One, Two, Three}
use Rattle.proto_core.specs.Parties.{count_of as number_of}
use Rattle.value_file.specs.declared.value.Domain.{Domain}
use Rattle.value_file.specs.declared.value.Domain.TheVariants as domain
use Rattle.value_file.specs.declared.value.DataType.{DataType}
use Rattle.value_file.specs.declared.value.Shape.{Shape}
use Rattle.value_file.specs.declared.read_err.Field.TheVariants as field
use Rattle.value_file.specs.declared.read_err.ReadErr.{ReadErr}
use Rattle.value_file.specs.declared.read_err.ReadErr.TheVariants.{Syntax, BadField}
use Rattle.value_file.specs.Json.{json_of, list_in}
use Rattle.value_file.specs.Values.{all_in, count_of, number_in, size_of}
use Rattle.value_file.specs.Input.{◌>>=◌, field_or, head_of, value_in, inputs_in, within_limit, AreEntries}
use Rattle.value_file.specs.PublicFile.{shape_in}
use Rattle.input_share.specs.declared.entry.Part.{Part}
use Rattle.input_share.specs.declared.entry.Part.TheVariants.{Public, Private}
use Rattle.input_share.specs.declared.entry.ShareEntry.{ShareEntry}
use Rattle.input_share.specs.ShareFile.{MinerFile}
use Rattle.input_share.specs.Values.{shared_size}

-- the numbers of a list in a field of an object
abbrev pub numbers_in : List ℕ → Data → Option (List ℕ)
numbers_in name d = option_and_then (all_in number_in) (list_in name d)

-- a list, where it is so long
abbrev pub of_length : ℕ → List ℕ → Option (List ℕ)
of_length count words = if length words == count then Some words else None

-- as many share words as the shape says
abbrev pub share_in : DataType → Shape → Data → Option (List ℕ)
share_in kind shape d = option_and_then (of_length (shared_size kind (size_of shape))) (numbers_in (codes "share") d)

-- a private entry has its shape and then its share
abbrev pub private_part_of : ℕ → DataType → Data → Result Part ReadErr
private_part_of place kind d = do
  shape ← field_or place field.Shape (shape_in d)
  words ← field_or place field.Share (share_in kind shape d)
  Ok (Private (record { data_type = kind; shape = shape; words = words }))

-- a public entry has its value
abbrev pub part_of : ℕ → Domain → DataType → Data → Result Part ReadErr
part_of place domain.Public kind d = field_or place field.Value (value_in kind d) >>= λ value. Ok (Public value)
part_of place domain.Private kind d = private_part_of place kind d

-- the count of a part's elements
abbrev pub part_count : Part → ℕ
part_count (Public value) = count_of value
part_count (Private shared) = size_of shared.shape

abbrev pub share_count_of : ShareEntry → ℕ
share_count_of entry = part_count entry.part

-- the entry at this place, after entries of these names
unfoldable pub share_entry_of : ℕ → List (List ℕ) → Data → Result ShareEntry ReadErr
share_entry_of place earlier d = do
  head ← head_of place earlier d
  part ← part_of place head.domain head.data_type d
  within_limit share_count_of place (record { name = head.name; part = part })

abbrev pub share_name_of : ShareEntry → List ℕ
share_name_of entry = entry.name

-- the four lengths at top
abbrev pub lens_in : Data → Option (List ℕ)
lens_in d = option_and_then (of_length 4) (numbers_in (codes "lens") d)

abbrev pub miner_of : ℕ → Option Number
miner_of n = find (λ i. n == number_of i) (One ∷ Two ∷ Three ∷ [])

-- the miner, where it is the one that is wanted
abbrev pub wanted_miner : ℕ → ℕ → Option Number
wanted_miner wanted n = if n == wanted then miner_of n else None

abbrev pub miner_in : ℕ → Data → Option Number
miner_in wanted d = option_and_then (wanted_miner wanted) (option_and_then number_in (get (codes "miner") d))

-- the share file of an object, where it is that of the miner that is wanted
unfoldable pub file_in : ℕ → Data → Result MinerFile ReadErr
file_in wanted d = do
  entries ← inputs_in share_entry_of share_name_of d
  lens ← ok_or (lens_in d) (BadField None field.Lens)
  miner ← ok_or (miner_in wanted d) (BadField None field.Miner)
  Ok (record { entries = entries; lens = lens; miner = miner })

-- the share file that bytes spell
unfoldable pub read_share_of : ℕ → List ℕ → Result MinerFile ReadErr
read_share_of wanted bytes = ok_or (json_of bytes) Syntax >>= file_in wanted

-- a share has as many words as its shape says
abbrev pub IsWholePart : Part → Type 0
IsWholePart (Public value) = Unit {0}
IsWholePart (Private shared) = length shared.words ≡ shared_size shared.data_type (size_of shared.shape)

abbrev pub IsWhole : ShareEntry → Type 0
IsWhole entry = IsWholePart entry.part

-- entries that may stand in a file: their names are of good form and none stands twice, none has more than 65,536 elements,
-- and each share is whole
pub record AreWritable (entries : List ShareEntry) : Type 0 where
  pub form : AreEntries share_name_of share_count_of [] entries
  pub whole : All IsWhole entries
