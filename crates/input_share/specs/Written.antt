-- A share file as the data that its JSON text spells; each object has its keys in the order of their bytes.
use Rattle.std.specs.Prelude.{List, map, codes, ℕ}
use Rattle.serde_json.specs.Data.{Data, string, array, object, no_members, member}
use Rattle.serde_json.specs.View.{items_of}
use Rattle.serde_json.specs.Written.{compact_text}
use Rattle.proto_core.specs.Parties.{count_of as number_of}
use Rattle.value_file.specs.declared.public.PublicValue.TheVariants.{Known}
use Rattle.value_file.specs.Public.{number_data, type_data, shape_data, entry_data_of}
use Rattle.input_share.specs.declared.entry.Part.{Part}
use Rattle.input_share.specs.declared.entry.Part.TheVariants.{Public, Private}
use Rattle.input_share.specs.declared.entry.Shared.{Shared}
use Rattle.input_share.specs.declared.entry.ShareEntry.{ShareEntry}
use Rattle.input_share.specs.ShareFile.{MinerFile}

-- an array, each element written in the same way
abbrev pub list_data : {A : Type 0} → (A → Data) → List A → Data
list_data one xs = array (items_of (map one xs))

abbrev pub private_data : List ℕ → Shared → Data
private_data name shared =
    object
    (member (codes "domain") (string (codes "private"))
    (member (codes "name") (string name)
    (member (codes "shape") (shape_data shared.shape)
    (member (codes "share") (list_data number_data shared.words)
    (member (codes "type") (type_data shared.data_type)
    no_members)))))

-- an input, public or private
abbrev pub part_data : List ℕ → Part → Data
part_data name (Public value) = entry_data_of name (Known value)
part_data name (Private shared) = private_data name shared

abbrev pub entry_data : ShareEntry → Data
entry_data entry = part_data entry.name entry.part

-- the object of a share file
abbrev pub file_data : MinerFile → Data
file_data file =
    object
    (member (codes "inputs") (list_data entry_data file.entries)
    (member (codes "lens") (list_data number_data file.lens)
    (member (codes "miner") (number_data (number_of file.miner))
    no_members)))

-- a share file
unfoldable pub file_bytes : MinerFile → List ℕ
file_bytes file = compact_text (file_data file)
