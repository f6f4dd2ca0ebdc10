-- The data of a file, and the fields of its objects.
use Rattle.std.specs.Prelude.{◌==◌, ℕ, List, length, if◌then◌else◌, Option, Some, None, option_and_then}
use Rattle.std.specs.Str.Lossy.{utf8_valid_len}
use Rattle.serde_json.specs.Data.{Data, Items}
use Rattle.serde_json.specs.Read.{read}
use Rattle.serde_json.specs.Find as find

-- the text of bytes that are UTF-8
unfoldable pub text_of : List ℕ → Option (List ℕ)
text_of bytes = if utf8_valid_len bytes == length bytes then Some bytes else None

-- the data that the bytes spell, as serde_json reads them
unfoldable pub json_of : List ℕ → Option Data
json_of bytes = option_and_then read (text_of bytes)

-- the text in a field of an object
abbrev pub text_in : List ℕ → Data → Option (List ℕ)
text_in field d = option_and_then find.as_str (find.get field d)

-- the list in a field of an object
abbrev pub list_in : List ℕ → Data → Option Items
list_in field d = option_and_then find.as_array (find.get field d)
