-- What everybody may know of the inputs in a share file.
use Rattle.std.specs.Prelude.{List, map}
use Rattle.value_file.specs.declared.public.PublicValue.{PublicValue}
use Rattle.value_file.specs.declared.public.PublicValue.TheVariants.{Known, Hidden}
use Rattle.value_file.specs.declared.public.PublicEntry.{PublicEntry}
use Rattle.input_share.specs.declared.entry.Part.{Part}
use Rattle.input_share.specs.declared.entry.Part.TheVariants.{Public, Private}
use Rattle.input_share.specs.declared.entry.ShareEntry.{ShareEntry}

-- a public value stays; of a share type and shape are left
abbrev pub known_of : Part → PublicValue
known_of (Public value) = Known value
known_of (Private shared) = Hidden shared.data_type shared.shape

abbrev pub known_entry : ShareEntry → PublicEntry
known_entry entry = record { name = entry.name; value = known_of entry.part }

abbrev pub shapes_of : List ShareEntry → List PublicEntry
shapes_of entries = map known_entry entries
