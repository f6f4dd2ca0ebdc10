-- What a store held at a moment, without where that lies in memory.
use Rattle.std.specs.Prelude.{ℕ, List, map, Option, option_map, string_bytes}
use Rattle.std.specs.FinMap.{from_entries}
use Rattle.outside.specs.Files.{Contents}
use Rattle.outside.specs.declared.held_files.HeldFile.{HeldFile}
use Rattle.outside.specs.declared.held_files.HeldFiles.{HeldFiles}

abbrev pub pair_of : HeldFile → List ℕ × List ℕ
pair_of file = (string_bytes file.path, file.bytes.items)

-- all files by their paths, where the store told them
abbrev pub held_in : HeldFiles → Option Contents
held_in held = option_map (λ files. from_entries (map pair_of files.items)) held.files
