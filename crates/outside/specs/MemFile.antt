-- What files in memory mean.
use Rattle.std.specs.Prelude.{ℕ, List, map, Option, String, string_bytes}
use Rattle.std.specs.Option.{option_and_then}
use Rattle.std.specs.BTreeMap.{BTreeMap, get_by_text}
use Rattle.std.specs.FinMap.{from_entries}
use Rattle.std.specs.declared.alloc.Global.{Global}
use Rattle.outside.specs.Files.{Contents}
use Rattle.outside.specs.declared.mem_file.MemFile.{MemFile}

-- by the bytes of their paths, without where they lie in memory
abbrev pub pairs_of : List (String Global × MemFile) → List (List ℕ × List ℕ)
pairs_of entries = map (λ e. (string_bytes e.0, e.1.bytes.items)) entries

abbrev pub contents_of : BTreeMap (String Global) MemFile → Contents
contents_of files = from_entries (pairs_of files.entries)

-- the size that was last answered of the file at this path
abbrev pub size_in : BTreeMap (String Global) MemFile → List ℕ → Option ℕ
size_in files path = option_and_then (λ f. f.sized) (get_by_text files path)
