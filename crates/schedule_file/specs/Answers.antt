-- How the answer of the reader and the definition of what is to be read belong together.
use Rattle.std.specs.Prelude.{◌≡◌, ℕ, List, Result, Ok, Err, Vec}
use Rattle.std.specs.declared.alloc.Global.{Global}
use Rattle.proto_core.specs.declared.link.Link.{Link}
use Rattle.schedule_file.specs.declared.read_err.ReadErr.{ReadErr}
use Rattle.schedule_file.specs.declared.read_err.ReadErr.TheVariants.{BadEntry, Memory}

abbrev pub IsReadAs : Result (List Link) ℕ → Result (Vec Link Global) ReadErr → Type 0
IsReadAs wanted (Ok links) = wanted ≡ Ok links.items
IsReadAs wanted (Err (BadEntry line)) = wanted ≡ Err line
IsReadAs wanted (Err Memory) = Unit {0}
