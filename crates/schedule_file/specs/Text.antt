-- The text of a schedule: a line for each link, with a newline after it.
use Rattle.std.specs.Prelude.{ℕ, List, [], ◌∷◌, ◌++◌}
use Rattle.proto_core.specs.declared.link.Link.{Link}
use Rattle.proto_core.specs.Parties.{link_text}

abbrev pub schedule_bytes : List Link → List ℕ
schedule_bytes [] = []
schedule_bytes (l ∷ ls) = link_text l ++ 10 ∷ schedule_bytes ls
