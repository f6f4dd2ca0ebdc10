use Rattle.std.proofs.Common.{◌≡◌, ◌++◌, codes, take, string_bytes}
use Rattle.std.specs.List.{flat_map}
use Rattle.client_text.specs.Text.{sighting_bytes}
use Rattle.client_text.proofs.writing.write.Given as goal

abbrev pub invariant-loop-sighting : goal.invariant-loop-sighting
invariant-loop-sighting l = string_bytes l.text ≡ codes "client\n" ++ flat_map sighting_bytes (take l.sighting-index l.sighting-items)
