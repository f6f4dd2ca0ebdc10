use Rattle.std.proofs.Common.{◌≡◌, map, take}
use Rattle.serde_json.specs.View.{view}
use Rattle.value_file.specs.Public.{entry_data}
use Rattle.value_file.proofs.public_writing.entries_json.Given as goal

abbrev pub invariant-loop-entry : goal.invariant-loop-entry
invariant-loop-entry l = map view l.list.items ≡ map entry_data (take l.entry-index l.entries)
