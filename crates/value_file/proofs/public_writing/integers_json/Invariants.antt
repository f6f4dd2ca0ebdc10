use Rattle.std.proofs.Common.{◌≡◌, map, take}
use Rattle.serde_json.specs.View.{view}
use Rattle.value_file.specs.Public.{integer_data}
use Rattle.value_file.proofs.public_writing.integers_json.Given as goal

abbrev pub invariant-loop-word : goal.invariant-loop-word
invariant-loop-word l = map view l.list.items ≡ map integer_data (take l.word-index l.words)
