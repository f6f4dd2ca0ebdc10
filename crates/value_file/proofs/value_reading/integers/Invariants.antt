use Rattle.std.proofs.Common.{◌≡◌, drop}
use Rattle.serde_json.specs.View.{items_view}
use Rattle.value_file.specs.Values.{all_in, integer_in}
use Rattle.value_file.proofs.Loops.{behind}
use Rattle.value_file.proofs.value_reading.integers.Given as goal

abbrev pub invariant-loop-json : goal.invariant-loop-json
invariant-loop-json l = all_in integer_in (items_view l.list) ≡ behind l.words.items (all_in integer_in (items_view (drop l.json-index l.list)))
