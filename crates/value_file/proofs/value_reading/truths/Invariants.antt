use Rattle.std.proofs.Common.{◌≡◌, drop}
use Rattle.serde_json.specs.Find.{as_bool}
use Rattle.serde_json.specs.View.{items_view}
use Rattle.value_file.specs.Values.{all_in}
use Rattle.value_file.proofs.Loops.{behind}
use Rattle.value_file.proofs.value_reading.truths.Given as goal

abbrev pub invariant-loop-json : goal.invariant-loop-json
invariant-loop-json l = all_in as_bool (items_view l.list) ≡ behind l.truths.items (all_in as_bool (items_view (drop l.json-index l.list)))
