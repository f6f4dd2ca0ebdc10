use Rattle.std.proofs.Common.{◌≡◌, [], drop, length, map}
use Rattle.serde_json.specs.View.{items_view}
use Rattle.value_file.specs.Input.{AreEntries, entries_after}
use Rattle.value_file.specs.PublicFile.{public_elements_of, public_entry_of, public_name_of}
use Rattle.value_file.proofs.public_reading.entries.Given as goal

abbrev pub invariant-loop-place : goal.invariant-loop-place
invariant-loop-place l = record {
  reads : entries_after public_entry_of public_name_of [] (items_view l.list)
      ≡ entries_after public_entry_of public_name_of l.entries.items (items_view (drop l.place l.list));
  names : map (λ n. n.now) l.names.keys ≡ map public_name_of l.entries.items;
  form : AreEntries public_name_of public_elements_of [] l.entries.items;
  count : length l.entries.items ≡ l.place;
}
