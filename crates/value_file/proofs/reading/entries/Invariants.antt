use Rattle.std.proofs.Common.{◌≡◌, [], drop, length, map}
use Rattle.serde_json.specs.View.{items_view}
use Rattle.value_file.specs.Input.{AreEntries, elements_of, entry_of, entries_after, name_of}
use Rattle.value_file.proofs.reading.entries.Given as goal

abbrev pub invariant-loop-place : goal.invariant-loop-place
invariant-loop-place l = record {
  reads : entries_after entry_of name_of [] (items_view l.list) ≡ entries_after entry_of name_of l.entries.items (items_view (drop l.place l.list));
  names : map (λ n. n.now) l.names.keys ≡ map name_of l.entries.items;
  form : AreEntries name_of elements_of [] l.entries.items;
  count : length l.entries.items ≡ l.place;
}
