use Rattle.std.proofs.Common.{◌≡◌, [], All, drop, length, map}
use Rattle.serde_json.specs.View.{items_view}
use Rattle.value_file.specs.Input.{AreEntries, entries_after}
use Rattle.input_share.specs.Reading.{share_count_of, share_entry_of, share_name_of, IsWhole}
use Rattle.input_share.proofs.reading.entries.Given as goal

abbrev pub invariant-loop-place : goal.invariant-loop-place
invariant-loop-place l = record {
  reads : entries_after share_entry_of share_name_of [] (items_view l.list)
      ≡ entries_after share_entry_of share_name_of l.entries.items (items_view (drop l.place l.list));
  names : map (λ n. n.now) l.names.keys ≡ map share_name_of l.entries.items;
  form : AreEntries share_name_of share_count_of [] l.entries.items;
  whole : All IsWhole l.entries.items;
  count : length l.entries.items ≡ l.place;
}
