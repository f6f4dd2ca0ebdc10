use Rattle.std.proofs.Common.{◌+◌, Ok, map, length, drop, arith, sym, ap, subst, [], All, ◌∙◌}
use Rattle.serde_json.specs.View.{items_view}
use Rattle.value_file.specs.Input.{AreEntries, entries_after}
use Rattle.input_share.specs.Reading.{share_count_of, share_entry_of, share_name_of, AreWritable, IsWhole}
use Rattle.value_file.proofs.Entries.{entries_after-more, entries_after-refused, entries_after-end, names-more, length-more}
use Rattle.value_file.proofs.Forms.{AreEntries-more}
use Rattle.value_file.proofs.Refusals.{Reads-handed_on}
use Rattle.input_share.proofs.FormLaws.{whole-more}
use Rattle.input_share.proofs.reading.entries.Goals as goal

pub loop-place-init : goal.loop-place-init
loop-place-init c = record {
  reads = ap (λ es. entries_after share_entry_of share_name_of es (items_view c.args.list.now)) (sym c.new-entries.ensures.items);
  names = ap (map (λ n. n.now)) c.new-names.ensures.empty ∙ ap (map share_name_of) (sym c.new-entries.ensures.items);
  form = subst (AreEntries share_name_of share_count_of []) (sym c.new-entries.ensures.items) tt;
  whole = subst (All IsWhole) (sym c.new-entries.ensures.items) (λ k d h. absurd (omega arith));
  count = ap length c.new-entries.ensures.items;
}

pub returns-in_err-entry-clause-reads : goal.returns-in_err-entry-clause-reads
returns-in_err-entry-clause-reads c =
    Reads-handed_on _ _ c.in_err-entry.field-0.0 c.from_residual.result
    (λ r bad. c.loop-place.invariant.reads
    ∙ entries_after-refused share_entry_of share_name_of c.args.list.now c.loop-place.place c.index-list-place.result c.loop-place.entries.items _
    c.loop-place-test.true c.loop-place.invariant.names c.loop-place.invariant.count c.index-list-place.is r bad) c.in_err-entry.ensures.reads
    c.from_residual.ensures.1

pub loop-place-preserved : goal.loop-place-preserved
loop-place-preserved c =
    let next = entries_after-more share_entry_of share_name_of c.args.list.now c.loop-place.place c.index-list-place.result c.loop-place.entries.items
    _ c.loop-place-test.true c.loop-place.invariant.names c.loop-place.invariant.count c.index-list-place.is c.in_ok-entry.field-0
    c.in_ok-entry.ensures.reads in
    record {
      reads = c.loop-place.invariant.reads ∙ next
          ∙ ap (λ es. entries_after share_entry_of share_name_of es (items_view (drop (c.loop-place.place + 1) c.args.list.now))) (sym c.in_ok-add.ensures);
      names = names-more share_name_of c.loop-place.entries.items c.add.new.entries.items c.in_ok-entry.field-0 _ _ c.loop-place.invariant.names
          c.in_ok-entry.ensures.remembered c.in_ok-add.ensures;
      form = AreEntries-more share_name_of share_count_of c.loop-place.entries.items c.add.new.entries.items c.in_ok-entry.field-0 _
          c.loop-place.invariant.form c.loop-place.invariant.names c.in_ok-entry.ensures.form c.in_ok-add.ensures;
      whole = whole-more c.loop-place.entries.items c.add.new.entries.items c.in_ok-entry.field-0 c.loop-place.invariant.whole
          c.in_ok-entry.ensures.whole c.in_ok-add.ensures;
      count = length-more c.loop-place.entries.items c.add.new.entries.items c.in_ok-entry.field-0 c.loop-place.place c.loop-place.invariant.count
          c.in_ok-add.ensures;
    }

pub returns-clause-reads : goal.returns-clause-reads
returns-clause-reads c = c.loop-place.invariant.reads
    ∙ entries_after-end share_entry_of share_name_of c.args.list.now c.loop-place.place c.loop-place.entries.items (omega arith) ∙ ap Ok (sym c.new.ensures)

pub returns-clause-form : goal.returns-clause-form
returns-clause-form c = subst AreWritable (sym c.new.ensures) (record { form = c.loop-place.invariant.form; whole = c.loop-place.invariant.whole })
