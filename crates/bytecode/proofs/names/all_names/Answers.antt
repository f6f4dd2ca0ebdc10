use Rattle.std.proofs.Common.{◌≤◌, ◌∙◌, ◌∷◌, ◌++◌, [], ◌-◌, ◌+◌, arith, map, reverse, ap, sym, Vec, Global}
use Rattle.std.proofs.lemmas.Result.{err_from_is_err_and}
use Rattle.sc_text.specs.declared.name.Name.{Name}
use Rattle.bytecode.specs.Decoded.{names_layout}
use Rattle.bytecode.specs.Layouts.{read}
use Rattle.bytecode.proofs.Reading.{after, reads_err}
use Rattle.bytecode.proofs.NameReads.{names_more, names_stop, names_end}
use Rattle.bytecode.proofs.names.all_names.Goals as goal

pub returns-in_err-next : goal.returns-in_err-next
returns-in_err-next c =
    let earlier = reverse (map (λ n. n.now) c.loop-place.earlier.keys) in
    let stop = names_stop earlier c.args.count c.loop-place.place c.loop-place.found.items c.loop-place.reader
    (read (names_layout [] c.args.count) c.args.reader.now) c.in_err-next.field-0.0 c.loop-place-test.true c.in_err-next.ensures.reads c.loop-place.invariant in
    let from = c.from_residual.ensures in
    reads_err (λ (v : Vec Name Global). v.items) _ _ _ _ (err_from_is_err_and c.from_residual.result from.1) stop

pub loop-place-preserved : goal.loop-place-preserved
loop-place-preserved c =
    let earlier = reverse (map (λ n. n.now) c.loop-place.earlier.keys) in
    let later = c.args.count - (c.loop-place.place + 1) in
    names_more earlier c.args.count c.loop-place.place c.loop-place.found.items c.in_ok-next.next c.loop-place.reader c.next_name.new.reader
    (read (names_layout [] c.args.count) c.args.reader.now) c.loop-place-test.true c.in_ok-next.ensures.reads c.loop-place.invariant
    ∙ ap (λ earlier. after (c.loop-place.found.items ++ c.in_ok-next.next ∷ []) (read (names_layout earlier later) c.next_name.new.reader))
    (sym c.in_ok-next.ensures.remembered)
    ∙ ap (λ xs. after xs (read (names_layout (reverse (map (λ n. n.now) c.next_name.new.earlier.keys)) later) c.next_name.new.reader))
    (sym c.in_ok-push.ensures)

pub returns : goal.returns
returns c =
    let earlier = reverse (map (λ n. n.now) c.loop-place.earlier.keys) in
    let out : c.args.count ≤ c.loop-place.place = omega arith in
    names_end earlier c.args.count c.loop-place.place c.loop-place.found.items c.loop-place.reader
    (read (names_layout [] c.args.count) c.args.reader.now) out c.loop-place.invariant
