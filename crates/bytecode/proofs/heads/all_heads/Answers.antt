use Rattle.std.proofs.Common.{◌∙◌, ◌-◌, ◌+◌, map, ap, sym, Vec, Global}
use Rattle.std.proofs.lemmas.List.{map-append}
use Rattle.std.proofs.lemmas.Result.{err_from_is_err_and}
use Rattle.bytecode.specs.declared.head.Head.{Head}
use Rattle.bytecode.specs.Decoded.{head_layout, heads_layout}
use Rattle.bytecode.specs.InMemory.{raw_head}
use Rattle.bytecode.specs.Layouts.{read}
use Rattle.bytecode.proofs.Reading.{after, reads_err, repeated_more, repeated_stops}
use Rattle.bytecode.proofs.heads.all_heads.Goals as goal

pub returns-in_err-next : goal.returns-in_err-next
returns-in_err-next c =
    let stop = repeated_stops (head_layout c.args.version) c.args.count c.loop-place.place (map raw_head c.loop-place.found.items) c.loop-place.reader
    (read (heads_layout c.args.version c.args.count) c.args.reader.now) c.in_err-next.field-0.0 c.loop-place-test.true c.in_err-next.ensures c.loop-place.invariant in
    let from = c.from_residual.ensures in
    reads_err (λ (v : Vec Head Global). map raw_head v.items) _ _ _ _ (err_from_is_err_and c.from_residual.result from.1) stop

pub loop-place-preserved : goal.loop-place-preserved
loop-place-preserved c =
    repeated_more (head_layout c.args.version) c.args.count c.loop-place.place (map raw_head c.loop-place.found.items) _ c.loop-place.reader _
    (read (heads_layout c.args.version c.args.count) c.args.reader.now) c.loop-place-test.true c.in_ok-next.ensures c.loop-place.invariant
    ∙ ap (λ xs. after xs (read (heads_layout c.args.version (c.args.count - (c.loop-place.place + 1))) c.next_head.new.reader))
    (sym (ap (map raw_head) c.in_ok-push.ensures ∙ map-append raw_head c.loop-place.found.items _))
