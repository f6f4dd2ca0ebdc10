use Rattle.std.proofs.Common.{◌∙◌, ◌-◌, ◌+◌, map, ap, sym, Vec, Global}
use Rattle.std.proofs.lemmas.List.{map-append}
use Rattle.std.proofs.lemmas.Result.{err_from_is_err_and}
use Rattle.bytecode.specs.declared.instruction.Register.{Register}
use Rattle.bytecode.specs.Decoded.{repeated, short_layout}
use Rattle.bytecode.specs.Layouts.{read}
use Rattle.bytecode.proofs.Reading.{after, reads_err, repeated_more, repeated_stops}
use Rattle.bytecode.proofs.operands.registers.Goals as goal

pub returns-in_err-short : goal.returns-in_err-short
returns-in_err-short c =
    let stop = repeated_stops short_layout c.args.count c.loop-place.place (map (λ (r : Register). r.0) c.loop-place.registers.items) c.loop-place.reader
    (read (repeated short_layout c.args.count) c.args.reader.now) c.in_err-short.field-0.0 c.loop-place-test.true c.in_err-short.ensures
    c.loop-place.invariant in
    let from = c.from_residual.ensures in
    reads_err (λ (v : Vec Register Global). map (λ (r : Register). r.0) v.items) _ _ _ _ (err_from_is_err_and c.from_residual.result from.1) stop

pub loop-place-preserved : goal.loop-place-preserved
loop-place-preserved c =
    repeated_more short_layout c.args.count c.loop-place.place (map (λ (r : Register). r.0) c.loop-place.registers.items) _ c.loop-place.reader _
    (read (repeated short_layout c.args.count) c.args.reader.now) c.loop-place-test.true c.in_ok-short.ensures c.loop-place.invariant
    ∙ ap (λ xs. after xs (read (repeated short_layout (c.args.count - (c.loop-place.place + 1))) c.short.new.self))
    (sym (ap (map (λ (r : Register). r.0)) c.in_ok-push.ensures ∙ map-append (λ (r : Register). r.0) c.loop-place.registers.items _))
