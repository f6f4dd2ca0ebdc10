use Rattle.std.proofs.Common.{◌∙◌, ◌-◌, ◌+◌, length, ap, sym, Vec, Global}
use Rattle.std.proofs.lemmas.List.{length-append}
use Rattle.std.proofs.lemmas.Result.{err_from_is_err_and}
use Rattle.bytecode.specs.declared.kind.Kind.{Kind}
use Rattle.bytecode.specs.Decoded.{repeated, kind_layout}
use Rattle.bytecode.specs.Layouts.{read}
use Rattle.bytecode.proofs.Reading.{after, reads_err, repeated_more, repeated_stops}
use Rattle.bytecode.proofs.heads.kinds.Goals as goal

pub returns-in_err-next-clause-reads : goal.returns-in_err-next-clause-reads
returns-in_err-next-clause-reads c =
    let stop = repeated_stops (kind_layout c.args.version) c.args.count c.loop-place.place c.loop-place.found.items c.loop-place.reader
    (read (repeated (kind_layout c.args.version) c.args.count) c.args.reader.now) c.in_err-next.field-0.0 c.loop-place-test.true c.in_err-next.ensures c.loop-place.invariant.0 in
    let from = c.from_residual.ensures in
    reads_err (λ (v : Vec Kind Global). v.items) _ _ _ _ (err_from_is_err_and c.from_residual.result from.1) stop

pub loop-place-preserved : goal.loop-place-preserved
loop-place-preserved c = (
  repeated_more (kind_layout c.args.version) c.args.count c.loop-place.place c.loop-place.found.items _ c.loop-place.reader _
      (read (repeated (kind_layout c.args.version) c.args.count) c.args.reader.now) c.loop-place-test.true c.in_ok-next.ensures c.loop-place.invariant.0
      ∙ ap (λ xs. after xs (read (repeated (kind_layout c.args.version) (c.args.count - (c.loop-place.place + 1))) c.next_kind.new.reader)) (sym c.in_ok-push.ensures),
  ap length c.in_ok-push.ensures ∙ length-append c.loop-place.found.items _ ∙ ap (λ n. n + 1) c.loop-place.invariant.1,
)
