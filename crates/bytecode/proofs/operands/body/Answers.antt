use Rattle.std.proofs.Common.{◌∙◌, ◌-◌, ◌+◌, map, ap, sym, Vec, Global}
use Rattle.std.proofs.lemmas.List.{map-append}
use Rattle.std.proofs.lemmas.Result.{err_from_is_err_and}
use Rattle.bytecode.specs.declared.instruction.Instruction.{Instruction}
use Rattle.bytecode.specs.Decoded.{body_layout, instruction_layout}
use Rattle.bytecode.specs.InMemory.{raw_instruction}
use Rattle.bytecode.specs.Layouts.{read}
use Rattle.bytecode.specs.Versions.{counting}
use Rattle.bytecode.proofs.Reading.{after, reads_err, repeated_more, repeated_stops}
use Rattle.bytecode.proofs.operands.body.Goals as goal

pub returns-in_err-next : goal.returns-in_err-next
returns-in_err-next c =
    let rule = counting c.args.version c.args.parameters.now in
    let stop = repeated_stops (instruction_layout rule) c.args.count c.loop-place.place (map raw_instruction c.loop-place.instructions.items) c.loop-place.reader
    (read (body_layout rule c.args.count) c.args.reader.now) c.in_err-next.field-0.0 c.loop-place-test.true c.in_err-next.ensures c.loop-place.invariant in
    let from = c.from_residual.ensures in
    reads_err (λ (v : Vec Instruction Global). map raw_instruction v.items) _ _ _ _ (err_from_is_err_and c.from_residual.result from.1) stop

pub loop-place-preserved : goal.loop-place-preserved
loop-place-preserved c =
    let rule = counting c.args.version c.args.parameters.now in
    repeated_more (instruction_layout rule) c.args.count c.loop-place.place (map raw_instruction c.loop-place.instructions.items) _ c.loop-place.reader _
    (read (body_layout rule c.args.count) c.args.reader.now) c.loop-place-test.true c.in_ok-next.ensures c.loop-place.invariant
    ∙ ap (λ xs. after xs (read (body_layout rule (c.args.count - (c.loop-place.place + 1))) c.instruction.new.reader))
    (sym (ap (map raw_instruction) c.in_ok-push.ensures ∙ map-append raw_instruction c.loop-place.instructions.items _))
