use Rattle.std.proofs.Common.{map}
use Rattle.std.proofs.lemmas.Result.{err_from_is_err_and}
use Rattle.bytecode.specs.Decoded.{body_layout, function_of}
use Rattle.bytecode.specs.InMemory.{raw_function, raw_head, raw_instruction}
use Rattle.bytecode.specs.Layouts.{Makes}
use Rattle.bytecode.specs.Versions.{counting}
use Rattle.bytecode.proofs.Reading.{reads_err, step_ok, step_stops}
use Rattle.bytecode.proofs.decoding.function.Goals as goal

pub returns-in_err-body : goal.returns-in_err-body
returns-in_err-body c =
    let h = raw_head c.args.head in
    let stop = step_stops (body_layout (counting c.args.version c.args.parameters.now) h.instructions)
    (λ is. Makes (function_of h is)) c.args.reader.now c.in_err-body.field-0.0 c.in_err-body.ensures in
    let from = c.from_residual.ensures in
    reads_err raw_function _ _ _ _ (err_from_is_err_and c.from_residual.result from.1) stop

pub returns : goal.returns
returns c =
    let h = raw_head c.args.head in
    step_ok (body_layout (counting c.args.version c.args.parameters.now) h.instructions) (λ is. Makes (function_of h is)) c.args.reader.now
    (map raw_instruction c.in_ok-body.body.items) c.body.new.reader c.in_ok-body.ensures
