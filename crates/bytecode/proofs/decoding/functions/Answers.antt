use Rattle.std.proofs.Common.{rules, ◌≡◌, map, Vec, Global}
use Rattle.std.proofs.lemmas.Result.{err_from_is_err_and}
use Rattle.bytecode.specs.declared.code.CodeFunction.{CodeFunction}
use Rattle.bytecode.specs.InMemory.{raw_function}
use Rattle.bytecode.proofs.Reading.{reads_err}
use Rattle.bytecode.proofs.WholeReads.{functions_stop_at_heads, functions_read}
use Rattle.bytecode.proofs.decoding.functions.Goals as goal

pub returns-in_err-heads : goal.returns-in_err-heads
returns-in_err-heads c =
    let stop = functions_stop_at_heads c.args.version c.in_ok-count.count c.args.reader.now c.count.new.self
    c.in_err-heads.field-0.0 c.in_ok-count.ensures c.in_err-heads.ensures in
    let from = c.from_residual-in_err-heads.ensures in
    reads_err (λ (v : Vec CodeFunction Global). map raw_function v.items) _ _ _ _ (err_from_is_err_and c.from_residual-in_err-heads.result from.1) stop

pub returns : goal.returns
returns c =
    let counts : c.deref-2.result.now ≡ map (λ h. h.parameters) c.in_ok-heads.heads.items = search rules in
    functions_read (λ (v : Vec CodeFunction Global). map raw_function v.items) c.args.version c.in_ok-count.count c.in_ok-heads.heads.items c.deref-2.result.now
    c.args.reader.now c.count.new.self c.all_heads.new.reader
    _ _ c.in_ok-count.ensures c.in_ok-heads.ensures counts c.bodies.ensures
