use Rattle.std.proofs.Common.{◌∙◌, Ok, map, ap, sym}
use Rattle.std.proofs.lemmas.Result.{err_from_is_err_and}
use Rattle.bytecode.specs.declared.instruction.Register.{Register}
use Rattle.bytecode.specs.InMemory.{raw_instruction}
use Rattle.bytecode.specs.Raw.{Call}
use Rattle.bytecode.specs.Versions.{counting}
use Rattle.bytecode.proofs.Reading.{reads_err}
use Rattle.bytecode.proofs.SameOperands.{call_ok, call_stops_at_count, call_stops_at_arguments, call_stops_at_line}
use Rattle.bytecode.proofs.operands.call.Goals as goal

pub returns-in_err-count : goal.returns-in_err-count
returns-in_err-count c =
    let e = c.in_err-count.field-0.0 in
    let stop = call_stops_at_count (counting c.args.version c.args.parameters.now) c.in_ok-function.function c.in_ok-to.to _ _ _ e c.in_ok-function.ensures
    c.in_ok-to.ensures c.in_err-count.ensures in
    let from = c.from_residual-in_err-count.ensures in
    reads_err raw_instruction _ _ _ _ (err_from_is_err_and c.from_residual-in_err-count.result from.1) stop

pub returns-in_err-arguments : goal.returns-in_err-arguments
returns-in_err-arguments c =
    let e = c.in_err-arguments.field-0.0 in
    let stop = call_stops_at_arguments (counting c.args.version c.args.parameters.now) c.in_ok-function.function c.in_ok-to.to c.in_ok-count.count _ _ _ _ e
    c.in_ok-function.ensures c.in_ok-to.ensures c.in_ok-count.ensures c.in_err-arguments.ensures in
    let from = c.from_residual-in_err-arguments.ensures in
    reads_err raw_instruction _ _ _ _ (err_from_is_err_and c.from_residual-in_err-arguments.result from.1) stop

pub returns-in_err-line : goal.returns-in_err-line
returns-in_err-line c =
    let e = c.in_err-line.field-0.0 in
    let xs = map (λ (r : Register). r.0) c.in_ok-arguments.arguments.items in
    let stop = call_stops_at_line (counting c.args.version c.args.parameters.now) c.in_ok-function.function c.in_ok-to.to c.in_ok-count.count xs _ _ _ _ _ e
    c.in_ok-function.ensures c.in_ok-to.ensures c.in_ok-count.ensures c.in_ok-arguments.ensures c.in_err-line.ensures in
    let from = c.from_residual-in_err-line.ensures in
    reads_err raw_instruction _ _ _ _ (err_from_is_err_and c.from_residual-in_err-line.result from.1) stop

pub returns : goal.returns
returns c =
    let xs = map (λ (r : Register). r.0) c.in_ok-arguments.arguments.items in
    call_ok (counting c.args.version c.args.parameters.now) c.in_ok-function.function c.in_ok-to.to c.in_ok-count.count xs c.in_ok-line.line _ _ _ _ _ _
    c.in_ok-function.ensures c.in_ok-to.ensures c.in_ok-count.ensures c.in_ok-arguments.ensures c.in_ok-line.ensures
    ∙ ap (λ d. Ok (Call c.in_ok-function.function d xs c.in_ok-line.line, c.line.new.self)) (sym c.result_of.ensures)
