use Rattle.std.proofs.Common.{map}
use Rattle.std.proofs.lemmas.Result.{err_from_is_err_and}
use Rattle.bytecode.specs.InMemory.{raw_code, raw_function}
use Rattle.bytecode.proofs.Reading.{reads_err}
use Rattle.bytecode.proofs.WholeReads.{code_stops_at_names, code_stops_at_functions, code_ok}
use Rattle.bytecode.proofs.decoding.code.Goals as goal

pub returns-in_err-names : goal.returns-in_err-names
returns-in_err-names c =
    let stop = code_stops_at_names c.args.version _ c.in_ok-count.count c.args.reader.now c.opening.new.reader c.short.new.self
    c.in_err-names.field-0.0 c.in_ok-opening.ensures c.in_ok-count.ensures c.in_err-names.ensures in
    let from = c.from_residual-in_err-names.ensures in
    reads_err raw_code _ _ _ _ (err_from_is_err_and c.from_residual-in_err-names.result from.1) stop

pub returns-in_err-functions : goal.returns-in_err-functions
returns-in_err-functions c =
    let stop = code_stops_at_functions c.args.version _ c.in_ok-count.count c.in_ok-names.names.items c.args.reader.now c.opening.new.reader c.short.new.self
    c.all_names.new.reader c.in_err-functions.field-0.0 c.in_ok-opening.ensures c.in_ok-count.ensures c.in_ok-names.ensures c.in_err-functions.ensures in
    let from = c.from_residual-in_err-functions.ensures in
    reads_err raw_code _ _ _ _ (err_from_is_err_and c.from_residual-in_err-functions.result from.1) stop

pub returns : goal.returns
returns c =
    code_ok c.args.version _ c.in_ok-count.count c.in_ok-names.names.items
    (map raw_function c.in_ok-functions.functions.items) c.args.reader.now c.opening.new.reader c.short.new.self c.all_names.new.reader c.functions.new.reader
    c.in_ok-opening.ensures c.in_ok-count.ensures c.in_ok-names.ensures c.in_ok-functions.ensures
