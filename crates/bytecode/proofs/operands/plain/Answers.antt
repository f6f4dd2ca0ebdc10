use Rattle.std.proofs.Common.{◌∙◌, Ok, ap, sym}
use Rattle.std.proofs.lemmas.Result.{err_from_is_err_and}
use Rattle.bytecode.specs.InMemory.{raw_instruction}
use Rattle.bytecode.proofs.Reading.{reads_err}
use Rattle.bytecode.proofs.SameOperands.{operands_ok, operands_stop, operands_stop-line, operands_stop-second, operands_stop-third}
use Rattle.bytecode.proofs.operands.plain.Goals as goal

pub returns-in_err-second : goal.returns-in_err-second
returns-in_err-second c =
    let stop = operands_stop-second c.args.tag _ _ _ _ _ _ _ _ _ _ _ c.in_err-second.field-0.0 c.has_operator.ensures c.has_first.ensures
    c.has_truth.ensures c.has_second.ensures c.in_ok-operator.ensures.reads c.in_ok-first.ensures c.in_ok-truth.ensures.reads
    c.in_err-second.ensures in
    let from = c.from_residual-in_err-second.ensures in
    reads_err raw_instruction _ _ _ _ (err_from_is_err_and c.from_residual-in_err-second.result from.1) stop

pub returns-in_err-third : goal.returns-in_err-third
returns-in_err-third c =
    let stop = operands_stop-third c.args.tag _ _ _ _ _ _ _ _ _ _ _ _ _ _ c.in_err-third.field-0.0 c.has_operator.ensures c.has_first.ensures
    c.has_truth.ensures c.has_second.ensures c.has_third.ensures c.in_ok-operator.ensures.reads c.in_ok-first.ensures c.in_ok-truth.ensures.reads
    c.in_ok-second.ensures c.in_err-third.ensures in
    let from = c.from_residual-in_err-third.ensures in
    reads_err raw_instruction _ _ _ _ (err_from_is_err_and c.from_residual-in_err-third.result from.1) stop

pub returns-in_err-line : goal.returns-in_err-line
returns-in_err-line c =
    let stop = operands_stop-line c.args.tag _ _ _ _ _ _ _ _ _ _ _ _ _ _ _ _ _ c.in_err-line.field-0.0 c.has_operator.ensures c.has_first.ensures
    c.has_truth.ensures c.has_second.ensures c.has_third.ensures c.has_line.ensures c.in_ok-operator.ensures.reads c.in_ok-first.ensures
    c.in_ok-truth.ensures.reads c.in_ok-second.ensures c.in_ok-third.ensures c.in_err-line.ensures in
    let from = c.from_residual-in_err-line.ensures in
    reads_err raw_instruction _ _ _ _ (err_from_is_err_and c.from_residual-in_err-line.result from.1) stop

pub returns-in_err-word : goal.returns-in_err-word
returns-in_err-word c =
    let stop = operands_stop c.args.tag _ _ _ _ _ _ _ _ _ _ _ _ _ _ _ _ _ _ _ _ c.in_err-word.field-0.0 c.has_operator.ensures c.has_first.ensures
    c.has_truth.ensures c.has_second.ensures c.has_third.ensures c.has_line.ensures c.has_word.ensures
    c.in_ok-operator.ensures.reads c.in_ok-first.ensures c.in_ok-truth.ensures.reads c.in_ok-second.ensures c.in_ok-third.ensures c.in_ok-line.ensures
    c.in_err-word.ensures in
    let from = c.from_residual-in_err-word.ensures in
    reads_err raw_instruction _ _ _ _ (err_from_is_err_and c.from_residual-in_err-word.result from.1) stop

pub returns : goal.returns
returns c =
    operands_ok c.args.tag _ _ _ _ _ _ _ _ _ _ _ _ _ _ _ _ _ _ _ _ _ _ c.has_operator.ensures c.has_first.ensures c.has_truth.ensures
    c.has_second.ensures c.has_third.ensures c.has_line.ensures c.has_word.ensures
    c.in_ok-operator.ensures.reads c.in_ok-first.ensures c.in_ok-truth.ensures.reads c.in_ok-second.ensures c.in_ok-third.ensures c.in_ok-line.ensures
    c.in_ok-word.ensures
    ∙ ap (λ i. Ok (i, c.word_if.new.self)) (sym c.made.ensures)
