use Rattle.std.proofs.Common.{◌∙◌, Ok, ap, sym}
use Rattle.std.proofs.lemmas.Result.{err_from_is_err_and}
use Rattle.bytecode.specs.InMemory.{raw_head}
use Rattle.bytecode.proofs.Reading.{reads_err}
use Rattle.bytecode.proofs.HeadReads.{head_ok, head_stops_at_registers, head_stops_at_count}
use Rattle.bytecode.proofs.heads.next_head.Goals as goal

pub returns-in_err-registers : goal.returns-in_err-registers
returns-in_err-registers c =
    let stop = head_stops_at_registers c.args.version c.in_ok-parameters.parameters c.in_ok-gives.gives c.in_ok-count.count _ _ _ _ c.in_err-registers.field-0.0
    c.in_ok-parameters.ensures c.in_ok-gives.ensures.reads c.in_ok-count.ensures c.in_err-registers.ensures.reads in
    let from = c.from_residual-in_err-registers.ensures in
    reads_err raw_head _ _ _ _ (err_from_is_err_and c.from_residual-in_err-registers.result from.1) stop

pub returns-in_err-instructions : goal.returns-in_err-instructions
returns-in_err-instructions c =
    let stop = head_stops_at_count c.args.version c.in_ok-parameters.parameters c.in_ok-gives.gives c.in_ok-count.count c.in_ok-registers.registers.items _ _ _ _ _
    c.in_err-instructions.field-0.0
    c.in_ok-parameters.ensures c.in_ok-gives.ensures.reads c.in_ok-count.ensures c.in_ok-registers.ensures.reads c.in_err-instructions.ensures in
    let from = c.from_residual-in_err-instructions.ensures in
    reads_err raw_head _ _ _ _ (err_from_is_err_and c.from_residual-in_err-instructions.result from.1) stop

pub returns : goal.returns
returns c =
    head_ok c.args.version c.in_ok-parameters.parameters c.in_ok-gives.gives c.in_ok-count.count c.in_ok-registers.registers.items c.in_ok-instructions.instructions
    _ _ _ _ _ _
    c.in_ok-parameters.ensures c.in_ok-gives.ensures.reads c.in_ok-count.ensures c.in_ok-registers.ensures.reads c.in_ok-instructions.ensures
    ∙ ap (λ g. Ok (
      record {
        parameters = c.in_ok-parameters.parameters;
        gives = g;
        registers = c.in_ok-registers.registers.items;
        instructions =
            c.in_ok-instructions.instructions;
      },
      c.short-3.new.self,
    ))
    (sym c.return_of.ensures)
