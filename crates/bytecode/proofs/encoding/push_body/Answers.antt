use Rattle.bytecode.specs.Written.{instruction_numbers}
use Rattle.bytecode.specs.InMemory.{raw_instruction}
use Rattle.bytecode.specs.declared.instruction.Instruction.{Instruction}
use Rattle.bytecode.proofs.Little.{more_items, all_items}
use Rattle.bytecode.proofs.encoding.push_body.Goals as goal

pub loop-instruction-preserved : goal.loop-instruction-preserved
loop-instruction-preserved c =
    more_items (λ (i : Instruction). instruction_numbers (raw_instruction i)) c.args.body.now c.loop-instruction.instruction-index
    c.instruction-item.result c.instruction-item.is
    _ _ _ c.loop-instruction-test.true c.loop-instruction.invariant c.in_ok-push_instruction.ensures

pub returns : goal.returns
returns c = all_items instruction_numbers raw_instruction c.args.body.now c.loop-instruction.instruction-index _ _ c.loop-instruction-test.false
    c.loop-instruction.invariant
