use Rattle.bytecode.specs.Written.{head_numbers}
use Rattle.bytecode.specs.InMemory.{raw_function}
use Rattle.bytecode.specs.declared.code.CodeFunction.{CodeFunction}
use Rattle.bytecode.proofs.Little.{more_items, all_items}
use Rattle.bytecode.proofs.encoding.push_heads.Goals as goal

pub loop-function-preserved : goal.loop-function-preserved
loop-function-preserved c =
    more_items (λ (f : CodeFunction). head_numbers (raw_function f)) c.args.functions.now c.loop-function.function-index c.function-item.result
    c.function-item.is
    _ _ _ c.loop-function-test.true c.loop-function.invariant c.in_ok-push_head.ensures

pub returns : goal.returns
returns c = all_items head_numbers raw_function c.args.functions.now c.loop-function.function-index _ _ c.loop-function-test.false c.loop-function.invariant
