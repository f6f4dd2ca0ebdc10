use Rattle.std.proofs.Common.{◌≡◌, ◌++◌, map, subst}
use Rattle.std.specs.List.{flat_map}
use Rattle.bytecode.specs.Written.{bytes_of, body_numbers, instruction_numbers}
use Rattle.bytecode.specs.InMemory.{raw_function, raw_instruction}
use Rattle.bytecode.specs.declared.code.CodeFunction.{CodeFunction}
use Rattle.bytecode.proofs.Little.{more_items, all_items}
use Rattle.bytecode.proofs.encoding.push_bodies.Goals as goal

pub loop-function-preserved : goal.loop-function-preserved
loop-function-preserved c =
    more_items (λ (f : CodeFunction). body_numbers (raw_function f)) c.args.functions.now c.loop-function.function-index c.function-item.result
    c.function-item.is
    _ _ _ c.loop-function-test.true c.loop-function.invariant
    (subst (λ z. c.push_body.new.text.items ≡ c.loop-function.text.items ++ bytes_of (flat_map instruction_numbers (map raw_instruction z)))
    c.deref.ensures.value c.in_ok-push_body.ensures)

pub returns : goal.returns
returns c = all_items body_numbers raw_function c.args.functions.now c.loop-function.function-index _ _ c.loop-function-test.false c.loop-function.invariant
