use Rattle.std.proofs.Common.{rules, ◌∙◌, ◌<◌, length, map, sym}
use Rattle.bytecode.specs.InMemory.{raw_code, raw_function}
use Rattle.verified_code.specs.Verified.{functions_fault}
use Rattle.verified_code.proofs.Faults.{functions_found, functions_more}
use Rattle.verified_code.proofs.verifying.functions_fault.Goals as goal

pub returns-in-Some : goal.returns-in-Some
returns-in-Some c =
    let code = raw_code c.args.code.now in
    let items = c.args.code.now.functions.items in
    let l : c.loop-number.number < length items = search rules in
    sym (functions_found code raw_function items c.loop-number.number c.index.result.now (functions_fault code 0 (map raw_function items)) c.in-Some.fault
    c.index.ensures l (sym c.function_fault.ensures ∙ c.in-Some.is) c.loop-number.invariant)

pub loop-number-preserved : goal.loop-number-preserved
loop-number-preserved c =
    let code = raw_code c.args.code.now in
    let items = c.args.code.now.functions.items in
    let l : c.loop-number.number < length items = search rules in
    functions_more code raw_function items c.loop-number.number c.index.result.now (functions_fault code 0 (map raw_function items))
    c.index.ensures l (sym c.function_fault.ensures ∙ c.in_default.is) c.loop-number.invariant
