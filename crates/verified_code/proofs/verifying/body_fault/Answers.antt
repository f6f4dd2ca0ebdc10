use Rattle.std.proofs.Common.{rules, ◌∙◌, ◌<◌, length, map, sym}
use Rattle.bytecode.specs.InMemory.{raw_code, raw_function, raw_instruction}
use Rattle.verified_code.specs.Verified.{body_fault}
use Rattle.verified_code.proofs.Faults.{body_found, body_more}
use Rattle.verified_code.proofs.verifying.body_fault.Goals as goal

pub returns-in-Some : goal.returns-in-Some
returns-in-Some c =
    let code = raw_code c.args.code.now in
    let own = raw_function c.args.own.now in
    let items = c.args.own.now.body.items in
    let l : c.loop-place.place < length items = search rules in
    sym (body_found code c.args.number own raw_instruction items c.loop-place.place c.index.result.now
    (body_fault code c.args.number own 0 (map raw_instruction items)) c.in-Some.problem
    c.index.ensures l (sym c.problem_at.ensures ∙ c.in-Some.is) c.loop-place.invariant)

pub loop-place-preserved : goal.loop-place-preserved
loop-place-preserved c =
    let code = raw_code c.args.code.now in
    let own = raw_function c.args.own.now in
    let items = c.args.own.now.body.items in
    let l : c.loop-place.place < length items = search rules in
    body_more code c.args.number own raw_instruction items c.loop-place.place c.index.result.now
    (body_fault code c.args.number own 0 (map raw_instruction items))
    c.index.ensures l (sym c.problem_at.ensures ∙ c.in_default.is) c.loop-place.invariant
