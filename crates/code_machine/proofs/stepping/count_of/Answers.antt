use Rattle.std.proofs.Common.{◌≡◌, Some, None, length, slice_get, arith, sym, subst, ◌∙◌}
use Rattle.std.proofs.lemmas.Option.{slice_get_past}
use Rattle.verified_code.proofs.Places.{there_at}
use Rattle.code_machine.proofs.Functions.{count-none, count-some}
use Rattle.code_machine.proofs.stepping.count_of.Goals as goal

pub returns-in-Some : goal.returns-in-Some
returns-in-Some c =
    let code = c.args.code.now in
    let own = c.in-Some.own.now in
    let found : slice_get code.functions.items c.args.function ≡ Some own =
    subst (λ xs. slice_get xs c.args.function ≡ Some own) c.deref.ensures.value
    (there_at c.deref.result.now c.args.function own c.in-Some.ensures.lookup.3.0 c.in-Some.ensures.lookup.1) in
    let count : c.len.result ≡ length own.body.items = omega (arith, c.len.ensures, own.body.ok.0) in
    count ∙ sym (count-some code c.args.function own found)

pub returns-in-None : goal.returns-in-None
returns-in-None c =
    let code = c.args.code.now in
    let missing : slice_get code.functions.items c.args.function ≡ None =
    subst (λ xs. slice_get xs c.args.function ≡ None) c.deref.ensures.value (slice_get_past c.deref.result.now c.args.function c.in-None.ensures.lookup.3) in
    sym (count-none code c.args.function missing)
