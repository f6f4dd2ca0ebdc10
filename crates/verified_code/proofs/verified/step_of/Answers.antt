use Rattle.std.proofs.Common.{◌≡◌, ◌∙◌, Some, None, slice_get, ap, sym, subst}
use Rattle.std.proofs.lemmas.Option.{slice_get_past}
use Rattle.bytecode.specs.InMemory.{raw_instruction}
use Rattle.verified_code.specs.Settled.{settle}
use Rattle.verified_code.proofs.Places.{there_at, step_there, no_step}
use Rattle.verified_code.proofs.verified.step_of.Goals as goal

pub returns-in-Some : goal.returns-in-Some
returns-in-Some c =
    let names = c.args.names.now in
    let i = c.in-Some.instruction.now in
    let found : slice_get c.args.own.now.body.items c.args.place ≡ Some i =
    subst (λ xs. slice_get xs c.args.place ≡ Some i) c.deref.ensures.value
    (there_at c.deref.result.now c.args.place i c.in-Some.ensures.lookup.3.0 c.in-Some.ensures.lookup.1) in
    ap Some (c.settle.ensures ∙ ap (λ ks. settle names ks (raw_instruction i)) c.deref-in-Some.ensures.value)
    ∙ sym (step_there names c.args.own.now.registers.items c.args.own.now.body.items c.args.place i found)

pub returns-in-None : goal.returns-in-None
returns-in-None c =
    let missing : slice_get c.args.own.now.body.items c.args.place ≡ None =
    subst (λ xs. slice_get xs c.args.place ≡ None) c.deref.ensures.value (slice_get_past c.deref.result.now c.args.place c.in-None.ensures.lookup.3) in
    sym (no_step c.args.names.now c.args.own.now.registers.items c.args.own.now.body.items c.args.place missing)
