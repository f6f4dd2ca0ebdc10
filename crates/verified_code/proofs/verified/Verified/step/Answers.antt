use Rattle.std.proofs.Common.{◌≡◌, ◌∙◌, Some, None, slice_get, ap, sym, subst}
use Rattle.std.proofs.lemmas.Option.{slice_get_past}
use Rattle.bytecode.specs.InMemory.{raw_function}
use Rattle.verified_code.specs.InMemory.{step_at}
use Rattle.verified_code.specs.Settled.{settled_function}
use Rattle.verified_code.proofs.Places.{there_at, function_there, no_function}
use Rattle.verified_code.proofs.verified.Verified.step.Goals as goal

pub returns-in-Some : goal.returns-in-Some
returns-in-Some c =
    let code = c.self.inside.code in
    let own = c.in-Some.own.now in
    let found : slice_get code.functions.items c.args.function ≡ Some own =
    subst (λ xs. slice_get xs c.args.function ≡ Some own) c.deref.ensures.value
    (there_at c.deref.result.now c.args.function own c.in-Some.ensures.lookup.3.0 c.in-Some.ensures.lookup.1) in
    c.step_of.ensures ∙ ap (λ ns. slice_get (settled_function ns (raw_function own)).steps c.args.place) c.deref-in-Some.ensures.value
    ∙ sym (function_there code.names.items code.functions.items c.args.function c.args.place own found)
    ∙ ap (λ z. step_at z c.args.function c.args.place) c.self.view_is

pub returns-in-None : goal.returns-in-None
returns-in-None c =
    let code = c.self.inside.code in
    let missing : slice_get code.functions.items c.args.function ≡ None =
    subst (λ xs. slice_get xs c.args.function ≡ None) c.deref.ensures.value (slice_get_past c.deref.result.now c.args.function c.in-None.ensures.lookup.3) in
    sym (no_function code.names.items code.functions.items c.args.function c.args.place missing)
    ∙ ap (λ z. step_at z c.args.function c.args.place) c.self.view_is
