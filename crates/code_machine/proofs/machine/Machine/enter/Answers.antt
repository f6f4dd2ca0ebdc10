use Rattle.std.proofs.Common.{◌+◌, ◌≤◌, [], ◌∷◌, ◌++◌, length, ap, sym, subst, ◌∙◌}
use Rattle.verified_code.specs.InMemory.{place_of}
use Rattle.code_machine.specs.declared.machine.Caller.{Caller}
use Rattle.code_machine.specs.Standing.{CanAllGoOn, HasAny, kinds_at}
use Rattle.code_machine.proofs.Callers.{all-push}
use Rattle.code_machine.proofs.machine.Machine.enter.Goals as goal

pub returns-clause-stands : goal.returns-clause-stands
returns-clause-stands c = λ code stands enough.
    let own = c.args.self.now in
    let caller : Caller = record { function = own.function; place = own.place + 1; registers = c.replace.result; result = c.args.to } in
    let items = c.in_ok-push.ensures.items ∙ ap (λ cs. cs ++ caller ∷ []) c.in_ok-reserve.ensures.items in
    let callers = all-push code own.callers.items caller stands.callers (record {
      registers = subst (λ v. length (kinds_at code own.function) ≤ length v.items) (sym c.replace.ensures.value) stands.registers;
      result = subst (λ v. HasAny (length v.items) (place_of c.args.to)) (sym c.replace.ensures.value) c.requires.safe;
    }) in
    record {
      registers = subst (λ v. length (kinds_at code c.args.function.0) ≤ length v.items) (sym c.replace.ensures.after) enough;
      callers = subst (CanAllGoOn code) (sym items) callers;
    }
