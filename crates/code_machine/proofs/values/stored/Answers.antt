use Rattle.std.proofs.Common.{◌≡◌, Ok, sym, ap, subst, ◌∙◌}
use Rattle.language_model.specs.Effects.{carry, done}
use Rattle.language_model.specs.Operations.{charged, no_traps}
use Rattle.language_model.specs.Values.{size}
use Rattle.named_values.specs.Machine.{next}
use Rattle.value_steps.specs.Views.{stage_seen}
use Rattle.code_machine.specs.Views.{kept, machine_seen}
use Rattle.code_machine.proofs.values.stored.Goals as goal

pub returns-clause-step : goal.returns-clause-step
returns-clause-step c = λ code.
    let own = c.args.machine.now in
    let v = kept own c.args.source in
    let m = machine_seen code own in
    let s = stage_seen c.args.stage.now in
    let t = stage_seen c.charged.new.stage in
    let first : charged no_traps (size v) s ≡ Ok (tt, t) =
    subst (λ n. charged no_traps n s ≡ Ok (tt, t)) (c.size.ensures.size ∙ ap size c.register.ensures) c.in_ok-charged.ensures.step in
    ap (λ r. carry r (λ u. done (next c.args.to.0 v m))) first ∙ ap (λ n. Ok (n, t)) (sym (c.in_ok-change.ensures.is code))

pub returns-clause-safe : goal.returns-clause-safe
returns-clause-safe c = c.in_ok-change.ensures.safe

pub returns-clause-enough : goal.returns-clause-enough
returns-clause-enough c = c.in_ok-change.ensures.enough
