use Rattle.std.proofs.Common.{◌≡◌, ◌<◌, length, Ok, ap, sym, ◌∙◌, arith}
use Rattle.language_model.specs.Evaluation.{nothing}
use Rattle.verified_code.specs.InMemory.{place_of}
use Rattle.value_steps.specs.Views.{value_seen}
use Rattle.code_machine.specs.Changes.{back_to, returned}
use Rattle.code_machine.specs.Views.{callers_seen, machine_seen, registers_seen}
use Rattle.code_machine.proofs.Callers.{callers-count, resumes}
use Rattle.code_machine.proofs.plan.leave.Goals as goal

pub returns-clause-step : goal.returns-clause-step
returns-clause-step c = λ code s.
    let own = c.args.machine.now in
    let cs = callers_seen code own.callers.items in
    let m = machine_seen code own in
    let fr = registers_seen own.registers.items in
    let r = place_of c.args.source in
    let other : value_seen c.in_ok-unread.unread ≡ nothing = c.in_ok-unread.ensures in
    let some : 0 < length own.callers.items = grind arith in
    resumes cs (returned r nothing fr) m s (omega (arith, callers-count code own.callers.items, some))
    ∙ ap (λ v. Ok (back_to cs (returned r v fr) m, s)) (sym other)
