use Rattle.std.proofs.Common.{Some, length, ap, ◌∙◌}
use Rattle.std.specs.Prelude.{map, slice_get}
use Rattle.language_model.specs.Effects.{carry, done}
use Rattle.verified_code.specs.InMemory.{place_of}
use Rattle.verified_code.specs.Settled.{settled}
use Rattle.verified_code.specs.Steps as steps
use Rattle.named_values.specs.Machine.{entering, step, values_at}
use Rattle.value_steps.specs.Steps.{itself}
use Rattle.value_steps.specs.Views.{stage_seen}
use Rattle.code_machine.specs.Changes.{changed}
use Rattle.code_machine.specs.Parts.{call_charged}
use Rattle.code_machine.specs.Views.{machine_seen, registers_seen}
use Rattle.code_machine.proofs.Callers.{callers-count}
use Rattle.code_machine.proofs.Does.{call-run, stop-run}
use Rattle.code_machine.proofs.plan.enter.Goals as goal

pub returns-in_err-charge_call-clause-step : goal.returns-in_err-charge_call-clause-step
returns-in_err-charge_call-clause-step c = λ w.
    let code = c.args.code.now in
    let own = c.args.machine.now in
    let m = machine_seen code own in
    let rs = map (λ r. r.0) c.args.call.arguments.now in
    let xs = values_at (registers_seen own.registers.items) rs in
    let to = entering (slice_get (settled code) c.args.call.function.0) (place_of c.args.call.to) xs m in
    let s = stage_seen c.args.stage.now in
    let i = steps.Call c.args.call.line c.args.call.function.0 (place_of c.args.call.to) rs in
    stop-run itself (changed code m) (step w (settled code) (Some i) m) s (call_charged (length own.callers.items) c.args.call.line xs) s
    (stage_seen c.charge_call.new.stage) (λ u. done to)
    c.in_err-charge_call.field-0.0 c.from_residual.result
    (call-run (length m.stack) c.args.call.line xs to s
    ∙ ap (λ n. carry (call_charged n c.args.call.line xs s) (λ u. done to)) (callers-count code own.callers.items))
    c.in_err-charge_call.ensures c.from_residual.ensures.1
