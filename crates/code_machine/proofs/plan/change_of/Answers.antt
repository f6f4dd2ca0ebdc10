use Rattle.std.proofs.Common.{Some, sym, subst}
use Rattle.verified_code.specs.InMemory.{step_in}
use Rattle.verified_code.specs.Settled.{settled}
use Rattle.named_values.specs.Machine.{step}
use Rattle.value_steps.specs.Steps.{Does}
use Rattle.value_steps.specs.Views.{stage_seen, world_seen}
use Rattle.code_machine.specs.Changes.{changed}
use Rattle.code_machine.specs.Views.{machine_seen}
use Rattle.code_machine.proofs.plan.change_of.Goals as goal

pub returns-in-Literal-clause-step : goal.returns-in-Literal-clause-step
returns-in-Literal-clause-step c =
    let w = world_seen c.args.world.now in
    let code = c.args.code.now in
    let m = machine_seen code c.args.machine.now in
    let s = stage_seen c.args.stage.now in
    subst (λ i. Does (changed code m) (step w (settled code) (Some (step_in i)) m) s c.literal.result s) (sym c.in-Literal.is)
    (c.literal.ensures.step code s)

pub returns-in-Literal-clause-enough : goal.returns-in-Literal-clause-enough
returns-in-Literal-clause-enough c = c.literal.ensures.enough c.args.code.now

pub returns-in-Move-clause-step : goal.returns-in-Move-clause-step
returns-in-Move-clause-step c =
    let w = world_seen c.args.world.now in
    let code = c.args.code.now in
    let m = machine_seen code c.args.machine.now in
    let s = stage_seen c.args.stage.now in
    subst (λ i. Does (changed code m) (step w (settled code) (Some (step_in i)) m) s c.moved.result s) (sym c.in-Move.is)
    (c.moved.ensures.step code s)

pub returns-in-Move-clause-enough : goal.returns-in-Move-clause-enough
returns-in-Move-clause-enough c = c.moved.ensures.enough c.args.code.now

pub returns-in-Store-clause-step : goal.returns-in-Store-clause-step
returns-in-Store-clause-step c =
    let w = world_seen c.args.world.now in
    let code = c.args.code.now in
    let m = machine_seen code c.args.machine.now in
    let s = stage_seen c.args.stage.now in
    subst (λ i. Does (changed code m) (step w (settled code) (Some (step_in i)) m) s c.stored.result (stage_seen c.stored.new.stage)) (sym c.in-Store.is)
    (c.stored.ensures.step code)

pub returns-in-Store-clause-enough : goal.returns-in-Store-clause-enough
returns-in-Store-clause-enough c = c.stored.ensures.enough c.args.code.now

pub returns-in-Put-clause-step : goal.returns-in-Put-clause-step
returns-in-Put-clause-step c =
    let w = world_seen c.args.world.now in
    let code = c.args.code.now in
    let m = machine_seen code c.args.machine.now in
    let s = stage_seen c.args.stage.now in
    subst (λ i. Does (changed code m) (step w (settled code) (Some (step_in i)) m) s c.put.result (stage_seen c.put.new.stage)) (sym c.in-Put.is)
    (c.put.ensures.step code)

pub returns-in-Put-clause-enough : goal.returns-in-Put-clause-enough
returns-in-Put-clause-enough c = c.put.ensures.enough c.args.code.now

pub returns-in-Branch-clause-step : goal.returns-in-Branch-clause-step
returns-in-Branch-clause-step c =
    let w = world_seen c.args.world.now in
    let code = c.args.code.now in
    let m = machine_seen code c.args.machine.now in
    let s = stage_seen c.args.stage.now in
    subst (λ i. Does (changed code m) (step w (settled code) (Some (step_in i)) m) s c.branch-machine.result (stage_seen c.branch-machine.new.stage))
    (sym c.in-Branch.is) (c.branch-machine.ensures.step code)

pub returns-in-Branch-clause-enough : goal.returns-in-Branch-clause-enough
returns-in-Branch-clause-enough c = c.branch-machine.ensures.enough c.args.code.now

pub returns-in-Call-clause-step : goal.returns-in-Call-clause-step
returns-in-Call-clause-step c =
    let w = world_seen c.args.world.now in
    let code = c.args.code.now in
    let m = machine_seen code c.args.machine.now in
    let s = stage_seen c.args.stage.now in
    subst (λ i. Does (changed code m) (step w (settled code) (Some (step_in i)) m) s c.enter.result (stage_seen c.enter.new.stage))
    (sym c.in-Call.is) (c.enter.ensures.step w)

pub returns-in-Return-clause-step : goal.returns-in-Return-clause-step
returns-in-Return-clause-step c =
    let w = world_seen c.args.world.now in
    let code = c.args.code.now in
    let m = machine_seen code c.args.machine.now in
    let s = stage_seen c.args.stage.now in
    subst (λ i. Does (changed code m) (step w (settled code) (Some (step_in i)) m) s c.leave.result (stage_seen c.args.stage.now))
    (sym c.in-Return.is) (c.leave.ensures.step code s)

pub returns-in-Return-clause-enough : goal.returns-in-Return-clause-enough
returns-in-Return-clause-enough c = c.leave.ensures.enough c.args.code.now

pub returns-in-ReturnNone-clause-step : goal.returns-in-ReturnNone-clause-step
returns-in-ReturnNone-clause-step c =
    let w = world_seen c.args.world.now in
    let code = c.args.code.now in
    let m = machine_seen code c.args.machine.now in
    let s = stage_seen c.args.stage.now in
    subst (λ i. Does (changed code m) (step w (settled code) (Some (step_in i)) m) s c.leave-in-ReturnNone.result (stage_seen c.args.stage.now))
    (sym c.in-ReturnNone.is) (c.leave-in-ReturnNone.ensures.step code s)

pub returns-in-ReturnNone-clause-enough : goal.returns-in-ReturnNone-clause-enough
returns-in-ReturnNone-clause-enough c = c.leave-in-ReturnNone.ensures.enough c.args.code.now
