use Rattle.std.proofs.Common.{inr, refl}
use Rattle.joint_run.specs.Three.{values_of}
use Rattle.joint_run.specs.States.{state_of}
use Rattle.joint_run.specs.JointRuns.{dealt_sizes}
use Rattle.joint_run.proofs.GateSteps.{can-exchange, local-runs, exchange-runs, exchange-ends}
use Rattle.joint_run.proofs.step.run_gate.Goals as goal

pub run_exchange-requires : goal.run_exchange-requires
run_exchange-requires c =
    can-exchange (state_of c.args.run.now) c.requires.own (dealt_sizes (values_of c.args.dealt.now)) c.args.gate.now c.in-Some.exchanged
    c.in-Some.ensures.some (c.if-not-suits.ensures.0 refl) c.in-Ok.ensures.ok

pub returns-in_ok-run_local-in-None-clause-ok : goal.returns-in_ok-run_local-in-None-clause-ok
returns-in_ok-run_local-in-None-clause-ok c =
    local-runs (values_of c.args.dealt.now) c.requires.even c.args.gate.now (state_of c.args.run.now) (state_of c.run_local.new.run)
    c.requires.own (c.if-not-suits.ensures.0 refl) c.in-None.ensures.none c.in_ok-run_local-in-None.ensures

pub returns-in_ok-run_exchange-in-Some-clause-ok : goal.returns-in_ok-run_exchange-in-Some-clause-ok
returns-in_ok-run_exchange-in-Some-clause-ok c =
    exchange-runs (values_of c.args.dealt.now) c.requires.even c.args.gate.now (state_of c.args.run.now) (state_of c.run_exchange.new.run)
    c.requires.own (c.if-not-suits.ensures.0 refl) c.in-Some.exchanged c.in-Some.ensures.some c.in-Ok.ensures.ok
    c.in_ok-run_exchange-in-Some.ensures

pub returns-in-Err-clause-err : goal.returns-in-Err-clause-err
returns-in-Err-clause-err c =
    inr
    (inr
    (exchange-ends (values_of c.args.dealt.now) c.args.gate.now (state_of c.args.run.now) c.in-Some.exchanged c.args.place c.in-Err.short
    (c.if-not-suits.ensures.0 refl) c.in-Some.ensures.some c.in-Err.ensures.err))
