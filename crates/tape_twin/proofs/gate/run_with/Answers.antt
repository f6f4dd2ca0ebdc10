use Rattle.joint_run.specs.Three.{values_of}
use Rattle.joint_run.specs.States.{state_of}
use Rattle.tape_twin.proofs.Passing.{runs-with}
use Rattle.tape_twin.proofs.gate.run_with.Goals as goal

pub returns-in-Ok-clause-ok : goal.returns-in-Ok-clause-ok
returns-in-Ok-clause-ok c =
    runs-with (values_of c.args.dealt.now) c.args.placed.gate.now
    (state_of (record { shares = c.args.shares; tapes = c.args.words; transcript = c.new.result }))
    (state_of c.run_gate.new.run) c.in-Ok.ensures.ok
