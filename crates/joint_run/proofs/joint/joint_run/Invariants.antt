use Rattle.std.proofs.Common.{take}
use Rattle.joint_run.specs.Three.{each_of, values_of}
use Rattle.joint_run.specs.States.{state_of}
use Rattle.joint_run.specs.GateByGate.{Through}
use Rattle.joint_run.proofs.joint.joint_run.Given as goal

abbrev pub invariant-loop-place : goal.invariant-loop-place
invariant-loop-place l = Through (values_of l.dealt) (take l.place l.gates) (each_of l.fn.tapes) (state_of l.run)
