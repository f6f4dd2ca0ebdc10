use Rattle.std.proofs.Common.{take, drop}
use Rattle.joint_run.specs.Three.{each_of, values_of}
use Rattle.joint_run.specs.States.{state_of}
use Rattle.client_simulator.proofs.MakingSteps.{MadeSo}
use Rattle.client_simulator.proofs.making.made_from.Given as goal

abbrev pub invariant-loop-place : goal.invariant-loop-place
invariant-loop-place l =
    MadeSo (values_of l.dealt) l.gates l.words (each_of l.fn.tapes) (take l.place l.gates) (drop l.place l.gates) (state_of l.run)
    (drop l.number l.words) l.made.items
