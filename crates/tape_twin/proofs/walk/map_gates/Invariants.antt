use Rattle.std.proofs.Common.{drop}
use Rattle.joint_run.specs.Three.{each_of, values_of}
use Rattle.tape_twin.specs.Stands.{stand_of}
use Rattle.tape_twin.proofs.Walking.{Walked}
use Rattle.tape_twin.proofs.walk.map_gates.Given as goal

abbrev pub invariant-loop-place : goal.invariant-loop-place
invariant-loop-place l =
    Walked l.map (values_of l.dealt) l.gates (each_of l.fn.tapes) (drop l.place l.gates) (stand_of l.shares l.passing)
