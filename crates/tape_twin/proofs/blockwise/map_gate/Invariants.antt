use Rattle.std.proofs.Common.{length}
use Rattle.joint_run.specs.Three.{each_of, joint}
use Rattle.joint_run.specs.Exchanges.{protocol_of}
use Rattle.tape_twin.proofs.Blocks.{Left}
use Rattle.tape_twin.proofs.blockwise.map_gate.Given as goal

abbrev pub invariant-loop-rest : goal.invariant-loop-rest
invariant-loop-rest l =
    Left l.map.way (protocol_of l.exchange) (length l.fn.operands.u.first) l.map.miner (joint l.fn.operands) (each_of l.made)
    (length l.rest.u.first) (joint l.rest)

abbrev pub decreases-loop-rest : goal.decreases-loop-rest
decreases-loop-rest l = length l.rest.u.first
