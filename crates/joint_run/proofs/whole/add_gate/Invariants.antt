use Rattle.std.proofs.Common.{length}
use Rattle.joint_run.specs.Three.{joint}
use Rattle.gate_exchanges.specs.Exchanges.{protocol_of, makes_two}
use Rattle.joint_run.proofs.Blockwise.{Left}
use Rattle.joint_run.proofs.whole.add_gate.Given as goal

abbrev pub invariant-loop-rest : goal.invariant-loop-rest
invariant-loop-rest l =
    Left (makes_two l.exchange) (protocol_of l.exchange) (length l.fn.operands.u.first) (joint l.fn.operands) l.fn.transcript l.transcript
    l.outputs (length l.rest.u.first) (joint l.rest)

abbrev pub decreases-loop-rest : goal.decreases-loop-rest
decreases-loop-rest l = length l.rest.u.first
