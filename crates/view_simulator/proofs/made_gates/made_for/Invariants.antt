use Rattle.std.proofs.Common.{drop}
use Rattle.joint_run.specs.Three.{each_of}
use Rattle.view_simulator.proofs.GateByGate.{Goes}
use Rattle.view_simulator.proofs.made_gates.made_for.Given as goal

abbrev pub invariant-loop-gate : goal.invariant-loop-gate
invariant-loop-gate g l = Goes g.P.Party.me l.fn.own l.gates l.fn.opened (each_of l.fn.tapes) (drop l.gate-index l.gates) l.simulator
