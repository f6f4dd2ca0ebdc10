use Rattle.std.proofs.Common.{drop}
use Rattle.counted_net.specs.Scripts.{moves_of}
use Rattle.view_simulator.proofs.Walking.{Walked}
use Rattle.view_simulator.proofs.gate_by_gate.scripts.Given as goal

abbrev pub invariant-loop-gate : goal.invariant-loop-gate
invariant-loop-gate l = Walked l.dealt l.gates (drop l.gate-index l.gates) l.sizes.items (moves_of l.scripts)
