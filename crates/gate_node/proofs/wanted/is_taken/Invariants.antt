use Rattle.std.proofs.Common.{◌≡◌, drop}
use Rattle.gate_node.specs.Plans.{any_takes}
use Rattle.gate_node.proofs.wanted.is_taken.Given as goal

abbrev pub invariant-loop-gate : goal.invariant-loop-gate
invariant-loop-gate l = any_takes l.number l.gates ≡ any_takes l.number (drop l.gate-index l.gates)
