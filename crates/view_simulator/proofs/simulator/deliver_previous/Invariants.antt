use Rattle.std.proofs.Common.{◌≡◌, drop}
use Rattle.gate_node.specs.Nodes.{with_links}
use Rattle.view_simulator.specs.Simulators.{more_previous}
use Rattle.view_simulator.proofs.simulator.deliver_previous.Given as goal

abbrev pub invariant-loop-at : goal.invariant-loop-at
invariant-loop-at g l =
    with_links l.node (more_previous l.node.links (drop l.at l.messages)) ≡ with_links l.fn.node (more_previous l.fn.node.links (drop l.fn.from l.messages))
