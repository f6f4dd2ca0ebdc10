use Rattle.gate_node.specs.Nodes.{DoesTheSame, IsSound, KeepsGates, measure}
use Rattle.gate_node.proofs.engine.Engine.finish.Given as goal

abbrev pub invariant-loop-running : goal.invariant-loop-running
invariant-loop-running g l = record {
  same : DoesTheSame g.P.Party.me l.fn.self l.self;
  sound : IsSound g.P.Party.me l.self;
  kept : KeepsGates l.fn.self l.self;
}

abbrev pub decreases-loop-running : goal.decreases-loop-running
decreases-loop-running g l = measure l.self l.self.work
