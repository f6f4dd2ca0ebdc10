use Rattle.gate_node.specs.Nodes.{to_come, DoesTheSame, IsSound, Keeps}
use Rattle.gate_node.proofs.engine.Engine.advance.Given as goal

abbrev pub invariant-loop-self : goal.invariant-loop-self
invariant-loop-self g l = record {
  same : DoesTheSame g.P.Party.me l.fn.self l.self;
  sound : IsSound g.P.Party.me l.self;
  kept : Keeps l.fn.self l.self;
}

abbrev pub decreases-loop-self : goal.decreases-loop-self
decreases-loop-self g l = to_come g.P.Party.me l.self
