use Rattle.std.proofs.Common.{◌≡◌, ◌-◌, ◌≤◌, ◌↔◌, length}
use Rattle.gate_node.specs.declared.engine.AtWork.TheVariants as work
use Rattle.gate_node.specs.Nodes.{CanStore, IsAhead}
use Rattle.gate_node.proofs.engine.Engine.store_in_place.Given as goal

abbrev pub invariant-loop-self : goal.invariant-loop-self
invariant-loop-self g l = record {
  ahead : IsAhead g.P.Party.me l.fn.self l.self;
  idle : l.self.work ≡ work.Idle;
  within : l.self.begun ≤ length l.self.gates.items;
  store : CanStore g.P.Party.me l.array l.count l.self ↔ CanStore g.P.Party.me l.array l.count l.fn.self;
}

abbrev pub decreases-loop-self : goal.decreases-loop-self
decreases-loop-self g l = length l.self.gates.items - l.self.begun
