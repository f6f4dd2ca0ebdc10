use Rattle.std.proofs.Common.{◌≡◌, ◌<◌, ◌≤◌}
use Rattle.miner_core.specs.declared.engine.At.TheVariants.{Ready}
use Rattle.miner_core.specs.Engines.{left_with, measure, IsSoundAlways, IsThroughAlways, KeepsLinks}
use Rattle.miner_core.proofs.engine.Engine.row.Given as goal

abbrev pub invariant-loop-done : goal.invariant-loop-done
invariant-loop-done g l = record {
  ready : l.self.at ≡ Ready;
  fuel : 0 < l.self.fuel;
  through : IsThroughAlways g.P.Party.me l.self.node;
  sound : IsSoundAlways g.P.Party.me l.self;
  left : left_with g.P.Party.me l.self ≡ left_with g.P.Party.me l.fn.self;
  kept : KeepsLinks l.fn.self l.self;
  falls : measure l.self ≤ measure l.fn.self;
}

abbrev pub decreases-loop-done : goal.decreases-loop-done
decreases-loop-done g l = measure l.self
