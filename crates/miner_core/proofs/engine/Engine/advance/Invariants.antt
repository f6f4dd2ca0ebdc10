use Rattle.std.proofs.Common.{◌≡◌}
use Rattle.miner_core.specs.Engines.{outcome_with, told_with, all_shown, IsSoundAlways, Keeps, measure}
use Rattle.miner_core.proofs.engine.Engine.advance.Given as goal

abbrev pub invariant-loop-standing : goal.invariant-loop-standing
invariant-loop-standing g l = record {
  same : all_shown (outcome_with g.P.Party.me l.self) ≡ all_shown (outcome_with g.P.Party.me l.fn.self);
  told : told_with g.P.Party.me l.self ≡ told_with g.P.Party.me l.fn.self;
  sound : IsSoundAlways g.P.Party.me l.self;
  kept : Keeps l.fn.self l.self;
}

abbrev pub decreases-loop-standing : goal.decreases-loop-standing
decreases-loop-standing g l = measure l.self
