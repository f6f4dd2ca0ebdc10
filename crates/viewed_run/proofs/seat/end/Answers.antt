use Rattle.std.proofs.Common.{◌-◌, sym, ◌∙◌, ap}
use Rattle.std.specs.Prelude.{None}
use Rattle.miner_core.specs.Miners.{held}
use Rattle.miner_core.specs.Places.{Place}
use Rattle.miner_core.specs.Story.{at_stop_or}
use Rattle.viewed_run.proofs.seat.end.Goals as goal

pub returns-in-Some : goal.returns-in-Some
returns-in-Some g c = λ going tape of.
    record {
      how = λ p s. sym (c.ending.ensures.kept c.requires going tape of ∙ ap (at_stop_or None (λ (q : Place). q.ended)) s.at_end) ∙ c.in-Some.is;
      cost = λ p s.
          c.cost-cost.ensures.kept c.requires going tape of
          ∙ ap (at_stop_or 0 (λ (q : Place). (held c.args.miner.now).story.budget - q.stage.left)) s.at_end;
    }
