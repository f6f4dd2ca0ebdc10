use Rattle.client_runs.proofs.AlikeRuns.{published-more}
use Rattle.client_runs.proofs.alike.published_of.Goals as goal

pub loop-event-preserved : goal.loop-event-preserved
loop-event-preserved c =
    published-more c.args.events.now c.loop-event.published.items c.push_handed.new.published.items c.loop-event.event-index c.event-item.result
    c.event-item.result c.loop-event-test.true c.event-item.is c.loop-event.invariant c.in_ok-push_handed.ensures
