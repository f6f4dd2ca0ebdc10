use Rattle.program_views.specs.Views.{openings}
use Rattle.view_simulator.proofs.Pieces.{one_more, openings_append}
use Rattle.view_simulator.proofs.view.openings.Goals as goal

pub loop-event-preserved : goal.loop-event-preserved
loop-event-preserved c =
    one_more openings openings_append c.args.events.now c.loop-event.event-index c.event-item.result c.loop-event.opened.items
    c.push_opening.new.opened.items c.loop-event-test.true c.event-item.is c.loop-event.invariant c.in_ok-push_opening.ensures
