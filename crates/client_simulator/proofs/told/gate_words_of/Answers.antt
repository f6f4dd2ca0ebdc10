use Rattle.client_simulator.proofs.ToldEvents.{words-more}
use Rattle.client_simulator.proofs.told.gate_words_of.Goals as goal

pub loop-event-preserved : goal.loop-event-preserved
loop-event-preserved c =
    words-more c.args.events.now c.loop-event.words c.push_handed.new.words c.loop-event.event-index c.event-item.result c.event-item.result
    c.loop-event-test.true c.event-item.is c.loop-event.invariant c.in_ok-push_handed.ensures
