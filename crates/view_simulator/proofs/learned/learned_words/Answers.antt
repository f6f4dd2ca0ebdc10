use Rattle.language_model.specs.Learned.{learned_of}
use Rattle.gate_laws.proofs.GateWords.{learned_then}
use Rattle.view_simulator.proofs.Pieces.{one_more}
use Rattle.view_simulator.proofs.learned.learned_words.Goals as goal

pub loop-event-preserved : goal.loop-event-preserved
loop-event-preserved c =
    one_more learned_of learned_then c.args.events.now c.loop-event.event-index c.event-item.result c.loop-event.learned.items
    c.push_learned.new.learned.items c.loop-event-test.true c.event-item.is c.loop-event.invariant c.in_ok-push_learned.ensures
