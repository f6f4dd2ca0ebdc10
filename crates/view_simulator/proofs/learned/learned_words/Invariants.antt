use Rattle.std.proofs.Common.{◌≡◌, take}
use Rattle.language_model.specs.Learned.{learned_of}
use Rattle.view_simulator.proofs.learned.learned_words.Given as goal

abbrev pub invariant-loop-event : goal.invariant-loop-event
invariant-loop-event l = l.learned.items ≡ learned_of (take l.event-index l.events)
