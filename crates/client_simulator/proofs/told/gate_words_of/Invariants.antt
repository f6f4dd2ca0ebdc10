use Rattle.std.proofs.Common.{◌≡◌, take}
use Rattle.client_view.specs.Views.{gate_words_of}
use Rattle.client_simulator.proofs.told.gate_words_of.Given as goal

abbrev pub invariant-loop-event : goal.invariant-loop-event
invariant-loop-event l = l.words ≡ gate_words_of (take l.event-index l.events)
