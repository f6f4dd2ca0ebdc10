use Rattle.std.proofs.Common.{◌≡◌, take}
use Rattle.program_views.specs.Views.{openings}
use Rattle.view_simulator.proofs.view.openings.Given as goal

abbrev pub invariant-loop-event : goal.invariant-loop-event
invariant-loop-event l = l.opened.items ≡ openings (take l.event-index l.events)
