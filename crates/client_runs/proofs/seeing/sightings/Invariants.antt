use Rattle.std.proofs.Common.{◌≡◌, ◌++◌, drop}
use Rattle.client_view.specs.Views.{sightings}
use Rattle.client_runs.proofs.seeing.sightings.Given as goal

abbrev pub invariant-loop-event : goal.invariant-loop-event
invariant-loop-event l = l.seen.items ++ sightings (drop l.event-index l.events) l.left ≡ sightings l.events l.given
