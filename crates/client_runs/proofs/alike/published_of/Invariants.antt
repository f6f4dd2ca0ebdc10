use Rattle.std.proofs.Common.{◌≡◌, take}
use Rattle.client_view.specs.Views.{published_of}
use Rattle.client_runs.proofs.alike.published_of.Given as goal

abbrev pub invariant-loop-event : goal.invariant-loop-event
invariant-loop-event l = l.published.items ≡ published_of (take l.event-index l.events)
