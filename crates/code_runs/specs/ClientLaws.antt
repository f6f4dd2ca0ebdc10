-- What the client is told by three miners that tell events.
use Rattle.std.specs.Prelude.{◌≡◌, List}
use Rattle.sc_text.specs.declared.event.Event.{Event}
use Rattle.proto_core.specs.declared.party.Number.{Number}
use Rattle.proto_core.specs.Strand.{Notice}
use Rattle.code_runs.specs.Telling.{Tells}
use Rattle.code_runs.specs.ClientTold.{told_together}

abbrev pub ToldTogetherAreTheEvents : Type 0
ToldTogetherAreTheEvents = (events : List Event) (notices : Number → List Notice) → Tells events notices → told_together notices ≡ events
