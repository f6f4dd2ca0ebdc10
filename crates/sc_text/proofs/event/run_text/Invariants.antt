use Rattle.std.proofs.Common.{◌≡◌, take, string_bytes}
use Rattle.std.specs.List.{flat_map}
use Rattle.sc_text.specs.Event.{event_line}
use Rattle.sc_text.proofs.event.run_text.Given as goal

abbrev pub invariant-loop-event : goal.invariant-loop-event
invariant-loop-event l = string_bytes l.text ≡ flat_map event_line (take l.event-index l.events)
