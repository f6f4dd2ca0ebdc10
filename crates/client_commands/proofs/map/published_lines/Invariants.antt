use Rattle.std.proofs.Common.{◌≡◌, take}
use Rattle.std.specs.Prelude.{string_bytes}
use Rattle.view_reader.specs.Published.{published_bytes}
use Rattle.client_commands.specs.Map.{publications}
use Rattle.client_commands.proofs.map.published_lines.Given as goal

abbrev pub invariant-loop-event : goal.invariant-loop-event
invariant-loop-event l = string_bytes l.text ≡ published_bytes (publications (take l.event-index l.events))
