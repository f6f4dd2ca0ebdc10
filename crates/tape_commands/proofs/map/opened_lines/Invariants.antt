use Rattle.std.proofs.Common.{◌≡◌, take}
use Rattle.std.specs.Prelude.{string_bytes}
use Rattle.tape_twin.specs.Views.{openings}
use Rattle.view_reader.specs.Opened.{opened_bytes}
use Rattle.tape_commands.proofs.map.opened_lines.Given as goal

abbrev pub invariant-loop-event : goal.invariant-loop-event
invariant-loop-event l = string_bytes l.text ≡ opened_bytes (openings (take l.event-index l.events))
