-- What a run opened and published, and the whole text of a run.
use Rattle.std.specs.Prelude.{ℕ, List, ◌++◌, codes}
use Rattle.std.specs.List.{flat_map}
use Rattle.sc_text.specs.declared.event.Event.{Event}
use Rattle.sc_text.specs.declared.event.Event.TheVariants as events
use Rattle.sc_text.specs.declared.end.End.{End}
use Rattle.sc_text.specs.Elements.{elements_text}
use Rattle.sc_text.specs.End.{end_line}

-- the line of an event
unfoldable pub event_line : Event → List ℕ
event_line (events.Open opened) = codes "open" ++ elements_text opened ++ codes "\n"
event_line (events.Publish name published) = codes "publish " ++ name ++ elements_text published ++ codes "\n"
event_line (events.Hand name kind handed) = codes "publish " ++ name ++ elements_text handed ++ codes "\n"

-- the lines of the events in their order, then the line of the end
unfoldable pub run_text : List Event → End → List ℕ
run_text list end = flat_map event_line list ++ end_line end
