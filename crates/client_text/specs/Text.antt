-- The text of the client's view: the word `client`, the lines of what is seen, in order, and the end's line, each with its newline.
use Rattle.std.specs.Prelude.{ℕ, List, ◌++◌, codes}
use Rattle.std.specs.List.{flat_map}
use Rattle.proto_core.specs.declared.party.Number.{Number}
use Rattle.proto_core.specs.declared.party.Number.TheVariants.{One, Two, Three}
use Rattle.proto_core.specs.Parties.{number_text}
use Rattle.sc_text.specs.declared.event.Event.TheVariants.{Open, Publish}
use Rattle.sc_text.specs.Event.{event_line}
use Rattle.sc_text.specs.End.{end_line}
use Rattle.view_text.specs.Text.{words_behind}
use Rattle.client_text.specs.Seen.{Sighting, Opened, Said, Got, ClientView}

-- a miner's share of a value that is handed over under a name
unfoldable pub from_line : Number → (name words : List ℕ) → List ℕ
from_line miner name words = codes "from " ++ number_text miner ++ codes " " ++ name ++ words_behind words ++ codes "\n"

-- all lines but those of shares are lines of the run's text, in which a value that is handed over has the line of a published one
unfoldable pub sighting_bytes : Sighting → List ℕ
sighting_bytes (Opened elements) = event_line (Open elements)
sighting_bytes (Said name elements) = event_line (Publish name elements)
sighting_bytes (Got name given elements) =
    from_line One name given.first ++ from_line Two name given.second ++ from_line Three name given.third ++ event_line (Publish name elements)

unfoldable pub client_bytes : ClientView → List ℕ
client_bytes view = codes "client\n" ++ flat_map sighting_bytes view.sightings ++ end_line view.end
