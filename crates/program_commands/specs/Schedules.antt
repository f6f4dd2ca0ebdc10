-- What is said of a schedule that is refused, and the stop of its command.
use Rattle.std.specs.Prelude.{◌≡◌, ℕ, List, ◌++◌, codes, Result, Ok, Err}
use Rattle.std.specs.Fmt.{decimal}
use Rattle.command_frame.specs.declared.status.Status.TheVariants.{Schedule}
use Rattle.command_frame.specs.Answer.{Answer, Cause}
use Rattle.command_frame.specs.Stops.{IsRefusalFor}
use Rattle.command_frame.specs.declared.stop.Stop.{Stop}
use Rattle.command_frame.specs.declared.stop.Stop.TheVariants as stops
use Rattle.proto_core.specs.declared.link.Link.{Link}
use Rattle.proto_core.specs.declared.party.Number.{Number}
use Rattle.proto_core.specs.Parties.{link_text, number_text}
use Rattle.protocol_model.specs.Network as network
use Rattle.counted_net.specs.declared.delivery.DeliveryErr.{DeliveryErr}
use Rattle.counted_net.specs.declared.delivery.DeliveryErr.TheVariants as refusal

-- an entry whose link has no message under way
unfoldable pub empty_line : (entry : ℕ) → Link → (sent : ℕ) → List ℕ
empty_line entry link sent =
    codes "error: S2 entry " ++ decimal entry ++ codes " link " ++ link_text link ++ codes " sent " ++ decimal sent ++ codes "\n"

-- a miner that is left waiting
unfoldable pub stalled_line : Number → Link → List ℕ
stalled_line miner link = codes "error: S3 miner " ++ number_text miner ++ codes " link " ++ link_text link ++ codes "\n"

abbrev pub refused_with : List ℕ → Cause
refused_with line = record { status = Schedule; line = line }

-- the net takes the deliveries, or refuses the schedule
unfoldable pub by_net : network.Answer → Result network.Answer Cause
by_net network.Accepted = Ok network.Accepted
by_net (network.EmptyLink entry link sent) = Err (refused_with (empty_line entry link sent))
by_net (network.Stalled miner link) = Err (refused_with (stalled_line miner link))

-- the stop of a run whose schedule is refused
abbrev pub IsDeliveryStop : DeliveryErr → Stop → Type 0
IsDeliveryStop (refusal.EmptyLink entry link sent) stop = IsRefusalFor (refused_with (empty_line entry link sent)) stop
IsDeliveryStop (refusal.Stalled miner link) stop = IsRefusalFor (refused_with (stalled_line miner link)) stop
IsDeliveryStop refusal.Memory stop = stop ≡ stops.Memory
