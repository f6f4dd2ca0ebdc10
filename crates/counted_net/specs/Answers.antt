-- What a delivery comes to.
use Rattle.std.specs.Prelude.{◌≡◌, List, Result, Ok, Err, Vec}
use Rattle.std.specs.declared.alloc.Global.{Global}
use Rattle.proto_core.specs.declared.party.Number.{Number}
use Rattle.proto_core.specs.declared.link.Link.{Link}
use Rattle.proto_core.specs.Script.{Move}
use Rattle.protocol_model.specs.Network as network
use Rattle.protocol_model.specs.Network.{net, order_of}
use Rattle.tape_file.specs.Seeds.{stream_word}
use Rattle.counted_net.specs.declared.delivery.Delivery.{Delivery}
use Rattle.counted_net.specs.declared.delivery.Delivery.TheVariants as delivery
use Rattle.counted_net.specs.declared.delivery.DeliveryErr.{DeliveryErr}
use Rattle.counted_net.specs.declared.delivery.DeliveryErr.TheVariants as err

-- word k of stream 4 of a seed chooses at delivery k
abbrev pub delivery_seen : Delivery → network.Delivery
delivery_seen delivery.InTurn = network.Default
delivery_seen (delivery.Scheduled links) = network.Listed links.items
delivery_seen (delivery.Shuffled seed) = network.Shuffled (stream_word seed 4)

-- it is accepted, and these are its links; or it is refused as the net says
abbrev pub IsNetAnswer : (Number → List Move) → network.Delivery → Result (Vec Link Global) DeliveryErr → Type 0
IsNetAnswer moves given (Ok order) = (net moves given ≡ network.Accepted) × (order.items ≡ order_of moves given)
IsNetAnswer moves given (Err (err.EmptyLink entry link sent)) = net moves given ≡ network.EmptyLink entry link sent
IsNetAnswer moves given (Err (err.Stalled miner link)) = net moves given ≡ network.Stalled miner link
IsNetAnswer moves given (Err err.Memory) = Unit {0}
