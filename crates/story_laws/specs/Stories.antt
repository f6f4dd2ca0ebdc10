-- What a miner at work does on its links, whatever it was made with and whatever came to it.
use Rattle.std.specs.Prelude.{◌≡◌, ◌≢◌, [], length}
use Rattle.std.specs.List.{All}
use Rattle.proto_core.specs.declared.party.Number.{Number}
use Rattle.proto_core.specs.declared.link.Link.{Link}
use Rattle.proto_core.specs.declared.refused.BadMessage.{BadMessage}
use Rattle.proto_core.specs.Parties.{sender_of, receiver_of}
use Rattle.proto_core.specs.Strand.{on_link}
use Rattle.proto_core.specs.Standing.{Awaits, Refuses}
use Rattle.miner_core.specs.Story.{Story, node, stands_at}
use Rattle.wire.specs.Frames.{IsCount}

-- the link for whose message it waits, and that of a message that it refuses, ends at it
pub record WaitsAtItsLinks (i : Number) (s : Story) : Type 0 where
  pub awaited : (l : Link) → stands_at i s ≡ Awaits l → receiver_of l ≡ i
  pub refused : (l : Link) (cause : BadMessage) → stands_at i s ≡ Refuses l cause → receiver_of l ≡ i

-- each of its messages has 1 to 2,048 words, and it sends none on a link that begins at another
pub record SendsFrames (i : Number) (s : Story) : Type 0 where
  pub frames : (l : Link) → All (λ message. IsCount (length message)) (on_link l (node i s).acts)
  pub own_links : (l : Link) → sender_of l ≢ i → on_link l (node i s).acts ≡ []
