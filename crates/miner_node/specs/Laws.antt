-- What a node comes to, in the words of messages.
use Rattle.std.specs.Prelude.{◌≡◌, ℕ, List, ◌++◌}
use Rattle.proto_core.specs.declared.party.Number.{Number}
use Rattle.proto_core.specs.declared.link.Link.{Link}
use Rattle.proto_core.specs.Parties.{count_of, sender_of, receiver_of}
use Rattle.proto_core.specs.Net.{into}
use Rattle.proto_core.specs.Strand.{Mail, Strand, Ends, Ran, run}
use Rattle.proto_core.specs.Standing.{Awaits, Refuses, standing_of}
use Rattle.served_bytes.specs.Served.{Spells}
use Rattle.miner_core.specs.OwnCode.{Ended}
use Rattle.wire.specs.declared.fields.Hello.{Hello}
use Rattle.wire.specs.Frames.{framed}
use Rattle.wire.specs.Hellos.{HasDigests, hello_bytes}
use Rattle.miner_node.specs.Peers.{lower_peer, higher_peer, coming_to}
use Rattle.miner_node.specs.Serving.{Outcome, Finished, Mismatch, NoFrame, Refused, CutOff, hello_from, serving_messages, serving}

-- where its miner stands when a node comes to this after the hellos
abbrev pub StandsSo : Ran Ended → Outcome → Type 0
StandsSo r (Finished e) = r.left ≡ Ends e
StandsSo r (Mismatch field mine theirs) = ⊥
StandsSo r (NoFrame place) = (l : Link) × (standing_of r ≡ Awaits l)
StandsSo r (Refused l cause) = standing_of r ≡ Refuses l cause
StandsSo r CutOff = (l : Link) × (standing_of r ≡ Awaits l)

-- it does what its miner does on the messages that it has received, with which the bytes of its peers begin
pub record DoesAsItsMiner (i : Number) (s : Strand Ended) (coming : ℕ → List ℕ) : Type 0 where
  pub received : Mail
  pub spelled : (l : Link) → Spells framed (coming_to i coming l) (received l)
  pub acts : (serving_messages i s coming).acts ≡ (run s received).acts
  pub stands : StandsSo (run s received) (serving_messages i s coming).outcome

-- from each peer comes the hello that it has to send, and then the frames of these messages
pub record AreHonest (i : Number) (hello : Hello) (mail : Mail) (coming : ℕ → List ℕ) : Type 0 where
  pub rest : ℕ → List ℕ
  pub lower : coming (count_of (lower_peer i)) ≡ hello_bytes (hello_from hello (lower_peer i)) ++ rest (count_of (lower_peer i))
  pub higher : coming (count_of (higher_peer i)) ≡ hello_bytes (hello_from hello (higher_peer i)) ++ rest (count_of (higher_peer i))
  pub messages : (l : Link) → receiver_of l ≡ i → Spells framed (rest (count_of (sender_of l))) (mail l)

-- where a run ends with the messages that come to a miner, the node ends so
abbrev pub EndsWithHonestPeers : Number → Hello → Strand Ended → Mail → (coming : ℕ → List ℕ) → Type 0
EndsWithHonestPeers i hello s mail coming =
    HasDigests hello → AreHonest i hello mail coming → (e : Ended) → (run s (into i mail)).left ≡ Ends e →
    ((serving i hello s coming).outcome ≡ Finished e) × ((serving i hello s coming).acts ≡ (run s (into i mail)).acts)
