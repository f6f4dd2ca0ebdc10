-- What a node has to do, by the bytes that come to it from its peers.
use Rattle.std.specs.Prelude.{ℕ, List, [], ◌++◌, Option, Some, None}
use Rattle.std.specs.List.{flat_map}
use Rattle.proto_core.specs.declared.party.Number.{Number}
use Rattle.proto_core.specs.declared.link.Link.{Link}
use Rattle.proto_core.specs.declared.refused.BadMessage.{BadMessage}
use Rattle.proto_core.specs.Parties.{count_of, next_of, previous_of, to_next, to_previous}
use Rattle.proto_core.specs.Strand.{Act, Strand, on_link}
use Rattle.served_bytes.specs.Front.{Front, Whole, Malformed, Truncated}
use Rattle.served_bytes.specs.Served.{Stop, AtEnd, AtRefusal, AtMalformed, OutOfBytes, served}
use Rattle.miner_core.specs.OwnCode.{Ended}
use Rattle.wire.specs.declared.fields.Hello.{Hello}
use Rattle.wire.specs.declared.fields.Field.{Field}
use Rattle.wire.specs.Frames.{frame_bytes, framed}
use Rattle.wire.specs.Hellos.{hello_bytes, greeted, first_difference}
use Rattle.miner_node.specs.Peers.{lower_peer, higher_peer, with_peer, coming_to}

-- what a node comes to: the end of its run; a hello that isn't the expected one, by the first field that differs; bytes that are no hello
-- or no frame, by the first wrong place; a message that it refuses; or bytes that end within a hello or a frame
pub data Outcome : Type 0 where
  Finished : Ended → Outcome
  Mismatch : (field : Field) (mine theirs : Hello) → Outcome
  NoFrame : (place : ℕ) → Outcome
  Refused : (link : Link) (cause : BadMessage) → Outcome
  CutOff : Outcome

-- ---- hellos

-- both hellos were read, and this is still to come from each peer; or the node stops
pub data Greeting : Type 0 where
  Agreed : (coming : ℕ → List ℕ) → Greeting
  Stops : Outcome → Greeting

-- the hello that a peer is sent, and the one that it has to send
abbrev pub hello_to : Hello → Number → Hello
hello_to hello peer = record hello { receiver = count_of peer }

abbrev pub hello_from : Hello → Number → Hello
hello_from hello peer = record hello { sender = count_of peer; receiver = hello.sender }

abbrev pub compared : (mine theirs : Hello) → Option Field → (rest : ℕ → List ℕ) → Greeting
compared mine theirs None rest = Agreed rest
compared mine theirs (Some field) rest = Stops (Mismatch field mine theirs)

-- a hello is read whole before its first byte is tested, and then compared field by field
abbrev pub at_hello : (mine : Hello) (peer : ℕ) (coming : ℕ → List ℕ) → Front Hello → Greeting
at_hello mine peer coming (Whole theirs rest) = compared mine theirs (first_difference mine theirs) (with_peer peer rest coming)
at_hello mine peer coming (Malformed place) = Stops (NoFrame place)
at_hello mine peer coming Truncated = Stops CutOff

abbrev pub heard : Hello → Number → (ℕ → List ℕ) → Greeting
heard hello peer coming = at_hello (hello_from hello peer) (count_of peer) coming (greeted (coming (count_of peer)))

abbrev pub then_hear : Hello → Number → Greeting → Greeting
then_hear hello peer (Agreed coming) = heard hello peer coming
then_hear hello peer (Stops outcome) = Stops outcome

-- first the lower peer's hello, then the higher one's
abbrev pub greeting : Number → Hello → (ℕ → List ℕ) → Greeting
greeting i hello coming = then_hear hello (higher_peer i) (heard hello (lower_peer i) coming)

-- ---- messages

-- what a node comes to, and what it does once both hellos were read
pub record Serving : Type 0 where
  pub outcome : Outcome
  pub acts : List Act

abbrev pub outcome_at : Stop Ended → Outcome
outcome_at (AtEnd e) = Finished e
outcome_at (AtRefusal link cause) = Refused link cause
outcome_at (AtMalformed link place) = NoFrame place
outcome_at (OutOfBytes link) = CutOff

-- with these bytes still to come from the peers, after the hellos
abbrev pub serving_messages : Number → Strand Ended → (ℕ → List ℕ) → Serving
serving_messages i s coming = let r = served framed s (coming_to i coming) in record { outcome = outcome_at r.stop; acts = r.acts }

abbrev pub after_greeting : Number → Strand Ended → Greeting → Serving
after_greeting i s (Agreed coming) = serving_messages i s coming
after_greeting i s (Stops outcome) = record { outcome = outcome; acts = [] }

abbrev pub serving : Number → Hello → Strand Ended → (ℕ → List ℕ) → Serving
serving i hello s coming = after_greeting i s (greeting i hello coming)

-- ---- bytes to the peers

abbrev pub frames : List (List ℕ) → List ℕ
frames messages = flat_map frame_bytes messages

-- to a peer: a hello, and then the frames of what is sent on the link to it
abbrev pub bytes_on : (link : Link) → (peer : Number) → Hello → List Act → List ℕ
bytes_on link peer hello acts = hello_bytes (hello_to hello peer) ++ frames (on_link link acts)

-- the same for each of the two
abbrev pub frames_to_next : Number → List Act → List ℕ
frames_to_next i acts = frames (on_link (to_next i) acts)

abbrev pub frames_to_previous : Number → List Act → List ℕ
frames_to_previous i acts = frames (on_link (to_previous i) acts)

abbrev pub bytes_to_next : Number → Hello → List Act → List ℕ
bytes_to_next i hello acts = hello_bytes (hello_to hello (next_of i)) ++ frames_to_next i acts

abbrev pub bytes_to_previous : Number → Hello → List Act → List ℕ
bytes_to_previous i hello acts = hello_bytes (hello_to hello (previous_of i)) ++ frames_to_previous i acts
