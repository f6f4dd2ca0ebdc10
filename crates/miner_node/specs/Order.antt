-- In which order a node gives bytes to its peers and takes them: all that the bytes taken so far lead to is given before a byte more is taken, and none is
-- taken that isn't awaited.
use Rattle.std.specs.Prelude.{◌≡◌, ◌<◌, ℕ, List, length, true, Option, Some, None}
use Rattle.outside.specs.Links.{LinksState, no_bytes, bytes_of, Did, Ordered}
use Rattle.proto_core.specs.declared.party.Number.{Number}
use Rattle.proto_core.specs.Parties.{count_of, next_of, previous_of, sender_of}
use Rattle.proto_core.specs.Strand.{Strand}
use Rattle.served_bytes.specs.Front.{Front, Truncated}
use Rattle.served_bytes.specs.Served.{Stop, AtEnd, AtRefusal, AtMalformed, OutOfBytes, served}
use Rattle.miner_core.specs.OwnCode.{Ended}
use Rattle.wire.specs.declared.fields.Hello.{Hello}
use Rattle.wire.specs.Frames.{framed}
use Rattle.miner_node.specs.Peers.{lower_peer, higher_peer, coming_to}
use Rattle.miner_node.specs.Serving.{Outcome, Finished, Mismatch, NoFrame, Refused, CutOff, Greeting, Agreed, Stops, heard, serving, serving_messages}
use Rattle.miner_node.specs.Serving.{frames_to_next, frames_to_previous, bytes_to_next, bytes_to_previous}

-- ---- what is awaited

abbrev pub awaited_at : Stop Ended → Option ℕ
awaited_at (AtEnd e) = None
awaited_at (AtRefusal link cause) = None
awaited_at (AtMalformed link place) = None
awaited_at (OutOfBytes link) = Some (count_of (sender_of link))

-- the peer of which a node awaits a byte more, when just these have come since both hellos were read
abbrev pub awaited_message : Number → Strand Ended → (ℕ → List ℕ) → Option ℕ
awaited_message i s came = awaited_at (served framed s (coming_to i came)).stop

-- this peer, if its hello isn't whole; else what is awaited after it
abbrev pub hello_first : Number → Greeting → ((ℕ → List ℕ) → Option ℕ) → Option ℕ
hello_first peer (Agreed rest) later = later rest
hello_first peer (Stops CutOff) later = Some (count_of peer)
hello_first peer (Stops (Finished e)) later = None
hello_first peer (Stops (Mismatch field mine theirs)) later = None
hello_first peer (Stops (NoFrame place)) later = None
hello_first peer (Stops (Refused link cause)) later = None

-- the peer of which a node awaits a byte more, when just these have come
abbrev pub awaited : Number → Hello → Strand Ended → (ℕ → List ℕ) → Option ℕ
awaited i hello s came =
    hello_first (lower_peer i) (heard hello (lower_peer i) came)
    (λ rest. hello_first (higher_peer i) (heard hello (higher_peer i) rest) (awaited_message i s))

-- ---- when a byte is due

-- when these were given and taken, a byte more of this peer is awaited, and what was given is all that those taken lead to
pub record IsDue (i : Number) (hello : Hello) (s : Strand Ended) (given came : ℕ → List ℕ) (peer : ℕ) : Type 0 where
  pub is_awaited : awaited i hello s came ≡ Some peer
  pub to_next : given (count_of (next_of i)) ≡ bytes_to_next i hello (serving i hello s came).acts
  pub to_previous : given (count_of (previous_of i)) ≡ bytes_to_previous i hello (serving i hello s came).acts

-- the same while hellos are read, whatever the node is to do after them
abbrev pub IsHelloDue : Number → Hello → (given came : ℕ → List ℕ) → (peer : ℕ) → Type 0
IsHelloDue i hello given came peer = (s : Strand Ended) → IsDue i hello s given came peer

-- and once both were read
pub record IsMessageDue (i : Number) (s : Strand Ended) (given came : ℕ → List ℕ) (peer : ℕ) : Type 0 where
  pub is_awaited : awaited_message i s came ≡ Some peer
  pub to_next : given (count_of (next_of i)) ≡ frames_to_next i (serving_messages i s came).acts
  pub to_previous : given (count_of (previous_of i)) ≡ frames_to_previous i (serving_messages i s came).acts

-- a node's calls of its links are in order
abbrev pub InOrder : Number → Hello → Strand Ended → (old new : LinksState) → Type 0
InOrder i hello s old new = Ordered (IsDue i hello s) old new

-- ---- in parts

-- no byte is taken
abbrev pub NeverDue : (given came : ℕ → List ℕ) → ℕ → Type 0
NeverDue given came peer = ⊥

-- bytes were given, and none taken
abbrev pub GivesOnly : (old new : LinksState) → Type 0
GivesOnly old new = old.told ≡ true → (given : ℕ → List ℕ) × Did NeverDue old new given no_bytes

-- of this peer fewer bytes than these came
pub record IsPart (peer count : ℕ) (given came : ℕ → List ℕ) (p : ℕ) : Type 0 where
  pub same : p ≡ peer
  pub none : given ≡ no_bytes
  pub part : (xs : List ℕ) × (length xs < count) × (came ≡ bytes_of peer xs)

-- a byte more of this peer is within what is read of it
pub record IsUnfinished {A : Type 0} (read : List ℕ → Front A) (peer : ℕ) (given came : ℕ → List ℕ) (p : ℕ) : Type 0 where
  pub same : p ≡ peer
  pub none : given ≡ no_bytes
  pub part : (xs : List ℕ) × (read xs ≡ Truncated) × (came ≡ bytes_of peer xs)
