-- What a node answers where it stops, and what its parts promise.
use Rattle.std.specs.Prelude.{◌≡◌, ◌≢◌, ℕ, List, ◌++◌, Result, true, IfOk, OnOk, IfErr}
use Rattle.outside.specs.Links.{LinksState, no_bytes, bytes_of, and_then, Did, Ordered}
use Rattle.proto_core.specs.declared.party.Number.{Number}
use Rattle.proto_core.specs.Parties.{count_of, next_of, previous_of}
use Rattle.proto_core.specs.Strand.{Strand}
use Rattle.served_bytes.specs.Front.{Whole, Malformed, Truncated}
use Rattle.miner_core.specs.OwnCode.{Ended}
use Rattle.wire.specs.declared.fields.Hello.{Hello}
use Rattle.wire.specs.Frames.{framed}
use Rattle.wire.specs.Hellos.{hello_bytes, greeted}
use Rattle.miner_node.specs.declared.node_err.NodeErr.{NodeErr}
use Rattle.miner_node.specs.declared.node_err.NodeErr.TheVariants.{LinkFault, PeerMismatch, BadFrame, BadMessage, Memory}
use Rattle.miner_node.specs.Faults.{IsFault, IsLater}
use Rattle.miner_node.specs.Order.{IsHelloDue, IsUnfinished}
use Rattle.miner_node.specs.Peers.{lower_peer, higher_peer, Sends, SendsFronts}
use Rattle.miner_node.specs.Serving.{Outcome, Mismatch, NoFrame, Refused, CutOff, Agreed, Stops, hello_to, heard, greeting}
use Rattle.miner_node.specs.Serving.{serving, bytes_to_next, bytes_to_previous}

-- ---- where a node stops

-- a node that comes to this outcome, and sends the next miner and the previous one these bytes, stops for this cause: where it is the
-- outcome's, all of them were sent; where the links failed or memory ran out, a front for each
module _ (i : Number) (old new : LinksState) (outcome : Outcome) (next previous : List ℕ) where
  abbrev pub IsStop : NodeErr → Type 0
  IsStop LinkFault = IsFault old new (old.told ≡ true → outcome ≡ CutOff) × (old.told ≡ true → SendsFronts i old.sent new.sent next previous)
  IsStop (PeerMismatch field mine theirs) = old.told ≡ true → (outcome ≡ Mismatch field mine theirs) × Sends i old.sent new.sent next previous
  IsStop (BadFrame place) = old.told ≡ true → (outcome ≡ NoFrame place) × Sends i old.sent new.sent next previous
  IsStop (BadMessage link cause) = old.told ≡ true → (outcome ≡ Refused link cause) × Sends i old.sent new.sent next previous
  IsStop Memory = old.told ≡ true → SendsFronts i old.sent new.sent next previous

-- ---- hellos

module _ (hello : Hello) (peer : Number) (old new : LinksState) where
  abbrev pub IsUnheard : NodeErr → Type 0
  IsUnheard LinkFault = IsFault old new (old.told ≡ true → heard hello peer old.coming ≡ Stops CutOff)
  IsUnheard (PeerMismatch field mine theirs) = old.told ≡ true → heard hello peer old.coming ≡ Stops (Mismatch field mine theirs)
  IsUnheard (BadFrame place) = old.told ≡ true → heard hello peer old.coming ≡ Stops (NoFrame place)
  IsUnheard (BadMessage link cause) = ⊥
  IsUnheard Memory = Unit {0}

  -- with these bytes the peer is heard, whatever comes after them
  pub record HearsOf (taken : List ℕ) : Type 0 where
    pub did : Did (IsUnfinished greeted (count_of peer)) old new no_bytes (bytes_of (count_of peer) taken)
    pub agreed : (rest : ℕ → List ℕ) → heard hello peer (and_then (bytes_of (count_of peer) taken) rest) ≡ Agreed rest

  -- a peer's hello is read, and is the one that it has to send
  pub record Hears {T : Type 0} (result : Result T NodeErr) : Type 0 where
    pub ok : OnOk result (old.told ≡ true → heard hello peer old.coming ≡ Agreed new.coming)
    pub heard_of : OnOk result (old.told ≡ true → (taken : List ℕ) × HearsOf taken)
    pub did : old.told ≡ true → (taken : List ℕ) × Did (IsUnfinished greeted (count_of peer)) old new no_bytes (bytes_of (count_of peer) taken)
    pub err : IfErr result IsUnheard
    pub sent : new.sent ≡ old.sent
    pub later : IsLater old new

module _ (i : Number) (hello : Hello) (old new : LinksState) where
  -- with these bytes both hellos were given, and both taken, whatever comes after them
  pub record GreetsBy (given taken : ℕ → List ℕ) : Type 0 where
    pub did : Did (IsHelloDue i hello) old new given taken
    pub to_next : given (count_of (next_of i)) ≡ hello_bytes (hello_to hello (next_of i))
    pub to_previous : given (count_of (previous_of i)) ≡ hello_bytes (hello_to hello (previous_of i))
    pub heard_both : (rest : ℕ → List ℕ) → (later : ℕ → List ℕ) × (heard hello (lower_peer i) (and_then taken rest) ≡ Agreed later)
        × (heard hello (higher_peer i) later ≡ Agreed rest)

  pub record HasGreeted : Type 0 where
    pub by : (given : ℕ → List ℕ) × (taken : ℕ → List ℕ) × GreetsBy given taken
    pub agreed : greeting i hello old.coming ≡ Agreed new.coming
    pub sent : Sends i old.sent new.sent (hello_bytes (hello_to hello (next_of i))) (hello_bytes (hello_to hello (previous_of i)))

  -- whatever the node is to do after the hellos
  abbrev pub StopsGreeting : NodeErr → Type 0
  StopsGreeting e =
      (s : Strand Ended) → let r = serving i hello s old.coming in
      IsStop i old new r.outcome (bytes_to_next i hello r.acts) (bytes_to_previous i hello r.acts) e

  -- both hellos were sent, and both read
  pub record Greets {T : Type 0} (result : Result T NodeErr) : Type 0 where
    pub ok : OnOk result (old.told ≡ true → HasGreeted)
    pub did : Ordered (IsHelloDue i hello) old new
    pub err : IfErr result StopsGreeting
    pub later : IsLater old new

-- ---- frames

module _ (old new : LinksState) (peer : ℕ) where
  pub record ReadsOne (m : List ℕ) : Type 0 where
    pub first : framed (old.coming peer) ≡ Whole m (new.coming peer)
    pub taken : List ℕ
    pub did : Did (IsUnfinished framed peer) old new no_bytes (bytes_of peer taken)
    pub whole : (rest : List ℕ) → framed (taken ++ rest) ≡ Whole m rest
    pub others : (p : ℕ) → p ≢ peer → new.coming p ≡ old.coming p

  abbrev pub IsUnread : NodeErr → Type 0
  IsUnread LinkFault = IsFault old new (old.told ≡ true → framed (old.coming peer) ≡ Truncated)
  IsUnread (PeerMismatch field mine theirs) = ⊥
  IsUnread (BadFrame place) = old.told ≡ true → framed (old.coming peer) ≡ Malformed place
  IsUnread (BadMessage link cause) = ⊥
  IsUnread Memory = Unit {0}

  -- the message of the next frame from a peer is read
  pub record ReadsMessage (result : Result (List ℕ) NodeErr) : Type 0 where
    pub ok : IfOk result (λ m. old.told ≡ true → ReadsOne m)
    pub did : old.told ≡ true → (taken : List ℕ) × Did (IsUnfinished framed peer) old new no_bytes (bytes_of peer taken)
    pub err : IfErr result IsUnread
    pub sent : new.sent ≡ old.sent
    pub later : IsLater old new
