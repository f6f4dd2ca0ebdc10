-- What is told of links: the calls that moved bytes, in order, the bytes sent to each peer, and those that are still to come from it.
use Rattle.std.specs.Prelude.{◌≡◌, ◌≢◌, ◌<◌, ◌⊎◌, ℕ, ◌==◌, if◌then◌else◌, List, [], ◌∷◌, ◌++◌, length, take, Bool, true}

-- a call that was answered: this miner joined its peers at three ports, of which this is the first; these bytes were given to a peer; or they were
-- taken from it
pub data LinkMove : Type 0 where
  joined : (me port : ℕ) → LinkMove
  gave : (peer : ℕ) (bytes : List ℕ) → LinkMove
  took : (peer : ℕ) (bytes : List ℕ) → LinkMove

-- ---- bytes by peers

-- none of any peer
abbrev pub no_bytes : ℕ → List ℕ
no_bytes p = []

-- these of this peer, and none of any other
abbrev pub bytes_of : (peer : ℕ) → List ℕ → ℕ → List ℕ
bytes_of peer bytes p = if p == peer then bytes else []

-- of each peer these, and then those
abbrev pub and_then : (ℕ → List ℕ) → (ℕ → List ℕ) → ℕ → List ℕ
and_then these those p = these p ++ those p

-- all that was given to each peer by these calls
abbrev pub given_in : List LinkMove → ℕ → List ℕ
given_in [] = no_bytes
given_in (joined me port ∷ moves) = given_in moves
given_in (gave peer bytes ∷ moves) = and_then (bytes_of peer bytes) (given_in moves)
given_in (took peer bytes ∷ moves) = given_in moves

-- all that was taken from each peer
abbrev pub taken_in : List LinkMove → ℕ → List ℕ
taken_in [] = no_bytes
taken_in (joined me port ∷ moves) = taken_in moves
taken_in (gave peer bytes ∷ moves) = taken_in moves
taken_in (took peer bytes ∷ moves) = and_then (bytes_of peer bytes) (taken_in moves)

-- ---- the order of calls

-- nobody is joined, and each byte is taken when it is due: `Due given came peer` says so of a byte of this peer, where before it `given` was given to
-- each peer and `came` taken from it
abbrev pub AreDue : (Due : (given came : ℕ → List ℕ) → ℕ → Type 0) → (given came : ℕ → List ℕ) → List LinkMove → Type 0
AreDue Due given came [] = Unit {0}
AreDue Due given came (joined me port ∷ moves) = ⊥
AreDue Due given came (gave peer bytes ∷ moves) = AreDue Due (and_then given (bytes_of peer bytes)) came moves
AreDue Due given came (took peer bytes ∷ moves) =
    ((n : ℕ) → n < length bytes → Due given (and_then came (bytes_of peer (take n bytes))) peer)
    × AreDue Due given (and_then came (bytes_of peer bytes)) moves

-- ---- the state of links

-- by the peer's number; `moves`, `sent` and `coming` say what they do where `told` is true, and nothing else
pub record LinksState : Type 0 where
  pub told : Bool
  pub moves : List LinkMove
  pub sent : ℕ → List ℕ
  pub coming : ℕ → List ℕ
  pub faults : ℕ
  pub steady : Bool

-- no call was answered that moves bytes
pub record SameLinks (old new : LinksState) : Type 0 where
  pub told : new.told ≡ old.told
  pub moves : new.moves ≡ old.moves
  pub sent : new.sent ≡ old.sent
  pub coming : new.coming ≡ old.coming

-- this one call was answered after the others
abbrev pub OneMore : (old new : LinksState) → LinkMove → Type 0
OneMore old new move = old.told ≡ true → new.moves ≡ old.moves ++ move ∷ []

-- no byte moved
pub record SameBytes (old new : LinksState) : Type 0 where
  pub told : new.told ≡ old.told
  pub sent : new.sent ≡ old.sent
  pub coming : new.coming ≡ old.coming

-- this peer was sent these bytes, and all else is as it was
pub record Sent (old new : LinksState) (peer : ℕ) (bytes : List ℕ) : Type 0 where
  pub told : new.told ≡ old.told
  pub sent : old.told ≡ true → new.sent peer ≡ old.sent peer ++ bytes
  pub others : old.told ≡ true → (p : ℕ) → p ≢ peer → new.sent p ≡ old.sent p
  pub coming : new.coming ≡ old.coming

-- these bytes came from this peer, the next of those that were to come, and all else is as it was
pub record Came (old new : LinksState) (peer : ℕ) (bytes : List ℕ) : Type 0 where
  pub told : new.told ≡ old.told
  pub sent : new.sent ≡ old.sent
  pub came : old.told ≡ true → old.coming peer ≡ bytes ++ new.coming peer
  pub others : old.told ≡ true → (p : ℕ) → p ≢ peer → new.coming p ≡ old.coming p

-- no byte is left to come from this peer
abbrev pub IsDry : LinksState → ℕ → Type 0
IsDry state peer = state.told ≡ true → state.coming peer ≡ []

-- ---- several calls

-- after these calls, in which each byte was due, these bytes were given to each peer and those taken from it, and that is all that moved
pub record Did (Due : (given came : ℕ → List ℕ) → ℕ → Type 0) (old new : LinksState) (given taken : ℕ → List ℕ) : Type 0 where
  pub since : List LinkMove
  pub moves : new.moves ≡ old.moves ++ since
  pub gave_these : given_in since ≡ given
  pub took_those : taken_in since ≡ taken
  pub sent : new.sent ≡ and_then old.sent given
  pub came : old.coming ≡ and_then taken new.coming
  pub due : AreDue Due no_bytes no_bytes since

-- the same of links that are told, whatever was given and taken
abbrev pub Ordered : (Due : (given came : ℕ → List ℕ) → ℕ → Type 0) → (old new : LinksState) → Type 0
Ordered Due old new = old.told ≡ true → (given : ℕ → List ℕ) × (taken : ℕ → List ℕ) × Did Due old new given taken

-- first the peers were joined, as this miner at this port, and then the links were used so
pub record JoinedFirst (Due : (given came : ℕ → List ℕ) → ℕ → Type 0) (me port : ℕ) (old new : LinksState) : Type 0 where
  pub since : List LinkMove
  pub moves : new.moves ≡ old.moves ++ joined me port ∷ since
  pub sent : new.sent ≡ and_then old.sent (given_in since)
  pub came : old.coming ≡ and_then (taken_in since) new.coming
  pub due : AreDue Due no_bytes no_bytes since

-- so they were, or not at all
abbrev pub JoinedOrNot : (Due : (given came : ℕ → List ℕ) → ℕ → Type 0) → (me port : ℕ) → (old new : LinksState) → Type 0
JoinedOrNot Due me port old new = SameLinks old new ⊎ JoinedFirst Due me port old new
