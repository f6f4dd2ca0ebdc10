-- A miner's script: what it sends and takes, in order, whatever the words are.
use Rattle.std.specs.Prelude.{◌≡◌, ℕ, true, if◌then◌else◌, List, [], ◌∷◌}
use Rattle.proto_core.specs.declared.party.Number.{Number}
use Rattle.proto_core.specs.declared.link.Link.{Link}
use Rattle.proto_core.specs.Parties.{sender_of, receiver_of}
use Rattle.proto_core.specs.Strand.{Shape, accepts, same_link, Sent, Opened, Told, Strand, Ends, Acts, Waits}

pub data Move : Type 0 where
  Sends : (link : Link) (shape : Shape) → Move
  Takes : (link : Link) (shape : Shape) → Move

-- the strand does these moves, whatever the words are
abbrev pub Moves : {A : Type 0} → Strand A → List Move → Type 0
Moves (Ends a) [] = Unit {0}
Moves (Ends a) (move ∷ moves) = ⊥
Moves (Acts (Opened w) s) moves = Moves s moves
Moves (Acts (Told t) s) moves = Moves s moves
Moves (Acts (Sent k m) s) (Sends l shape ∷ moves) = (l ≡ k) × (accepts shape m ≡ true) × Moves s moves
Moves (Acts (Sent k m) s) (Takes l shape ∷ moves) = ⊥
Moves (Acts (Sent k m) s) [] = ⊥
Moves (Waits k shape f) (Takes l wanted ∷ moves) =
    (l ≡ k) × (wanted ≡ shape) × ((m : List ℕ) → accepts shape m ≡ true → Moves (f m) moves)
Moves (Waits k shape f) (Sends l wanted ∷ moves) = ⊥
Moves (Waits k shape f) [] = ⊥

-- whatever the messages are, it tells nothing
abbrev pub IsSilent : {A : Type 0} → Strand A → Type 0
IsSilent (Ends a) = Unit {0}
IsSilent (Acts (Sent k m) s) = IsSilent s
IsSilent (Acts (Opened w) s) = IsSilent s
IsSilent (Acts (Told t) s) = ⊥
IsSilent (Waits l shape k) = (m : List ℕ) → IsSilent (k m)

-- whatever the words are, this holds of what it ends with
abbrev pub EndsWith : {A : Type 0} → (A → Type 0) → Strand A → Type 0
EndsWith P (Ends a) = P a
EndsWith P (Acts a s) = EndsWith P s
EndsWith P (Waits l shape k) = (m : List ℕ) → accepts shape m ≡ true → EndsWith P (k m)

-- the shapes that are sent on a link, and those that are taken from it
abbrev pub sends_on : Link → List Move → List Shape
sends_on l [] = []
sends_on l (Sends k shape ∷ moves) = if same_link l k then shape ∷ sends_on l moves else sends_on l moves
sends_on l (Takes k shape ∷ moves) = sends_on l moves

abbrev pub takes_on : Link → List Move → List Shape
takes_on l [] = []
takes_on l (Sends k shape ∷ moves) = takes_on l moves
takes_on l (Takes k shape ∷ moves) = if same_link l k then shape ∷ takes_on l moves else takes_on l moves

-- on each link as many messages are taken as are sent, each of the shape that was sent
abbrev pub Matched : (Number → List Move) → Type 0
Matched script = (l : Link) → sends_on l (script (sender_of l)) ≡ takes_on l (script (receiver_of l))

-- a miner sends on links that begin at it, and takes from links that end at it
abbrev pub UsesOwnLinks : Number → List Move → Type 0
UsesOwnLinks i [] = Unit {0}
UsesOwnLinks i (Sends l shape ∷ moves) = (sender_of l ≡ i) × UsesOwnLinks i moves
UsesOwnLinks i (Takes l shape ∷ moves) = (receiver_of l ≡ i) × UsesOwnLinks i moves
