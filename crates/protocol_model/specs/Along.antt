-- The moves of a miner in one run: those that it makes on the messages of this run, whatever it would do on others.
use Rattle.std.specs.Prelude.{◌≡◌, ℕ, true, List, [], ◌∷◌}
use Rattle.proto_core.specs.Strand.{Shape, accepts, Sent, Opened, Told, Mail, Strand, Ends, Acts, Waits, taken}
use Rattle.proto_core.specs.Script.{Move, Sends, Takes}

-- there is an oldest message, it has this shape, and this holds of it
abbrev pub OldestIs : List (List ℕ) → Shape → (List ℕ → Type 0) → Type 0
OldestIs [] shape P = ⊥
OldestIs (m ∷ ms) shape P = (accepts shape m ≡ true) × P m

abbrev pub MovesAlong : {A : Type 0} → Strand A → List Move → Mail → Type 0
MovesAlong (Ends a) [] mail = Unit {0}
MovesAlong (Ends a) (move ∷ moves) mail = ⊥
MovesAlong (Acts (Opened w) s) moves mail = MovesAlong s moves mail
MovesAlong (Acts (Told t) s) moves mail = MovesAlong s moves mail
MovesAlong (Acts (Sent k m) s) (Sends l shape ∷ moves) mail = (l ≡ k) × (accepts shape m ≡ true) × MovesAlong s moves mail
MovesAlong (Acts (Sent k m) s) (Takes l shape ∷ moves) mail = ⊥
MovesAlong (Acts (Sent k m) s) [] mail = ⊥
MovesAlong (Waits k shape f) (Takes l wanted ∷ moves) mail =
    (l ≡ k) × (wanted ≡ shape) × OldestIs (mail k) shape (λ m. MovesAlong (f m) moves (taken k mail))
MovesAlong (Waits k shape f) (Sends l wanted ∷ moves) mail = ⊥
MovesAlong (Waits k shape f) [] mail = ⊥
