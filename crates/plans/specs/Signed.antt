-- The gates that compare numbers with a sign: both are raised by half of all words, and then compared as numbers without one.
use Rattle.std.specs.Prelude.{◌≡◌, ℕ, ◌+◌, List, [], ◌∷◌, ◌++◌, Some, length, replicate, slice_get}
use Rattle.proto_core.specs.Words.{AreWords}
use Rattle.gates.specs.declared.gate.Gate.{Gate}
use Rattle.gates.specs.declared.gate.Gate.TheVariants.{Const, Add, Pack}
use Rattle.gates.specs.Clear.{Values, value, each_two, FitFrom}
use Rattle.gates.specs.Gathered.{packed}
use Rattle.signed_words.specs.Signed.{half, signed_less}
use Rattle.plans.specs.Compare.{less_plan}

abbrev pub signed_less_plan : (first left right n : ℕ) → List Gate
signed_less_plan first left right n =
    Const (replicate n half) ∷ Add left first ∷ Add right first ∷ less_plan (first + 3) (first + 1) (first + 2) n

-- the last of the 113 values is packed
abbrev pub packed_signed_less_plan : (first left right n : ℕ) → List Gate
packed_signed_less_plan first left right n = signed_less_plan first left right n ++ Pack (first + 112) ∷ []

-- whatever values fit the gates, the last of them tells of each two words whether the first is less, as numbers with a sign
abbrev pub TellsSignedLess : (first left right n : ℕ) → List Gate → Type 0
TellsSignedLess first left right n gates =
    (inputs values : Values)
    → length (value values left) ≡ n
    → length (value values right) ≡ n
    → AreWords (value values left)
    → AreWords (value values right)
    → FitFrom inputs values first gates
    → slice_get values (first + 112) ≡ Some (each_two signed_less (value values left) (value values right))

-- whatever values fit the gates, the last of them has a bit for each two words, which tells the same
abbrev pub PacksSignedLess : (first left right n : ℕ) → List Gate → Type 0
PacksSignedLess first left right n gates =
    (inputs values : Values)
    → length (value values left) ≡ n
    → length (value values right) ≡ n
    → AreWords (value values left)
    → AreWords (value values right)
    → FitFrom inputs values first gates
    → slice_get values (first + 113) ≡ Some (packed (each_two signed_less (value values left) (value values right)))
