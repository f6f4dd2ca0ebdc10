-- The sizes by which gates send messages, and sizes that are kept as words.
use Rattle.std.specs.Prelude.{◌≡◌, ℕ, ◌<◌, ◌≤◌, ◌^◌, List, [], ◌∷◌, ◌++◌, Option, Some, None}
use Rattle.gates.specs.declared.gate.Gate.{Gate}
use Rattle.gates.specs.declared.gate.Gate.TheVariants.{Mul, And, Split, Conv, Open, Result}
use Rattle.gates.specs.Counts.{size_of}
use Rattle.shared_gates.specs.Model.{sizes_made}

-- how many elements a gate's messages are about, none where it sends no message
abbrev pub exchanged : (sizes : List ℕ) → Gate → ℕ
exchanged sizes (Mul u v) = size_of sizes u
exchanged sizes (And u v) = size_of sizes u
exchanged sizes (Split u negated) = size_of sizes u
exchanged sizes (Conv u) = size_of sizes u
exchanged sizes (Open ring u) = size_of sizes u
exchanged sizes (Result ring u) = size_of sizes u
exchanged sizes _ = 0

-- each gate that sends messages takes fewer than 2^64 elements
abbrev pub SizesFit : (dealt sizes : List ℕ) → List Gate → Type 0
SizesFit dealt sizes [] = Unit {0}
SizesFit dealt sizes (gate ∷ gates) = (exchanged sizes gate < 2 ^ 64) × SizesFit dealt (sizes ++ sizes_made dealt sizes gate) gates

-- ---- sizes that are kept

-- a size is kept where it is a word
abbrev pub IsKept : ℕ → Option ℕ → Type 0
IsKept size None = 2 ^ 64 ≤ size
IsKept size (Some kept) = kept ≡ size

abbrev pub AreKept : List ℕ → List (Option ℕ) → Type 0
AreKept [] [] = Unit {0}
AreKept [] (kept ∷ all_kept) = ⊥
AreKept (size ∷ sizes) [] = ⊥
AreKept (size ∷ sizes) (kept ∷ all_kept) = IsKept size kept × AreKept sizes all_kept
