-- The numbers of the values that gates take.
use Rattle.std.specs.Prelude.{◌≡◌, ◌≤◌, ◌⊎◌, ◌||◌, ℕ, Bool, false, nat_eq, List, [], ◌∷◌, length}
use Rattle.gates.specs.declared.gate.Gate.{Gate}
use Rattle.gates.specs.declared.gate.Gate.TheVariants.{Input, Const, Add, Sub, MulPub, Mul, Xor, And, Not, Shl, Shr, Low, Cat, Part, Put, Rep}
use Rattle.gates.specs.declared.gate.Gate.TheVariants.{Pack, Unpack, RepBit, PartBit, PutBit, CatBit}
use Rattle.gates.specs.declared.gate.Gate.TheVariants.{Sum, Stretch, Tile, SumEach, Split, Conv, Open, Result}
use Rattle.gates.specs.declared.operands.Operands.{Operands}
use Rattle.gates.specs.declared.operands.Operands.TheVariants.{Zero, One, Two}
use Rattle.gates.specs.Clear.{Values, value}

-- the numbers of the values that a gate takes
abbrev pub operands : Gate → List ℕ
operands (Input k) = []
operands (Const list) = []
operands (Add u v) = u ∷ v ∷ []
operands (Sub u v) = u ∷ v ∷ []
operands (MulPub ring u list) = u ∷ []
operands (Mul u v) = u ∷ v ∷ []
operands (Xor u v) = u ∷ v ∷ []
operands (And u v) = u ∷ v ∷ []
operands (Not u) = u ∷ []
operands (Shl u count) = u ∷ []
operands (Shr u count) = u ∷ []
operands (Low u) = u ∷ []
operands (Cat u v) = u ∷ v ∷ []
operands (Part u from count) = u ∷ []
operands (Put u index v) = u ∷ v ∷ []
operands (Rep u count) = u ∷ []
operands (Pack u) = u ∷ []
operands (Unpack u count) = u ∷ []
operands (RepBit u count) = u ∷ []
operands (PartBit u index) = u ∷ []
operands (PutBit u index v) = u ∷ v ∷ []
operands (CatBit u n v m) = u ∷ v ∷ []
operands (Sum u) = u ∷ []
operands (Stretch u count) = u ∷ []
operands (Tile u count) = u ∷ []
operands (SumEach u size count) = u ∷ []
operands (Split u negated) = u ∷ []
operands (Conv u) = u ∷ []
operands (Open ring u) = u ∷ []
operands (Result ring u) = u ∷ []

-- these numbers as a list
abbrev pub numbers_of : Operands → List ℕ
numbers_of Zero = []
numbers_of (One u) = u ∷ []
numbers_of (Two u v) = u ∷ v ∷ []

-- whether a number is among these
abbrev pub is_among : ℕ → List ℕ → Bool
is_among k [] = false
is_among k (n ∷ ns) = nat_eq n k || is_among k ns

-- how many words the value of the first of these numbers has, if there is one
abbrev pub first_size : Values → List ℕ → ℕ
first_size values [] = 0
first_size values (k ∷ ks) = length (value values k)

-- ---- numbers

-- some numbers, and those that come from a number on
abbrev pub Numbers : Type 1
Numbers = ℕ → Type 0

abbrev pub or_from : Numbers → ℕ → Numbers
or_from N first k = N k ⊎ first ≤ k

-- these numbers are among those
abbrev pub AreAmong : Numbers → Numbers → Type 0
AreAmong M N = (k : ℕ) → M k → N k

-- a gate, and a list of gates, that take values of these numbers alone
abbrev pub AllOf : Numbers → List ℕ → Type 0
AllOf N [] = Unit {0}
AllOf N (k ∷ ks) = N k × AllOf N ks

abbrev pub Takes : Numbers → Gate → Type 0
Takes N gate = AllOf N (operands gate)

abbrev pub AllTake : Numbers → List Gate → Type 0
AllTake N [] = Unit {0}
AllTake N (gate ∷ gates) = Takes N gate × AllTake N gates

-- both lists have the same value of this number
abbrev pub HaveSame : Values → Values → Numbers
HaveSame xs ys k = value xs k ≡ value ys k
