-- In which ring each value of a list of gates is shared.
use Rattle.std.specs.Prelude.{◌≡◌, ℕ, ◌+◌, List, [], ◌∷◌}
use Rattle.gates.specs.declared.ring_kind.RingKind.{RingKind}
use Rattle.gates.specs.declared.ring_kind.RingKind.TheVariants.{Arithmetic, Boolean}
use Rattle.gates.specs.declared.gate.Gate.{Gate}
use Rattle.gates.specs.declared.gate.Gate.TheVariants.{Input, Const, Add, Sub, MulPub, Mul, Xor, And, Not, Shl, Shr, Low, Cat, Part, Put, Rep}
use Rattle.gates.specs.declared.gate.Gate.TheVariants.{Pack, Unpack, RepBit, PartBit, PutBit, CatBit}
use Rattle.gates.specs.declared.gate.Gate.TheVariants.{Sum, Stretch, Tile, SumEach, Split, Conv, Open, Result}
use Rattle.gates.specs.Counts.{made_by}
use Rattle.proto_core.specs.Lists.{AreWords}
use Rattle.shared_gates.specs.Shares.{Kind, Shared, Known, kind_at}

-- the values of these numbers are shared in this ring
abbrev pub AllShared : RingKind → List Kind → List ℕ → Type 0
AllShared ring kinds [] = Unit {0}
AllShared ring kinds (k ∷ ks) = (kind_at kinds k ≡ Shared ring) × AllShared ring kinds ks

-- in some ring, the same for all of them
abbrev pub SharedAlike : List Kind → List ℕ → Type 0
SharedAlike kinds ks = (ring : RingKind) × AllShared ring kinds ks

-- the operands are shared as the gate takes them, and so is what it makes, whose first number is next
abbrev pub Kinded : (dealt kinds : List Kind) → (next : ℕ) → Gate → Type 0
Kinded dealt kinds next (Input k) = kind_at kinds next ≡ kind_at dealt k
Kinded dealt kinds next (Const list) = AreWords list × SharedAlike kinds (next ∷ [])
Kinded dealt kinds next (Add u v) = AllShared Arithmetic kinds (u ∷ v ∷ next ∷ [])
Kinded dealt kinds next (Sub u v) = AllShared Arithmetic kinds (u ∷ v ∷ next ∷ [])
Kinded dealt kinds next (MulPub ring u list) = AllShared ring kinds (u ∷ next ∷ [])
Kinded dealt kinds next (Mul u v) = AllShared Arithmetic kinds (u ∷ v ∷ next ∷ [])
Kinded dealt kinds next (Xor u v) = AllShared Boolean kinds (u ∷ v ∷ next ∷ [])
Kinded dealt kinds next (And u v) = AllShared Boolean kinds (u ∷ v ∷ next ∷ [])
Kinded dealt kinds next (Not u) = AllShared Boolean kinds (u ∷ next ∷ [])
Kinded dealt kinds next (Shl u count) = AllShared Boolean kinds (u ∷ next ∷ [])
Kinded dealt kinds next (Shr u count) = AllShared Boolean kinds (u ∷ next ∷ [])
Kinded dealt kinds next (Low u) = AllShared Boolean kinds (u ∷ next ∷ [])
Kinded dealt kinds next (Cat u v) = SharedAlike kinds (u ∷ v ∷ next ∷ [])
Kinded dealt kinds next (Part u from count) = SharedAlike kinds (u ∷ next ∷ [])
Kinded dealt kinds next (Put u index v) = SharedAlike kinds (u ∷ v ∷ next ∷ [])
Kinded dealt kinds next (Rep u count) = SharedAlike kinds (u ∷ next ∷ [])
Kinded dealt kinds next (Pack u) = AllShared Boolean kinds (u ∷ next ∷ [])
Kinded dealt kinds next (Unpack u count) = AllShared Boolean kinds (u ∷ next ∷ [])
Kinded dealt kinds next (RepBit u count) = AllShared Boolean kinds (u ∷ next ∷ [])
Kinded dealt kinds next (PartBit u index) = AllShared Boolean kinds (u ∷ next ∷ [])
Kinded dealt kinds next (PutBit u index v) = AllShared Boolean kinds (u ∷ v ∷ next ∷ [])
Kinded dealt kinds next (CatBit u n v m) = AllShared Boolean kinds (u ∷ v ∷ next ∷ [])
Kinded dealt kinds next (Sum u) = AllShared Arithmetic kinds (u ∷ next ∷ [])
Kinded dealt kinds next (Stretch u count) = SharedAlike kinds (u ∷ next ∷ [])
Kinded dealt kinds next (Tile u count) = SharedAlike kinds (u ∷ next ∷ [])
Kinded dealt kinds next (SumEach u size count) = AllShared Arithmetic kinds (u ∷ next ∷ [])
Kinded dealt kinds next (Split u negated) = AllShared Arithmetic kinds (u ∷ []) × AllShared Boolean kinds (next ∷ (next + 1) ∷ [])
Kinded dealt kinds next (Conv u) = AllShared Boolean kinds (u ∷ []) × AllShared Arithmetic kinds (next ∷ [])
Kinded dealt kinds next (Open ring u) = AllShared ring kinds (u ∷ []) × (kind_at kinds next ≡ Known)
Kinded dealt kinds next (Result ring u) = AllShared ring kinds (u ∷ next ∷ [])

abbrev pub AllKinded : (dealt kinds : List Kind) → (next : ℕ) → List Gate → Type 0
AllKinded dealt kinds next [] = Unit {0}
AllKinded dealt kinds next (gate ∷ gates) = Kinded dealt kinds next gate × AllKinded dealt kinds (next + made_by gate) gates
