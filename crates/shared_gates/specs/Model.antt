-- Gates as the three miners run them: each interactive one is a protocol on all elements, block after block.
use Rattle.std.specs.Prelude.{◌≡◌, ℕ, ◌+◌, ◌*◌, ◌/◌, ◌<◌, ◌≤◌, List, [], ◌∷◌, ◌++◌, Some, None, length}
use Rattle.proto_core.specs.Parties.{of_three}
use Rattle.proto_core.specs.Rings.{add_ring, xor_ring}
use Rattle.proto_core.specs.declared.party.Number.{Number}
use Rattle.proto_core.specs.Protocol.{Protocol}
use Rattle.protocol_model.specs.Gates.{Joined, Local}
use Rattle.protocol_model.specs.Gates as model
use Rattle.blocked_protocol.specs.Multiplying.{mul_protocol}
use Rattle.blocked_protocol.specs.Opening.{open_protocol}
use Rattle.blocked_protocol.specs.Resharing.{reshare_protocol}
use Rattle.blocked_protocol.specs.Converting.{conv_protocol}
use Rattle.blocked_protocol.specs.Splitting.{split_protocol}
use Rattle.blocked_protocol.specs.Blocked.{blocked}
use Rattle.gates.specs.declared.gate.Gate.{Gate}
use Rattle.gates.specs.declared.gate.Gate.TheVariants.{Input, Const, Add, Sub, MulPub, Mul, Xor, And, Not, Shl, Shr, Low, Cat, Part, Put, Rep}
use Rattle.gates.specs.declared.gate.Gate.TheVariants.{Pack, Unpack, RepBit, PartBit, PutBit, CatBit}
use Rattle.gates.specs.declared.gate.Gate.TheVariants.{Sum, Stretch, Tile, SumEach, Split, Conv, Open, Result}
use Rattle.gates.specs.Bits.{words_for}
use Rattle.gates.specs.Clear.{Values, ring_of}
use Rattle.gates.specs.Counts.{size_of, Miner, Miner1, Miner2, Miner3}
use Rattle.shared_gates.specs.LocalGates.{local_share}

-- ---- sizes, by those of what is dealt and of the values before

-- how many elements a gate takes or makes
abbrev pub size_made : (dealt sizes : List ℕ) → Gate → ℕ
size_made dealt sizes (Input k) = size_of dealt k
size_made dealt sizes (Const list) = length list
size_made dealt sizes (Add u v) = size_of sizes u
size_made dealt sizes (Sub u v) = size_of sizes u
size_made dealt sizes (MulPub ring u list) = size_of sizes u
size_made dealt sizes (Mul u v) = size_of sizes u
size_made dealt sizes (Xor u v) = size_of sizes u
size_made dealt sizes (And u v) = size_of sizes u
size_made dealt sizes (Not u) = size_of sizes u
size_made dealt sizes (Shl u count) = size_of sizes u
size_made dealt sizes (Shr u count) = size_of sizes u
size_made dealt sizes (Low u) = size_of sizes u
size_made dealt sizes (Cat u v) = size_of sizes u + size_of sizes v
size_made dealt sizes (Part u from count) = count
size_made dealt sizes (Put u index v) = size_of sizes u
size_made dealt sizes (Rep u count) = count
size_made dealt sizes (Pack u) = words_for (size_of sizes u)
size_made dealt sizes (Unpack u count) = count
size_made dealt sizes (RepBit u count) = words_for count
size_made dealt sizes (PartBit u index) = 1
size_made dealt sizes (PutBit u index v) = size_of sizes u
size_made dealt sizes (CatBit u n v m) = words_for (n + m)
size_made dealt sizes (Sum u) = 1
size_made dealt sizes (Stretch u count) = size_of sizes u * count
size_made dealt sizes (Tile u count) = size_of sizes u * count
size_made dealt sizes (SumEach u size count) = count
size_made dealt sizes (Split u negated) = size_of sizes u
size_made dealt sizes (Conv u) = size_of sizes u
size_made dealt sizes (Open ring u) = size_of sizes u
size_made dealt sizes (Result ring u) = size_of sizes u

abbrev pub sizes_made : (dealt sizes : List ℕ) → Gate → List ℕ
sizes_made dealt sizes (Split u negated) = size_of sizes u ∷ size_of sizes u ∷ []
sizes_made dealt sizes gate = size_made dealt sizes gate ∷ []

-- both operands stand before the gate, with equally many elements
pub record PairOf (sizes : List ℕ) (u v : ℕ) : Type 0 where
  pub first : u < length sizes
  pub second : v < length sizes
  pub same_size : size_of sizes u ≡ size_of sizes v

-- what a gate asks of its operands
abbrev pub SizesSuit : (dealt sizes : List ℕ) → Gate → Type 0
SizesSuit dealt sizes (Input k) = k < length dealt
SizesSuit dealt sizes (Const list) = Unit {0}
SizesSuit dealt sizes (Add u v) = PairOf sizes u v
SizesSuit dealt sizes (Sub u v) = PairOf sizes u v
SizesSuit dealt sizes (MulPub ring u list) = (u < length sizes) × (size_of sizes u ≡ length list)
SizesSuit dealt sizes (Mul u v) = PairOf sizes u v
SizesSuit dealt sizes (Xor u v) = PairOf sizes u v
SizesSuit dealt sizes (And u v) = PairOf sizes u v
SizesSuit dealt sizes (Not u) = u < length sizes
SizesSuit dealt sizes (Shl u count) = u < length sizes
SizesSuit dealt sizes (Shr u count) = u < length sizes
SizesSuit dealt sizes (Low u) = u < length sizes
SizesSuit dealt sizes (Cat u v) = (u < length sizes) × (v < length sizes)
SizesSuit dealt sizes (Part u from count) = (u < length sizes) × (from + count ≤ size_of sizes u)
SizesSuit dealt sizes (Put u index v) = (u < length sizes) × (v < length sizes) × (index < size_of sizes u) × (size_of sizes v ≡ 1)
SizesSuit dealt sizes (Rep u count) = (u < length sizes) × (size_of sizes u ≡ 1)
SizesSuit dealt sizes (Pack u) = u < length sizes
SizesSuit dealt sizes (Unpack u count) = (u < length sizes) × (size_of sizes u ≡ words_for count)
SizesSuit dealt sizes (RepBit u count) = (u < length sizes) × (size_of sizes u ≡ 1)
SizesSuit dealt sizes (PartBit u index) = (u < length sizes) × (index / 64 < size_of sizes u)
SizesSuit dealt sizes (PutBit u index v) =
    (u < length sizes) × (v < length sizes) × (index / 64 < size_of sizes u) × (size_of sizes v ≡ 1)
SizesSuit dealt sizes (CatBit u n v m) =
    (u < length sizes) × (v < length sizes) × (size_of sizes u ≡ words_for n) × (size_of sizes v ≡ words_for m)
SizesSuit dealt sizes (Sum u) = u < length sizes
SizesSuit dealt sizes (Stretch u count) = u < length sizes
SizesSuit dealt sizes (Tile u count) = u < length sizes
SizesSuit dealt sizes (SumEach u size count) = (u < length sizes) × (size_of sizes u ≡ size * count)
SizesSuit dealt sizes (Split u negated) = u < length sizes
SizesSuit dealt sizes (Conv u) = u < length sizes
SizesSuit dealt sizes (Open ring u) = u < length sizes
SizesSuit dealt sizes (Result ring u) = u < length sizes

abbrev pub AllSizesSuit : (dealt sizes : List ℕ) → List Gate → Type 0
AllSizesSuit dealt sizes [] = Unit {0}
AllSizesSuit dealt sizes (gate ∷ gates) = SizesSuit dealt sizes gate × AllSizesSuit dealt (sizes ++ sizes_made dealt sizes gate) gates

-- ---- the gates of a run

-- a gate of one operand, by its protocol
abbrev pub joined_one : List ℕ → Protocol → ℕ → model.Gate
joined_one sizes p u = Joined (blocked p) (size_of sizes u) u None

abbrev pub joined_two : List ℕ → Protocol → ℕ → ℕ → model.Gate
joined_two sizes p u v = Joined (blocked p) (size_of sizes u) u (Some v)

-- by the shares of what was dealt to each miner
abbrev pub run_gate : (dealt : Number → Values) → (dealt_sizes sizes : List ℕ) → Gate → model.Gate
run_gate dealt ds sizes (Mul u v) = joined_two sizes (mul_protocol add_ring) u v
run_gate dealt ds sizes (And u v) = joined_two sizes (mul_protocol xor_ring) u v
run_gate dealt ds sizes (Split u negated) = joined_one sizes (split_protocol negated) u
run_gate dealt ds sizes (Conv u) = joined_one sizes conv_protocol u
run_gate dealt ds sizes (Open ring u) = joined_one sizes (open_protocol (ring_of ring)) u
run_gate dealt ds sizes (Result ring u) = joined_one sizes (reshare_protocol (ring_of ring)) u
run_gate dealt ds sizes gate = Local (size_made ds sizes gate) (λ i own. local_share i (dealt i) own gate)

abbrev pub run_gates : (dealt : Number → Values) → (dealt_sizes sizes : List ℕ) → List Gate → List model.Gate
run_gates dealt ds sizes [] = []
run_gates dealt ds sizes (gate ∷ gates) = run_gate dealt ds sizes gate ∷ run_gates dealt ds (sizes ++ sizes_made ds sizes gate) gates

-- the sizes of all values after the gates
abbrev pub sizes_after : (dealt_sizes sizes : List ℕ) → List Gate → List ℕ
sizes_after ds sizes [] = sizes
sizes_after ds sizes (gate ∷ gates) = sizes_after ds (sizes ++ sizes_made ds sizes gate) gates

-- the miner whose words are counted
abbrev pub miner_of : Number → Miner
miner_of = of_three Miner1 Miner2 Miner3
