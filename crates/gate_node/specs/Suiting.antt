-- Whether a gate suits the sizes of the values before it, as a test.
use Rattle.std.specs.Prelude.{ℕ, ◌+◌, ◌/◌, Bool, true, ◌==◌, ◌&&◌, nat_lt, nat_le, List, length, ◌*◌}
use Rattle.gates.specs.declared.gate.Gate.{Gate}
use Rattle.gates.specs.declared.gate.Gate.TheVariants.{Input, Const, Add, Sub, MulPub, Mul, Xor, And, Not, Shl, Shr, Low, Cat, Part, Put, Rep}
use Rattle.gates.specs.declared.gate.Gate.TheVariants.{Pack, Unpack, RepBit, PartBit, PutBit, CatBit}
use Rattle.gates.specs.declared.gate.Gate.TheVariants.{Sum, Stretch, Tile, SumEach, Split, Conv, Open, Result}
use Rattle.gates.specs.Bits.{words_for}
use Rattle.gates.specs.Counts.{size_of}

-- there is a value of this number
abbrev pub is_there : List ℕ → ℕ → Bool
is_there sizes u = nat_lt u (length sizes)

-- there are both, with equally many elements
abbrev pub are_pair : List ℕ → ℕ → ℕ → Bool
are_pair sizes u v = is_there sizes u && (is_there sizes v && (size_of sizes u == size_of sizes v))

-- whether a gate's operands are there and have the sizes that it takes
abbrev pub suits : (dealt sizes : List ℕ) → Gate → Bool
suits dealt sizes (Input k) = is_there dealt k
suits dealt sizes (Const list) = true
suits dealt sizes (Add u v) = are_pair sizes u v
suits dealt sizes (Sub u v) = are_pair sizes u v
suits dealt sizes (MulPub ring u list) = is_there sizes u && (size_of sizes u == length list)
suits dealt sizes (Mul u v) = are_pair sizes u v
suits dealt sizes (Xor u v) = are_pair sizes u v
suits dealt sizes (And u v) = are_pair sizes u v
suits dealt sizes (Not u) = is_there sizes u
suits dealt sizes (Shl u count) = is_there sizes u
suits dealt sizes (Shr u count) = is_there sizes u
suits dealt sizes (Low u) = is_there sizes u
suits dealt sizes (Cat u v) = is_there sizes u && is_there sizes v
suits dealt sizes (Part u from count) = is_there sizes u && nat_le (from + count) (size_of sizes u)
suits dealt sizes (Put u index v) = is_there sizes u && (is_there sizes v && (nat_lt index (size_of sizes u) && (size_of sizes v == 1)))
suits dealt sizes (Rep u count) = is_there sizes u && (size_of sizes u == 1)
suits dealt sizes (Pack u) = is_there sizes u
suits dealt sizes (Unpack u count) = is_there sizes u && (size_of sizes u == words_for count)
suits dealt sizes (RepBit u count) = is_there sizes u && (size_of sizes u == 1)
suits dealt sizes (PartBit u index) = is_there sizes u && nat_lt (index / 64) (size_of sizes u)
suits dealt sizes (PutBit u index v) =
    is_there sizes u && (is_there sizes v && (nat_lt (index / 64) (size_of sizes u) && (size_of sizes v == 1)))
suits dealt sizes (CatBit u n v m) =
    is_there sizes u && (is_there sizes v && ((size_of sizes u == words_for n) && (size_of sizes v == words_for m)))
suits dealt sizes (Sum u) = is_there sizes u
suits dealt sizes (Stretch u count) = is_there sizes u
suits dealt sizes (Tile u count) = is_there sizes u
suits dealt sizes (SumEach u size count) = is_there sizes u && (size_of sizes u == size * count)
suits dealt sizes (Split u negated) = is_there sizes u
suits dealt sizes (Conv u) = is_there sizes u
suits dealt sizes (Open ring u) = is_there sizes u
suits dealt sizes (Result ring u) = is_there sizes u
