-- What gates mean on clear values: which values fit a list of gates.
--
-- A value is a list of words; the values of a run are a list, each at its number.
use Rattle.std.specs.Prelude.{◌≡◌, ℕ, ◌+◌, ◌*◌, ◌/◌, ◌^◌, ◌%◌, ◌<◌, ◌≤◌, List, [], ◌∷◌, ◌++◌, Bool, true, false, Some, length, map, take, drop, set}
use Rattle.std.specs.Prelude.{sum, replicate, slice_get, get_or}
use Rattle.std.specs.List.{zip, flat_map, range_with_len}
use Rattle.std.specs.Int.{w64, bit_at, bit_not}
use Rattle.proto_core.specs.Ring.{Ring}
use Rattle.proto_core.specs.Rings.{add_ring, xor_ring}
use Rattle.proto_core.specs.Words.{AreWords}
use Rattle.gates.specs.declared.ring_kind.RingKind.{RingKind}
use Rattle.gates.specs.declared.ring_kind.RingKind.TheVariants.{Arithmetic, Boolean}
use Rattle.gates.specs.declared.gate.Gate.{Gate}
use Rattle.gates.specs.declared.gate.Gate.TheVariants.{Input, Const, Add, Sub, MulPub, Mul, Xor, And, Not, Shl, Shr, Low, Cat, Part, Put, Rep}
use Rattle.gates.specs.declared.gate.Gate.TheVariants.{Pack, Unpack, RepBit, PartBit, PutBit, CatBit}
use Rattle.gates.specs.declared.gate.Gate.TheVariants.{Sum, Stretch, Tile, SumEach, Split, Conv, Open, Result}
use Rattle.bit_words.specs.Bits.{words_for}
use Rattle.bit_words.specs.Gathered.{packed, unpacked, bits_repeated, bit_taken, bit_put, bits_joined}
use Rattle.gates.specs.Counts.{made_by, made_by_all}

abbrev pub Values : Type 0
Values = List (List ℕ)

-- the value of a number, and no words where none stands there
abbrev pub value : Values → ℕ → List ℕ
value values u = get_or values u []

abbrev pub ring_of : RingKind → Ring
ring_of Arithmetic = add_ring
ring_of Boolean = xor_ring

-- f of the two words at each index
abbrev pub each_two : (ℕ → ℕ → ℕ) → List ℕ → List ℕ → List ℕ
each_two f xs ys = map (λ (p : ℕ × ℕ). f p.0 p.1) (zip xs ys)

abbrev pub first_word : List ℕ → ℕ
first_word xs = get_or xs 0 0

-- the 64 bits of a word, bit 0 first
unfoldable pub bits_of : ℕ → List ℕ
bits_of x = map (bit_at x) (range_with_len 0 64)

-- the value that a gate makes, of the private inputs and of the values before it; Split is no function, and stands below
abbrev pub clear_value : Values → Values → Gate → List ℕ
clear_value inputs values (Input k) = value inputs k
clear_value inputs values (Const list) = list
clear_value inputs values (Add u v) = each_two add_ring.add (value values u) (value values v)
clear_value inputs values (Sub u v) = each_two add_ring.sub (value values u) (value values v)
clear_value inputs values (MulPub ring u list) = each_two (ring_of ring).mul (value values u) list
clear_value inputs values (Mul u v) = each_two add_ring.mul (value values u) (value values v)
clear_value inputs values (Xor u v) = each_two xor_ring.add (value values u) (value values v)
clear_value inputs values (And u v) = each_two xor_ring.mul (value values u) (value values v)
clear_value inputs values (Not u) = map (bit_not w64) (value values u)
clear_value inputs values (Shl u count) = map (λ x. x * 2 ^ count % 2 ^ 64) (value values u)
clear_value inputs values (Shr u count) = map (λ x. x / 2 ^ count) (value values u)
clear_value inputs values (Low u) = map (λ x. x % 2) (value values u)
clear_value inputs values (Cat u v) = value values u ++ value values v
clear_value inputs values (Part u from count) = take count (drop from (value values u))
clear_value inputs values (Put u index v) = set (value values u) index (first_word (value values v))
clear_value inputs values (Rep u count) = replicate count (first_word (value values u))
clear_value inputs values (Pack u) = packed (value values u)
clear_value inputs values (Unpack u count) = unpacked (value values u) count
clear_value inputs values (RepBit u count) = bits_repeated (value values u) count
clear_value inputs values (PartBit u index) = bit_taken (value values u) index
clear_value inputs values (PutBit u index v) = bit_put (value values u) index (value values v)
clear_value inputs values (CatBit u n v m) = bits_joined (value values u) n (value values v) m
clear_value inputs values (Sum u) = sum (value values u) % 2 ^ 64 ∷ []
clear_value inputs values (Stretch u count) = flat_map (λ x. replicate count x) (value values u)
clear_value inputs values (Tile u count) = flat_map (λ k. value values u) (range_with_len 0 count)
clear_value inputs values (SumEach u size count) = map (λ k. sum (take size (drop (k * size) (value values u))) % 2 ^ 64) (range_with_len 0 count)
clear_value inputs values (Split u negated) = []
clear_value inputs values (Conv u) = map (λ x. x % 2) (value values u)
clear_value inputs values (Open ring u) = value values u
clear_value inputs values (Result ring u) = value values u

-- two values that a Split may make of a third: they add up to it, or, negated, their difference is it
abbrev pub rejoined : Bool → List ℕ → List ℕ → List ℕ
rejoined false xs ys = each_two add_ring.add xs ys
rejoined true xs ys = each_two add_ring.sub xs ys

pub record IsSplit (negated : Bool) (us xs ys : List ℕ) : Type 0 where
  pub same_size : length xs ≡ length ys
  pub words : AreWords xs
  pub other_words : AreWords ys
  pub join : rejoined negated xs ys ≡ us

-- operands stand before the gate, whose own number is next, and two of them have equally many words where it takes them together
abbrev pub IsOperand : ℕ → ℕ → Type 0
IsOperand next u = u < next

pub record AreOperands (values : Values) (next u v : ℕ) : Type 0 where
  pub first : u < next
  pub second : v < next
  pub same_size : length (value values u) ≡ length (value values v)

-- what a gate asks of its operands, counts and list
abbrev pub Suits : Values → Values → ℕ → Gate → Type 0
Suits inputs values next (Input k) = k < length inputs
Suits inputs values next (Const list) = Unit {0}
Suits inputs values next (Add u v) = AreOperands values next u v
Suits inputs values next (Sub u v) = AreOperands values next u v
Suits inputs values next (MulPub ring u list) = IsOperand next u × (length (value values u) ≡ length list)
Suits inputs values next (Mul u v) = AreOperands values next u v
Suits inputs values next (Xor u v) = AreOperands values next u v
Suits inputs values next (And u v) = AreOperands values next u v
Suits inputs values next (Cat u v) = IsOperand next u × IsOperand next v
Suits inputs values next (Part u from count) = IsOperand next u × (from + count ≤ length (value values u))
Suits inputs values next (Put u index v) = IsOperand next u × IsOperand next v × (index < length (value values u)) × (length (value values v) ≡ 1)
Suits inputs values next (Rep u count) = IsOperand next u × (length (value values u) ≡ 1)
Suits inputs values next (Not u) = IsOperand next u
Suits inputs values next (Shl u count) = IsOperand next u
Suits inputs values next (Shr u count) = IsOperand next u
Suits inputs values next (Low u) = IsOperand next u
Suits inputs values next (Pack u) = IsOperand next u
Suits inputs values next (Unpack u count) = IsOperand next u × (length (value values u) ≡ words_for count)
Suits inputs values next (RepBit u count) = IsOperand next u × (length (value values u) ≡ 1)
Suits inputs values next (PartBit u index) = IsOperand next u × (index / 64 < length (value values u))
Suits inputs values next (PutBit u index v) =
    IsOperand next u × IsOperand next v × (index / 64 < length (value values u)) × (length (value values v) ≡ 1)
Suits inputs values next (CatBit u n v m) =
    IsOperand next u × IsOperand next v × (length (value values u) ≡ words_for n) × (length (value values v) ≡ words_for m)
Suits inputs values next (Sum u) = IsOperand next u
Suits inputs values next (Stretch u count) = IsOperand next u
Suits inputs values next (Tile u count) = IsOperand next u
Suits inputs values next (SumEach u size count) = IsOperand next u × (length (value values u) ≡ size * count)
Suits inputs values next (Split u negated) = IsOperand next u
Suits inputs values next (Conv u) = IsOperand next u
Suits inputs values next (Open ring u) = IsOperand next u
Suits inputs values next (Result ring u) = IsOperand next u

-- the gate's own values stand at its number, and are as its equation says
abbrev pub Makes : Values → Values → ℕ → Gate → Type 0
Makes inputs values next (Split u negated) =
    (slice_get values next ≡ Some (value values next))
    × (slice_get values (next + 1) ≡ Some (value values (next + 1)))
    × IsSplit negated (value values u) (value values next) (value values (next + 1))
Makes inputs values next gate = slice_get values next ≡ Some (clear_value inputs values gate)

-- the values fit the gates, of which the first makes the value of number next
abbrev pub FitFrom : Values → Values → ℕ → List Gate → Type 0
FitFrom inputs values next [] = Unit {0}
FitFrom inputs values next (gate ∷ gates) = Suits inputs values next gate × Makes inputs values next gate × FitFrom inputs values (next + made_by gate) gates

-- the values are those of a whole list of gates
pub record Fit (inputs : Values) (gates : List Gate) (values : Values) : Type 0 where
  pub fit : FitFrom inputs values 0 gates
  pub count : length values ≡ made_by_all gates
