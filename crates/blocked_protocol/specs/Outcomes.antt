-- What the blocks that three miners have at the end, and the words that they open, have to do with the operands.
use Rattle.std.specs.Prelude.{◌≡◌, ℕ, ◌+◌, Bool, List, [], ◌++◌}
use Rattle.proto_core.specs.Ring.{Ring}
use Rattle.proto_core.specs.Rings.{add_ring, xor_ring}
use Rattle.proto_core.specs.declared.party.Number.{Number}
use Rattle.proto_core.specs.declared.party.Number.TheVariants.{One, Two, Three}
use Rattle.proto_core.specs.Protocol.{Joint, Protocol, AreBlocks}
use Rattle.proto_core.specs.Resharing.{sum_of_three}
use Rattle.protocol_model.specs.Gates.{nth_value}
use Rattle.multiply.specs.Products.{times}
use Rattle.share_convert.specs.Bits.{xor_bits_of_three}
use Rattle.split_share.specs.Splitting as splitting
use Rattle.blocked_protocol.specs.Blocked.{joined, no_elements, front, behind}

-- a relation of n elements: of the operands' shares, each miner's blocks, and the opened words
abbrev pub Outcome : Type 1
Outcome = ℕ → Joint → (blocks : Number → List (List ℕ)) → (opened : List ℕ) → Type 0

-- the relation holds of no elements, and of some elements with others after them where it holds of both
pub record Elementwise (p : Protocol) (R : Outcome) : Type 0 where
  pub none : (j : Joint) → R 0 j (λ i. no_elements p) []
  pub more :
      (m n : ℕ) (j : Joint) (x y : Number → List (List ℕ)) (a b : List ℕ) →
      ((i : Number) → AreBlocks (p.made m) (x i)) → ((i : Number) → AreBlocks (p.made n) (y i)) →
      R m (front p m j) x a → R n (behind p m j) y b → R (m + n) j (λ i. joined (x i) (y i)) (a ++ b)

-- a protocol's own outputs and opened words
abbrev pub Makes : Protocol → Outcome → ℕ → Joint → Type 0
Makes p R n j = R n j (p.output n j) (p.opened n j)

-- ---- the relations of the gates

-- the value that three miners share in a ring
abbrev pub value_of : Ring → ℕ → (Number → List ℕ) → List ℕ
value_of r n s = sum_of_three r n (s One) (s Two) (s Three)

-- each miner's block of a number, counted from 0
abbrev pub nth : ℕ → (Number → List (List ℕ)) → Number → List ℕ
nth k blocks i = nth_value (blocks i) k

-- the product of the two values, element by element
abbrev pub IsProduct : Ring → Outcome
IsProduct r n j blocks opened = value_of r n (nth 0 blocks) ≡ times r n (value_of r n j.u) (value_of r n j.v)

-- each miner has the value, and it is what was opened
abbrev pub IsOpened : Ring → Outcome
IsOpened r n j blocks opened = (opened ≡ value_of r n j.u) × ((i : Number) → nth 0 blocks i ≡ value_of r n j.u)

-- the same value
abbrev pub IsReshared : Ring → Outcome
IsReshared r n j blocks opened = value_of r n (nth 0 blocks) ≡ value_of r n j.u

-- the number 0 or 1, shared modulo 2^64, that is the lowest bit of the value shared by xor
abbrev pub IsConverted : Outcome
IsConverted n j blocks opened = value_of add_ring n (nth 0 blocks) ≡ xor_bits_of_three n (j.u One) (j.u Two) (j.u Three)

-- two words shared by xor whose sum is the value shared modulo 2^64, or their difference
abbrev pub IsSplit : Bool → Outcome
IsSplit negated n j blocks opened =
    splitting.sum_or_difference negated n (value_of xor_ring n (nth 0 blocks)) (value_of xor_ring n (nth 1 blocks))
    ≡ value_of add_ring n j.u
