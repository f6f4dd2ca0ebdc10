-- The test of what a gate asks of its operands is right.
use Rattle.std.proofs.Common.{◌≡◌, ℕ, ◌+◌, ◌/◌, ◌<◌, ◌≤◌, Bool, true, false, ◌==◌, ◌&&◌, nat_lt, nat_le, IsTrue, ◌↔◌, List, length, refl, ◌*◌}
use Rattle.std.proofs.lemmas.Bool.{lt-ltb, ltb-true, le-leb, leb-true, eqb-true, eq-eqb}
use Rattle.gates.specs.declared.gate.Gate.{Gate}
use Rattle.gates.specs.declared.gate.Gate.TheVariants.{Input, Const, Add, Sub, MulPub, Mul, Xor, And, Not, Shl, Shr, Low, Cat, Part, Put, Rep}
use Rattle.gates.specs.declared.gate.Gate.TheVariants.{Pack, Unpack, RepBit, PartBit, PutBit, CatBit}
use Rattle.gates.specs.declared.gate.Gate.TheVariants.{Sum, Stretch, Tile, SumEach, Split, Conv, Open, Result}
use Rattle.gates.specs.Bits.{words_for}
use Rattle.gates.specs.Counts.{size_of}
use Rattle.gate_exchanges.specs.Model.{PairOf, SizesSuit}
use Rattle.gate_node.specs.Suiting.{is_there, are_pair, suits}

both : (a b : Bool) {P Q : Type 0} → IsTrue a ↔ P → IsTrue b ↔ Q → IsTrue (a && b) ↔ (P × Q)
both true true p q = (λ h. (p.0 refl, q.0 refl), λ h. refl)
both true false p q = (λ h. absurd (apart h), λ h. q.1 h.1)
  where
    apart : false ≡ true → ⊥
    apart e = cc
both false b p q = (λ h. absurd (apart h), λ h. p.1 h.0)
  where
    apart : false ≡ true → ⊥
    apart e = cc

less : (m n : ℕ) → IsTrue (nat_lt m n) ↔ (m < n)
less m n = (ltb-true m n, lt-ltb m n)

at_most : (m n : ℕ) → IsTrue (nat_le m n) ↔ (m ≤ n)
at_most m n = (leb-true m n, le-leb m n)

same : (m n : ℕ) → IsTrue (m == n) ↔ (m ≡ n)
same m n = (eqb-true m n, eq-eqb m n)

pair : (sizes : List ℕ) (u v : ℕ) → IsTrue (are_pair sizes u v) ↔ PairOf sizes u v
pair sizes u v =
    let parts = both (is_there sizes u) (is_there sizes v && (size_of sizes u == size_of sizes v)) (less u (length sizes))
    (both (is_there sizes v) (size_of sizes u == size_of sizes v) (less v (length sizes)) (same (size_of sizes u) (size_of sizes v))) in (
      λ h. let k = parts.0 h in record { first = k.0; second = k.1.0; same_size = k.1.1 },
      λ h. parts.1 (h.first, (h.second, h.same_size)),
    )

there : (sizes : List ℕ) (u : ℕ) → IsTrue (is_there sizes u) ↔ (u < length sizes)
there sizes u = less u (length sizes)

put :
    (sizes : List ℕ) (u index v : ℕ) →
    IsTrue (is_there sizes u && (is_there sizes v && (nat_lt index (size_of sizes u) && (size_of sizes v == 1))))
    ↔ ((u < length sizes) × (v < length sizes) × (index < size_of sizes u) × (size_of sizes v ≡ 1))
put sizes u index v =
    let parts = both _ _ (there sizes u) (both _ _ (there sizes v) (both _ _ (less index (size_of sizes u)) (same (size_of sizes v) 1))) in (
      λ h. let k = parts.0 h in (k.0, k.1.0, k.1.1.0, k.1.1.1),
      λ h. parts.1 (h.0, (h.1, (h.2, h.3))),
    )

joined :
    (sizes : List ℕ) (u n v m : ℕ) →
    IsTrue (is_there sizes u && (is_there sizes v && ((size_of sizes u == words_for n) && (size_of sizes v == words_for m))))
    ↔ ((u < length sizes) × (v < length sizes) × (size_of sizes u ≡ words_for n) × (size_of sizes v ≡ words_for m))
joined sizes u n v m =
    let counts = both _ _ (same (size_of sizes u) (words_for n)) (same (size_of sizes v) (words_for m)) in
    let parts = both _ _ (there sizes u) (both _ _ (there sizes v) counts) in (
      λ h. let k = parts.0 h in (k.0, k.1.0, k.1.1.0, k.1.1.1),
      λ h. parts.1 (h.0, (h.1, (h.2, h.3))),
    )

pub test-is : (dealt sizes : List ℕ) (gate : Gate) → IsTrue (suits dealt sizes gate) ↔ SizesSuit dealt sizes gate
test-is dealt sizes (Input k) = there dealt k
test-is dealt sizes (Const list) = (λ h. tt, λ h. refl)
test-is dealt sizes (Add u v) = pair sizes u v
test-is dealt sizes (Sub u v) = pair sizes u v
test-is dealt sizes (MulPub ring u list) = both _ _ (there sizes u) (same (size_of sizes u) (length list))
test-is dealt sizes (Mul u v) = pair sizes u v
test-is dealt sizes (Xor u v) = pair sizes u v
test-is dealt sizes (And u v) = pair sizes u v
test-is dealt sizes (Not u) = there sizes u
test-is dealt sizes (Shl u count) = there sizes u
test-is dealt sizes (Shr u count) = there sizes u
test-is dealt sizes (Low u) = there sizes u
test-is dealt sizes (Cat u v) = both _ _ (there sizes u) (there sizes v)
test-is dealt sizes (Part u from count) = both _ _ (there sizes u) (at_most (from + count) (size_of sizes u))
test-is dealt sizes (Put u index v) = put sizes u index v
test-is dealt sizes (Rep u count) = both _ _ (there sizes u) (same (size_of sizes u) 1)
test-is dealt sizes (Pack u) = there sizes u
test-is dealt sizes (Unpack u count) = both _ _ (there sizes u) (same (size_of sizes u) (words_for count))
test-is dealt sizes (RepBit u count) = both _ _ (there sizes u) (same (size_of sizes u) 1)
test-is dealt sizes (PartBit u index) = both _ _ (there sizes u) (less (index / 64) (size_of sizes u))
test-is dealt sizes (PutBit u index v) = put sizes u (index / 64) v
test-is dealt sizes (CatBit u n v m) = joined sizes u n v m
test-is dealt sizes (Sum u) = there sizes u
test-is dealt sizes (Stretch u count) = there sizes u
test-is dealt sizes (Tile u count) = there sizes u
test-is dealt sizes (SumEach u size count) = both _ _ (there sizes u) (same (size_of sizes u) (size * count))
test-is dealt sizes (Split u negated) = there sizes u
test-is dealt sizes (Conv u) = there sizes u
test-is dealt sizes (Open ring u) = there sizes u
test-is dealt sizes (Result ring u) = there sizes u
