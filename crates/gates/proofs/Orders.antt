-- Comparison by the carry out of a difference, and equality by joining all bits.
use Rattle.std.proofs.Common.{zero, suc, ◌≡◌, ℕ, ◌+◌, ◌-◌, ◌*◌, ◌/◌, ◌%◌, ◌^◌, ◌<◌, ◌≤◌, refl, sym, ◌∙◌, ap, inl, inr, arith}
use Rattle.std.specs.Prelude.{min, bit_xor}
use Rattle.std.specs.Int.{w64, bit_at, bit_not}
use Rattle.std.proofs.lemmas.Nat.{pow_pos, mod_below}
use Rattle.std.proofs.lemmas.Nat.Bits.{same_from_bits_below, bit_at_not, bit_at_lowest, bit_at-lt}
use Rattle.std.proofs.lemmas.Bool.{cases_lt}
use Rattle.std.proofs.lemmas.Bool.Decides.{nat_tests}
use Rattle.proto_core.specs.Rings.{add_ring, xor_ring}
use Rattle.gates.specs.WordTests.{zero_test, less_test}
use Rattle.gates.proofs.Carries.{carried, carry, carry-zero, carry_out, carry_more, bit_at-xored, bit_at-anded, bit_at-shifted_down, SpansDown, down_end}

-- ---- less

xored_word : (x y : ℕ) → xor_ring.add x y < 2 ^ 64
xored_word x y = mod_below (bit_xor x y) (2 ^ 64) (pow_pos 64)

bit_at-not : (x j : ℕ) → x < 2 ^ 64 → j < 64 → bit_at (bit_not w64 x) j ≡ 1 - bit_at x j
bit_at-not x j h lt = bit_at_not w64 x j h lt

pub bit_at-same : (x y j : ℕ) → j < 64 → bit_at (bit_not w64 (xor_ring.add x y)) j ≡ 1 - (bit_at x j + bit_at y j) % 2
bit_at-same x y j lt = bit_at-not (xor_ring.add x y) j (xored_word x y) lt ∙ ap (λ n. 1 - n) (bit_at-xored x y j lt)

-- less is the carry out of the complement of the first word and the second
pub down_start : (a b : ℕ) → a < 2 ^ 64 → SpansDown (carry (bit_not w64 a) b) 1 (xor_ring.mul b (bit_not w64 a)) (bit_not w64 (xor_ring.add a b))
down_start a b h j le =
    let lt : j < 64 = omega arith in
    final (bit_at a j) (bit_at b j) (bit_at (bit_not w64 a) j) (bit_at (xor_ring.mul b (bit_not w64 a)) j) (bit_at (bit_not w64 (xor_ring.add a b)) j)
    (carry (bit_not w64 a) b j) (carry (bit_not w64 a) b (j + 1))
    (bit_at-lt a j) (bit_at-lt b j) (bit_at-not a j h lt) (bit_at-anded b (bit_not w64 a) j lt) (bit_at-same a b j lt) (carry_more (bit_not w64 a) b j)
  where
    final : (a b n g p c out : ℕ) → a < 2 → b < 2 → n ≡ 1 - a → g ≡ min b n → p ≡ 1 - (a + b) % 2 → out ≡ carried (min n b) ((n + b) % 2) c
        → out ≡ carried g p c
    final a b n g p c out ha hb e1 e2 e3 e4 = omega arith

less_is : (a b t : ℕ) → (a < b → t ≡ 1) → (b ≤ a → t ≡ 0) → t ≡ less_test a b
less_is a b t yes_ no_ = elim (cases_lt a b) as
    (λ _. t ≡ less_test a b) [ inl lt ↦ grind (arith, nat_tests, yes_ lt) | inr ge ↦ grind (arith, nat_tests, no_ ge) ]

last_carry : (a b : ℕ) → a < 2 ^ 64 → b < 2 ^ 64 → carry (bit_not w64 a) b 64 ≡ less_test a b
last_carry a b ha hb =
    carry_out (bit_not w64 a) b (omega arith) hb ∙ less_is a b ((bit_not w64 a + b) / 2 ^ 64) (λ lt. omega arith) (λ ge. omega arith)

pub less_by_carries : (a b g p : ℕ) → a < 2 ^ 64 → b < 2 ^ 64 → SpansDown (carry (bit_not w64 a) b) 64 g p → g % 2 ≡ less_test a b
less_by_carries a b g p ha hb spans =
    sym (bit_at_lowest g) ∙ down_end (carry (bit_not w64 a) b) (carry-zero (bit_not w64 a) b) g p spans ∙ last_carry a b ha hb

-- ---- equality

abbrev pub AllOnes : ℕ → ℕ → Type 0
AllOnes p s = (j : ℕ) → j < s → bit_at p j ≡ 1

-- each bit joined with the one s above
abbrev pub folded : ℕ → ℕ → ℕ
folded s p = xor_ring.mul p (p / 2 ^ s)

bit_at-folded : (s p j : ℕ) → j < 64 → bit_at (folded s p) j ≡ min (bit_at p j) (bit_at p (s + j))
bit_at-folded s p j lt = bit_at-anded p (p / 2 ^ s) j lt ∙ ap (min (bit_at p j)) (bit_at-shifted_down s p j)

pub AllOnes-folded : (s p : ℕ) → 2 * s ≤ 64 → AllOnes p (2 * s) → AllOnes (folded s p) s
AllOnes-folded s p le ones j lt =
    let here : j < 2 * s = omega arith in
    let above : s + j < 2 * s = omega arith in
    let low = ones j here in
    let high = ones (s + j) above in
    bit_at-folded s p j (omega arith) ∙ ap (λ n. min n (bit_at p (s + j))) low ∙ ap (min 1) high

both_ones : (a b : ℕ) → a < 2 → b < 2 → min a b ≡ 1 → (a ≡ 1) × (b ≡ 1)
both_ones a b ha hb e = (omega arith, omega arith)

pub AllOnes-from_folded : (s p : ℕ) → 2 * s ≤ 64 → AllOnes (folded s p) s → AllOnes p (2 * s)
AllOnes-from_folded s p le ones j lt =
    elim (cases_lt j s) as (λ _. bit_at p j ≡ 1) [
      | inl low ↦ (both_ones (bit_at p j) (bit_at p (s + j)) (bit_at-lt p j) (bit_at-lt p (s + j)) (sym (bit_at-folded s p j (omega arith)) ∙ ones j low)).0
      | inr high ↦ let below : j - s < s = omega arith in
          let within : j - s < 64 = omega arith in
          ap (bit_at p) (omega arith) ∙
          (both_ones (bit_at p (j - s)) (bit_at p (s + (j - s))) (bit_at-lt p (j - s)) (bit_at-lt p (s + (j - s)))
          (sym (bit_at-folded s p (j - s) within) ∙ ones (j - s) below)).1
    ]

same_word : (x y : ℕ) → x < 2 ^ 64 → y < 2 ^ 64 → AllOnes (bit_not w64 (xor_ring.add x y)) 64 → x ≡ y
same_word x y hx hy ones =
    same_from_bits_below 64 x y hx hy (λ j lt. final (bit_at x j) (bit_at y j) (bit_at-lt x j) (bit_at-lt y j) (sym (bit_at-same x y j lt) ∙ ones j lt))
  where
    final : (a b : ℕ) → a < 2 → b < 2 → 1 - (a + b) % 2 ≡ 1 → a ≡ b
    final a b ha hb e = omega arith

ones_of_same : (x y : ℕ) → x ≡ y → AllOnes (bit_not w64 (xor_ring.add x y)) 64
ones_of_same x y e j lt = bit_at-same x y j lt ∙ final (bit_at x j) (bit_at y j) (bit_at-lt x j) (ap (λ n. bit_at n j) e)
  where
    final : (a b : ℕ) → a < 2 → a ≡ b → 1 - (a + b) % 2 ≡ 1
    final a b ha e = omega arith

zero_test_is : (d t : ℕ) → (d ≡ 0 → t ≡ 1) → (0 < d → t ≡ 0) → t ≡ zero_test d
zero_test_is zero t yes_ no_ = yes_ refl
zero_test_is (suc d) t yes_ no_ = no_ (omega arith) ∙ nonzero d
  where
    nonzero : (d : ℕ) → 0 ≡ zero_test (suc d)
    nonzero d = grind (arith, nat_tests)

-- where the bits of p all are 1 exactly where the two words have the same bits, bit 0 tells whether their difference is 0
pub equal_by_ones : (x y p : ℕ) → x < 2 ^ 64 → y < 2 ^ 64 → (AllOnes p 1 → AllOnes (bit_not w64 (xor_ring.add x y)) 64)
    → (AllOnes (bit_not w64 (xor_ring.add x y)) 64 → AllOnes p 1) → p % 2 ≡ zero_test (add_ring.sub x y)
equal_by_ones x y p hx hy down up =
    zero_test_is (add_ring.sub x y) (p % 2)
    (λ e. let same : x ≡ y = omega arith in
    sym (bit_at_lowest p) ∙ up (ones_of_same x y same) 0 (omega arith))
    (λ pos. elim (cases_lt 0 (p % 2)) as (λ _. p % 2 ≡ 0) [
      | inl odd ↦ let one : p % 2 ≡ 1 = omega arith in
          let same : x ≡ y = same_word x y hx hy (down (λ j lt. lowest_one j lt one)) in
          absurd (omega arith)
      | inr even ↦ omega arith
    ])
  where
    lowest_one : (j : ℕ) → j < 1 → p % 2 ≡ 1 → bit_at p j ≡ 1
    lowest_one j lt one = let first : j ≡ 0 = omega arith in ap (bit_at p) first ∙ bit_at_lowest p ∙ one
