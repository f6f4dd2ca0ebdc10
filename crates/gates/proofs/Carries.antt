-- How carries run through a sum of two words, by generate and propagate bits of blocks that double.
use Rattle.std.proofs.Common.{◌≡◌, ℕ, ◌+◌, ◌-◌, ◌*◌, ◌/◌, ◌%◌, ◌^◌, ◌<◌, ◌≤◌, sym, ◌∙◌, ap, inl, inr, arith}
use Rattle.std.specs.Prelude.{min, bit_xor, bit_and}
use Rattle.std.specs.Int.{bit_at}
use Rattle.std.proofs.lemmas.Nat.{pow_pos, pow-add, mod_below, mod-pow-add, div-add-mod', div_below, shr-shr, shr_high}
use Rattle.std.proofs.lemmas.Nat.Bits.{same_from_bits_below, bit_at_and, bit_at_xor, bit_at-lt, bit_at_cat_low, bit_at_cat_high}
use Rattle.std.proofs.lemmas.Bool.{cases_lt}
use Rattle.proto_core.specs.Rings.{add_ring, xor_ring}

-- ---- one bit

-- what leaves a block of bits: of the bit that it generates, of whether it propagates, and of what comes in
abbrev pub carried : ℕ → ℕ → ℕ → ℕ
carried g p c = (g + min p c) % 2

-- two blocks in a row are one block
pub carried_twice : (g2 p2 g1 p1 c : ℕ) → g2 < 2 → p2 < 2 → g1 < 2 → p1 < 2 → c < 2 → carried g2 p2 (carried g1 p1 c) ≡ carried (carried g2 p2 g1) (min p2 p1) c
carried_twice g2 p2 g1 p1 c hg2 hp2 hg1 hp1 hc = omega arith

half_of_three : (a b c : ℕ) → a < 2 → b < 2 → c < 2 → (a + b + c) / 2 ≡ carried (min a b) ((a + b) % 2) c
half_of_three a b c ha hb hc = omega arith

-- ---- the carries of a sum

-- the carry into bit k of x + y
pub carry : ℕ → ℕ → ℕ → ℕ
carry x y k = (x % 2 ^ k + y % 2 ^ k) / 2 ^ k

pub carry-zero : (x y : ℕ) → carry x y 0 ≡ 0
unfolding carry
carry-zero x y = omega arith

pub carry-lt : (x y k : ℕ) → carry x y k < 2
unfolding carry
carry-lt x y k =
    let pos = pow_pos k in
    let hx : x % 2 ^ k < 2 ^ k = mod_below x (2 ^ k) pos in
    let hy : y % 2 ^ k < 2 ^ k = mod_below y (2 ^ k) pos in
    div_below (x % 2 ^ k + y % 2 ^ k) (2 ^ k) 2 pos (omega arith)

-- the two low parts add up to the carry and a rest
low_parts : (x y k : ℕ) → x % 2 ^ k + y % 2 ^ k ≡ carry x y k * 2 ^ k + (x % 2 ^ k + y % 2 ^ k) % 2 ^ k
unfolding carry
low_parts x y k = sym (div-add-mod' (x % 2 ^ k + y % 2 ^ k) (2 ^ k))

over : (h k r : ℕ) → r < 2 ^ k → (h * 2 ^ k + r) / 2 ^ (k + 1) ≡ h / 2
over h k r lt = sym (shr-shr (h * 2 ^ k + r) k 1) ∙ ap (λ n. n / 2) (shr_high h k r lt)

low_more : (x k : ℕ) → x % 2 ^ (k + 1) ≡ bit_at x k * 2 ^ k + x % 2 ^ k
low_more x k = ap (λ n. x % 2 ^ n) (omega arith) ∙ mod-pow-add x 1 k

joined_parts : (a b c m A B r : ℕ) → A + B ≡ c * m + r → a * m + A + (b * m + B) ≡ (a + b + c) * m + r
joined_parts a b c m A B r e = omega (arith, e)

pub carry_more : (x y k : ℕ) → carry x y (k + 1) ≡ carried (min (bit_at x k) (bit_at y k)) ((bit_at x k + bit_at y k) % 2) (carry x y k)
carry_more x y k =
    unfold carry in
    (ap (λ n. n / 2 ^ (k + 1))
    (ap (λ n. n + y % 2 ^ (k + 1)) (low_more x k) ∙ ap (λ n. bit_at x k * 2 ^ k + x % 2 ^ k + n) (low_more y k)
    ∙ joined_parts (bit_at x k) (bit_at y k) (carry x y k) (2 ^ k) (x % 2 ^ k) (y % 2 ^ k) _ (low_parts x y k))
    ∙ over (bit_at x k + bit_at y k + carry x y k) k _ (mod_below (x % 2 ^ k + y % 2 ^ k) (2 ^ k) (pow_pos k))
    ∙ half_of_three (bit_at x k) (bit_at y k) (carry x y k) (bit_at-lt x k) (bit_at-lt y k) (carry-lt x y k))

parity : (X Y c : ℕ) → (X + Y + c) % 2 ≡ ((X % 2 + Y % 2) % 2 + c) % 2
parity X Y c = omega arith

-- a bit of the sum is its two bits and the carry into it
pub bit_at-sum : (x y k : ℕ) → bit_at (x + y) k ≡ ((bit_at x k + bit_at y k) % 2 + carry x y k) % 2
bit_at-sum x y k =
    ap (λ n. n / 2 ^ k % 2)
    (ap (λ n. n + y) (sym (div-add-mod' x (2 ^ k))) ∙ ap (λ n. x / 2 ^ k * 2 ^ k + x % 2 ^ k + n) (sym (div-add-mod' y (2 ^ k)))
    ∙ joined_parts (x / 2 ^ k) (y / 2 ^ k) (carry x y k) (2 ^ k) (x % 2 ^ k) (y % 2 ^ k) _ (low_parts x y k))
    ∙ ap (λ n. n % 2) (shr_high (x / 2 ^ k + y / 2 ^ k + carry x y k) k _ (mod_below (x % 2 ^ k + y % 2 ^ k) (2 ^ k) (pow_pos k)))
    ∙ parity (x / 2 ^ k) (y / 2 ^ k) (carry x y k)

-- ---- bits of what local gates make

pub bit_at-mod : (x w j : ℕ) → j < w → bit_at (x % 2 ^ w) j ≡ bit_at x j
bit_at-mod x w j lt = sym (bit_at_cat_low (x / 2 ^ w) w (x % 2 ^ w) j lt) ∙ ap (λ n. bit_at n j) (div-add-mod' x (2 ^ w))

pub bit_at-xored : (x y j : ℕ) → j < 64 → bit_at (xor_ring.add x y) j ≡ (bit_at x j + bit_at y j) % 2
bit_at-xored x y j lt = bit_at-mod (bit_xor x y) 64 j lt ∙ bit_at_xor x y j

pub bit_at-anded : (x y j : ℕ) → j < 64 → bit_at (xor_ring.mul x y) j ≡ min (bit_at x j) (bit_at y j)
bit_at-anded x y j lt = bit_at-mod (bit_and x y) 64 j lt ∙ bit_at_and x y j

abbrev pub shifted_up : ℕ → ℕ → ℕ
shifted_up s x = x * 2 ^ s % 2 ^ 64

pub bit_at-shifted_in : (s x j : ℕ) → j < 64 → j < s → bit_at (shifted_up s x) j ≡ 0
bit_at-shifted_in s x j lt low =
    bit_at-mod (x * 2 ^ s) 64 j lt ∙ ap (λ n. bit_at n j) (omega arith) ∙ bit_at_cat_low x s 0 j low ∙ zero_bit j
  where
    zero_bit : (j : ℕ) → bit_at 0 j ≡ 0
    zero_bit j = Rattle.std.proofs.lemmas.Nat.Bits.bit_at-zero j

pub bit_at-shifted_up : (s x j : ℕ) → j < 64 → s ≤ j → bit_at (shifted_up s x) j ≡ bit_at x (j - s)
bit_at-shifted_up s x j lt high =
    bit_at-mod (x * 2 ^ s) 64 j lt ∙ ap (λ n. bit_at n j) (omega arith) ∙ bit_at_cat_high x s 0 j (pow_pos s) high

pub bit_at-shifted_down : (s x j : ℕ) → bit_at (x / 2 ^ s) j ≡ bit_at x (s + j)
bit_at-shifted_down s x j = ap (λ n. n % 2) (shr-shr x s j)

-- ---- carries over blocks that double, upwards: at bit j stand the bits of the block of s bits that ends there

abbrev pub SpansUp : (ℕ → ℕ) → ℕ → ℕ → ℕ → Type 0
SpansUp c s g p = (j : ℕ) → j < 64 → c (j + 1) ≡ carried (bit_at g j) (bit_at p j) (c (j + 1 - s))

abbrev pub up_generate : ℕ → ℕ → ℕ → ℕ
up_generate s g p = xor_ring.add g (xor_ring.mul p (shifted_up s g))

abbrev pub up_propagate : ℕ → ℕ → ℕ
up_propagate s p = xor_ring.mul p (shifted_up s p)

module _ (c : ℕ → ℕ) (none : c 0 ≡ 0) (bound : (k : ℕ) → c k < 2) where
  up_generated : (s g p j q : ℕ) → j < 64 → bit_at (shifted_up s g) j ≡ q → bit_at (up_generate s g p) j ≡ carried (bit_at g j) (bit_at p j) q
  up_generated s g p j q lt e =
      bit_at-xored g (xor_ring.mul p (shifted_up s g)) j lt
      ∙ ap (λ n. (bit_at g j + n) % 2) (bit_at-anded p (shifted_up s g) j lt ∙ ap (min (bit_at p j)) e)

  up_propagated : (s p j q : ℕ) → j < 64 → bit_at (shifted_up s p) j ≡ q → bit_at (up_propagate s p) j ≡ min (bit_at p j) q
  up_propagated s p j q lt e = bit_at-anded p (shifted_up s p) j lt ∙ ap (min (bit_at p j)) e

  low_block : (s g p j : ℕ) → j < 64 → j < s → SpansUp c s g p
      → c (j + 1) ≡ carried (bit_at (up_generate s g p) j) (bit_at (up_propagate s p) j) (c (j + 1 - 2 * s))
  low_block s g p j lt low spans =
      let start : j + 1 - s ≡ 0 = omega arith in
      let start_2 : j + 1 - 2 * s ≡ 0 = omega arith in
      let comes_in : c (j + 1 - s) ≡ 0 = ap c start ∙ none in
      let comes_in_2 : c (j + 1 - 2 * s) ≡ 0 = ap c start_2 ∙ none in
      let g_is : bit_at (up_generate s g p) j ≡ carried (bit_at g j) (bit_at p j) 0 = up_generated s g p j 0 lt (bit_at-shifted_in s g j lt low) in
      let p_is : bit_at (up_propagate s p) j ≡ min (bit_at p j) 0 = up_propagated s p j 0 lt (bit_at-shifted_in s p j lt low) in
      let old = spans j lt in
      let g_bit = bit_at-lt g j in
      final (c (j + 1)) (bit_at g j) (bit_at p j) (c (j + 1 - s)) (bit_at (up_generate s g p) j) (bit_at (up_propagate s p) j)
      (c (j + 1 - 2 * s)) old comes_in g_is p_is comes_in_2 g_bit
    where
      final : (out a b i a2 b2 i2 : ℕ) → out ≡ carried a b i → i ≡ 0 → a2 ≡ carried a b 0 → b2 ≡ min b 0 → i2 ≡ 0 → a < 2 → out ≡ carried a2 b2 i2
      final out a b i a2 b2 i2 e1 e2 e3 e4 e5 h = omega arith

  high_block : (s g p j : ℕ) → j < 64 → s ≤ j → SpansUp c s g p
      → c (j + 1) ≡ carried (bit_at (up_generate s g p) j) (bit_at (up_propagate s p) j) (c (j + 1 - 2 * s))
  high_block s g p j lt high spans =
      let k = j - s in
      let below : j - s < 64 = omega arith in
      let g_is : bit_at (up_generate s g p) j ≡ carried (bit_at g j) (bit_at p j) (bit_at g (j - s)) =
      up_generated s g p j _ lt (bit_at-shifted_up s g j lt high) in
      let p_is : bit_at (up_propagate s p) j ≡ min (bit_at p j) (bit_at p (j - s)) = up_propagated s p j _ lt (bit_at-shifted_up s p j lt high) in
      let at_low : c (j + 1 - s) ≡ c (j - s + 1) = ap c (omega arith) in
      let at_start : c (j - s + 1 - s) ≡ c (j + 1 - 2 * s) = ap c (omega arith) in
      spans j lt
      ∙ ap (carried (bit_at g j) (bit_at p j)) (at_low ∙ spans (j - s) below ∙ ap (carried (bit_at g (j - s)) (bit_at p (j - s))) at_start)
      ∙ carried_twice (bit_at g j) (bit_at p j) (bit_at g (j - s)) (bit_at p (j - s)) (c (j + 1 - 2 * s)) (bit_at-lt g j) (bit_at-lt p j)
      (bit_at-lt g (j - s)) (bit_at-lt p (j - s)) (bound (j + 1 - 2 * s))
      ∙ ap (λ n. carried n (min (bit_at p j) (bit_at p (j - s))) (c (j + 1 - 2 * s))) (sym g_is)
      ∙ ap (λ n. carried (bit_at (up_generate s g p) j) n (c (j + 1 - 2 * s))) (sym p_is)

  pub up_step : (s g p : ℕ) → SpansUp c s g p → SpansUp c (2 * s) (up_generate s g p) (up_propagate s p)
  up_step s g p spans j lt =
      elim (cases_lt j s) as (λ _. c (j + 1) ≡ carried (bit_at (up_generate s g p) j) (bit_at (up_propagate s p) j) (c (j + 1 - 2 * s)))
      [ inl low ↦ low_block s g p j lt low spans | inr high ↦ high_block s g p j lt high spans ]

  -- a block of 64 bits reaches down to bit 0, where nothing comes in
  pub up_end : (g p j : ℕ) → j < 64 → SpansUp c 64 g p → bit_at g j ≡ c (j + 1)
  up_end g p j lt spans =
      let start : j + 1 - 64 ≡ 0 = omega arith in
      final (c (j + 1)) (bit_at g j) (bit_at p j) (c (j + 1 - 64)) (spans j lt) (ap c start ∙ none) (bit_at-lt g j)
    where
      final : (out a b i : ℕ) → out ≡ carried a b i → i ≡ 0 → a < 2 → a ≡ out
      final out a b i e1 e2 h = omega arith

-- ---- carries over blocks that double, downwards: at bit j stand the bits of the block of s bits that begins there

abbrev pub SpansDown : (ℕ → ℕ) → ℕ → ℕ → ℕ → Type 0
SpansDown c s g p = (j : ℕ) → j + s ≤ 64 → c (j + s) ≡ carried (bit_at g j) (bit_at p j) (c j)

abbrev pub down_generate : ℕ → ℕ → ℕ → ℕ
down_generate s g p = xor_ring.add (g / 2 ^ s) (xor_ring.mul (p / 2 ^ s) g)

abbrev pub down_propagate : ℕ → ℕ → ℕ
down_propagate s p = xor_ring.mul (p / 2 ^ s) p

down_generated : (s g p j : ℕ) → j < 64 → bit_at (down_generate s g p) j ≡ carried (bit_at g (s + j)) (bit_at p (s + j)) (bit_at g j)
down_generated s g p j lt =
    bit_at-xored (g / 2 ^ s) (xor_ring.mul (p / 2 ^ s) g) j lt
    ∙ ap (λ n. (n + bit_at (xor_ring.mul (p / 2 ^ s) g) j) % 2) (bit_at-shifted_down s g j)
    ∙ ap (λ n. (bit_at g (s + j) + n) % 2) (bit_at-anded (p / 2 ^ s) g j lt ∙ ap (λ n. min n (bit_at g j)) (bit_at-shifted_down s p j))

down_propagated : (s p j : ℕ) → j < 64 → bit_at (down_propagate s p) j ≡ min (bit_at p (s + j)) (bit_at p j)
down_propagated s p j lt = bit_at-anded (p / 2 ^ s) p j lt ∙ ap (λ n. min n (bit_at p j)) (bit_at-shifted_down s p j)

pub down_step : (c : ℕ → ℕ) → ((k : ℕ) → c k < 2) → (s g p : ℕ) → 0 < s → SpansDown c s g p → SpansDown c (2 * s) (down_generate s g p) (down_propagate s p)
down_step c bound s g p pos spans j le =
    let lt : j < 64 = omega arith in
    let upper : s + j + s ≤ 64 = omega arith in
    let lower : j + s ≤ 64 = omega arith in
    let last : c (j + 2 * s) ≡ c (s + j + s) = ap c (omega arith) in
    let middle : c (s + j) ≡ c (j + s) = ap c (omega arith) in
    last ∙ spans (s + j) upper
    ∙ ap (carried (bit_at g (s + j)) (bit_at p (s + j))) (middle ∙ spans j lower)
    ∙ carried_twice (bit_at g (s + j)) (bit_at p (s + j)) (bit_at g j) (bit_at p j) (c j) (bit_at-lt g (s + j)) (bit_at-lt p (s + j)) (bit_at-lt g j)
    (bit_at-lt p j) (bound j)
    ∙ ap (λ n. carried n (min (bit_at p (s + j)) (bit_at p j)) (c j)) (sym (down_generated s g p j lt))
    ∙ ap (λ n. carried (bit_at (down_generate s g p) j) n (c j)) (sym (down_propagated s p j lt))

-- a block of 64 bits from bit 0 on, where nothing comes in
pub down_end : (c : ℕ → ℕ) → c 0 ≡ 0 → (g p : ℕ) → SpansDown c 64 g p → bit_at g 0 ≡ c 64
down_end c none g p spans =
    let whole : 0 + 64 ≤ 64 = omega arith in
    let last : c (0 + 64) ≡ c 64 = ap c (omega arith) in
    final (c (0 + 64)) (bit_at g 0) (bit_at p 0) (c 0) (c 64) (spans 0 whole) none last (bit_at-lt g 0)
  where
    final : (out a b i out2 : ℕ) → out ≡ carried a b i → i ≡ 0 → out ≡ out2 → a < 2 → a ≡ out2
    final out a b i out2 e1 e2 e3 h = omega arith

-- ---- the sum of two words

pub up_start : (x y : ℕ) → SpansUp (carry x y) 1 (xor_ring.mul x y) (xor_ring.add x y)
up_start x y j lt =
    carry_more x y j
    ∙ ap (λ n. carried n ((bit_at x j + bit_at y j) % 2) (carry x y j)) (sym (bit_at-anded x y j lt))
    ∙ ap (λ n. carried (bit_at (xor_ring.mul x y) j) n (carry x y j)) (sym (bit_at-xored x y j lt))
    ∙ ap (λ n. carried (bit_at (xor_ring.mul x y) j) (bit_at (xor_ring.add x y) j) (carry x y n)) (omega arith)

carry_in : (x y g j : ℕ) → j < 64 → ((j : ℕ) → j < 64 → bit_at g j ≡ carry x y (j + 1)) → bit_at (shifted_up 1 g) j ≡ carry x y j
carry_in x y g j lt is =
    elim (cases_lt j 1) as (λ _. bit_at (shifted_up 1 g) j ≡ carry x y j) [
      | inl low ↦ bit_at-shifted_in 1 g j lt low ∙ sym (carry-zero x y) ∙ ap (carry x y) (omega arith)
      | inr high ↦ let below : j - 1 < 64 = omega arith in
          bit_at-shifted_up 1 g j lt high ∙ is (j - 1) below ∙ ap (carry x y) (omega arith)
    ]

-- the bits of two words, each with the carry into it, are those of their sum
pub sum_by_carries : (x y g p : ℕ) → SpansUp (carry x y) 64 g p → xor_ring.add (xor_ring.add x y) (shifted_up 1 g) ≡ add_ring.add x y
sum_by_carries x y g p spans =
    same_from_bits_below 64 (xor_ring.add (xor_ring.add x y) (shifted_up 1 g)) (add_ring.add x y)
    (mod_below (bit_xor (xor_ring.add x y) (shifted_up 1 g)) (2 ^ 64) (pow_pos 64)) (mod_below (x + y) (2 ^ 64) (pow_pos 64))
    (λ j lt.
    bit_at-xored (xor_ring.add x y) (shifted_up 1 g) j lt
    ∙ ap (λ n. (n + bit_at (shifted_up 1 g) j) % 2) (bit_at-xored x y j lt)
    ∙ ap (λ n. ((bit_at x j + bit_at y j) % 2 + n) % 2) (carry_in x y g j lt (λ i below. up_end (carry x y) (carry-zero x y) (carry-lt x y) g p i below spans))
    ∙ sym (bit_at-mod (x + y) 64 j lt ∙ bit_at-sum x y j))

-- what leaves a sum of two words
pub carry_out : (x y : ℕ) → x < 2 ^ 64 → y < 2 ^ 64 → carry x y 64 ≡ (x + y) / 2 ^ 64
unfolding carry
carry_out x y hx hy = omega arith
