-- One bit given anew changes one word.
use Rattle.std.proofs.Common.{◌≡◌, ◌≢◌, ℕ, zero, suc, ◌+◌, ◌*◌, ◌/◌, ◌%◌, ◌^◌, ◌<◌, ◌≤◌, ◌⊎◌, inl, inr, cond, List, length, set}
use Rattle.std.proofs.Common.{sym, ◌∙◌, ap, subst, arith, eq-eqb, ne_eqb, length-set}
use Rattle.std.specs.Int.{bit_at}
use Rattle.std.proofs.lemmas.Bool.{cases_eq, cases_lt}
use Rattle.std.proofs.lemmas.List.{get_or-set_same, get_or-set_other, get_or_past}
use Rattle.std.proofs.lemmas.Nat.{xor_lt, pow_pos}
use Rattle.std.proofs.lemmas.Nat.Bits.{bit_at_xor, bit_at-lt, bit_at-zero, bit_at-pow_same, bit_at-pow_other}
use Rattle.proto_core.specs.Words.{AreWords}
use Rattle.bit_words.specs.Bits.{bit_of, words_with}
use Rattle.bit_words.specs.Gathered.{word, with_bit, bit_put, changed_at}
use Rattle.bit_words.proofs.BitLists.{words_with-words, length-words_with, bit_of-words_with, bit_of-lt, same_words_from_bits}

-- ---- one word

none_of : (n : ℕ) → 0 * n ≡ 0
none_of n = omega arith

-- what is turned: the bit, or nothing
turned-same : (d p : ℕ) → d < 2 → bit_at (d * 2 ^ p) p ≡ d
turned-same zero p h = ap (λ x. bit_at x p) (none_of (2 ^ p)) ∙ bit_at-zero p
turned-same (suc zero) p h = ap (λ x. bit_at x p) (one (2 ^ p)) ∙ bit_at-pow_same p
  where
    one : (n : ℕ) → 1 * n ≡ n
    one n = omega arith
turned-same (suc (suc d)) p h = absurd (omega arith)

turned-other : (d p q : ℕ) → d < 2 → q ≢ p → bit_at (d * 2 ^ p) q ≡ 0
turned-other zero p q h apart = ap (λ x. bit_at x q) (none_of (2 ^ p)) ∙ bit_at-zero q
turned-other (suc zero) p q h apart = ap (λ x. bit_at x q) (one (2 ^ p)) ∙ bit_at-pow_other p q apart
  where
    one : (n : ℕ) → 1 * n ≡ n
    one n = omega arith
turned-other (suc (suc d)) p q h apart = absurd (omega arith)

pub parity-below : (x : ℕ) → x % 2 < 2
parity-below x = omega arith

pub with_bit-same : (x p b : ℕ) → bit_at (with_bit x p b) p ≡ b % 2
with_bit-same x p b =
    let d = (bit_at x p + b) % 2 in
    bit_at_xor x (d * 2 ^ p) p ∙ ap (λ y. (bit_at x p + y) % 2) (turned-same d p (parity-below (bit_at x p + b)))
    ∙ twice (bit_at x p) b (bit_at-lt x p)
  where
    twice : (o b : ℕ) → o < 2 → (o + (o + b) % 2) % 2 ≡ b % 2
    twice o b h = omega arith

pub with_bit-other : (x p b q : ℕ) → q ≢ p → bit_at (with_bit x p b) q ≡ bit_at x q
with_bit-other x p b q apart =
    let d = (bit_at x p + b) % 2 in
    bit_at_xor x (d * 2 ^ p) q ∙ ap (λ y. (bit_at x q + y) % 2) (turned-other d p q (parity-below (bit_at x p + b)) apart)
    ∙ alone (bit_at x q) (bit_at-lt x q)
  where
    alone : (o : ℕ) → o < 2 → (o + 0) % 2 ≡ o
    alone o h = omega arith

pub turned-lt : (d p : ℕ) → d < 2 → p < 64 → d * 2 ^ p < 2 ^ 64
turned-lt zero p h l = subst (λ x. x < 2 ^ 64) (sym (none_of (2 ^ p))) (pow_pos 64)
turned-lt (suc zero) p h l = one (2 ^ p) (Rattle.std.proofs.Math.Pow.pow-lt l)
  where
    one : (n : ℕ) → n < 2 ^ 64 → 1 * n < 2 ^ 64
    one n h = omega arith
turned-lt (suc (suc d)) p h l = absurd (omega arith)

pub with_bit-lt : (x p b : ℕ) → x < 2 ^ 64 → p < 64 → with_bit x p b < 2 ^ 64
with_bit-lt x p b h l =
    let d = (bit_at x p + b) % 2 in
    xor_lt 64 x (d * 2 ^ p) h (turned-lt d p (parity-below (bit_at x p + b)) l)

-- ---- one word of many

small-same : (x y : ℕ) → x ≡ y → y < 2 ^ 64 → x < 2 ^ 64
small-same x y e l = omega arith

set-words : (xs : List ℕ) (j y : ℕ) → AreWords xs → y < 2 ^ 64 → AreWords (set xs j y)
set-words xs j y words small k = go (cases_eq k j) (cases_lt j (length xs))
  where
    past : (x : ℕ) → x ≡ 0 → x < 2 ^ 64
    past x e = omega (arith, e, pow_pos 64)

    go : (k ≡ j) ⊎ (k ≢ j) → (j < length xs) ⊎ (length xs ≤ j) → word (set xs j y) k < 2 ^ 64
    go (inl is) (inl inside) = small-same _ y (ap (word (set xs j y)) is ∙ get_or-set_same xs j y 0 inside) small
    go (inl is) (inr outside) = past _ (get_or_past (set xs j y) k 0 (omega (arith, length-set xs j y, is, outside)))
    go (inr apart) c = small-same _ _ (get_or-set_other xs j k y 0 apart) (words k)

module _ (words : List ℕ) (i : ℕ) (others : List ℕ) (are : AreWords words) where
  abbrev place : ℕ
  place = i / 64

  abbrev bit : ℕ
  bit = bit_of others 0

  abbrev new : ℕ
  new = with_bit (word words place) (i % 64) bit

  abbrev changed : ℕ → ℕ
  changed = changed_at words i bit

  same_place : (k : ℕ) → k / 64 ≡ i / 64 → k % 64 ≡ i % 64 → k ≡ i
  same_place k e f = omega (arith, e, f)

  low : (b : ℕ) → b < 2 → b % 2 ≡ b
  low b h = omega arith

  pub one_word_put : bit_put words i others ≡ set words place new
  unfolding bit_put
  one_word_put =
      same_words_from_bits (words_with (64 * length words) changed) (set words place new)
      (words_with-words (64 * length words) changed)
      (set-words words place new are (with_bit-lt (word words place) (i % 64) bit (are place) (omega arith)))
      (long ∙ sym (length-set words place new))
      (λ k lt. bits k (omega (arith, lt, long)) (cases_eq k i) (cases_eq (k / 64) place))
    where
      long : length (words_with (64 * length words) changed) ≡ length words
      long = length-words_with (64 * length words) changed ∙ whole (length words)
        where
          whole : (n : ℕ) → (64 * n + 63) / 64 ≡ n
          whole n = omega arith

      bits : (k : ℕ) → k < 64 * length words → (k ≡ i) ⊎ (k ≢ i) → (k / 64 ≡ place) ⊎ (k / 64 ≢ place)
          → bit_of (words_with (64 * length words) changed) k ≡ bit_of (set words place new) k
      bits k lt (inl is) c =
          let inside : place < length words = omega (arith, lt, is) in
          bit_of-words_with (64 * length words) changed k lt
          ∙ ap (λ t. cond t bit (bit_of words k) % 2) (eq-eqb k i is)
          ∙ sym (with_bit-same (word words place) (i % 64) bit)
          ∙ sym (ap (λ x. bit_at x (i % 64)) (get_or-set_same words place new 0 inside))
          ∙ ap (λ j. bit_of (set words place new) j) (sym is)
      bits k lt (inr apart) (inl here) =
          let inside : place < length words = omega (arith, lt, here) in
          bit_of-words_with (64 * length words) changed k lt
          ∙ ap (λ t. cond t bit (bit_of words k) % 2) (ne_eqb k i apart)
          ∙ low (bit_of words k) (bit_of-lt words k)
          ∙ ap (λ j. bit_at (word words j) (k % 64)) here
          ∙ sym (with_bit-other (word words place) (i % 64) bit (k % 64) (λ e. apart (same_place k here e)))
          ∙ sym (ap (λ x. bit_at x (k % 64)) (get_or-set_same words place new 0 inside))
          ∙ sym (ap (λ j. bit_at (word (set words place new) j) (k % 64)) here)
      bits k lt (inr apart) (inr other) =
          bit_of-words_with (64 * length words) changed k lt
          ∙ ap (λ t. cond t bit (bit_of words k) % 2) (ne_eqb k i apart)
          ∙ low (bit_of words k) (bit_of-lt words k)
          ∙ sym (ap (λ x. bit_at x (k % 64)) (get_or-set_other words place (k / 64) new 0 other))

-- and of places past the end none
pub no-word : (words : List ℕ) (i : ℕ) (others : List ℕ) → AreWords words → length words ≤ i / 64 → set words (i / 64)
    (with_bit (word words (i / 64)) (i % 64) (bit_of others 0)) ≡ words
no-word words i others are past = Rattle.std.proofs.lemmas.List.set_past words (i / 64) _ past

-- the words with one written anew, and where there is none
pub put_made : (words made : List ℕ) (i : ℕ) (others : List ℕ) (old b r : ℕ) → AreWords words → made ≡ words → old ≡ word made (i / 64)
    → b ≡ bit_of others 0 → r ≡ with_bit old (i % 64) b → set made (i / 64) r ≡ bit_put words i others
put_made words made i others old b r are same is bit new =
    ap (λ x. set made (i / 64) x)
    (new ∙ ap (λ y. with_bit y (i % 64) b) (is ∙ ap (λ l. word l (i / 64)) same) ∙ ap (with_bit (word words (i / 64)) (i % 64)) bit)
    ∙ ap (λ l. set l (i / 64) (with_bit (word words (i / 64)) (i % 64) (bit_of others 0))) same
    ∙ sym (one_word_put words i others are)

pub put_past : (words made : List ℕ) (i : ℕ) (others : List ℕ) → AreWords words → made ≡ words → length words ≤ i / 64 → made ≡ bit_put words i others
put_past words made i others are same past =
    same ∙ sym (no-word words i others are past) ∙ sym (one_word_put words i others are)
