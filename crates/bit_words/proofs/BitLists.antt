-- Lists of words by their bits.
use Rattle.std.proofs.Common.{◌≡◌, ℕ, zero, suc, ◌+◌, ◌-◌, ◌*◌, ◌/◌, ◌%◌, ◌^◌, ◌<◌, ◌≤◌, ◌⊎◌, inl, inr, Bool, true, false, cond, List, length, map, get_or}
use Rattle.std.proofs.Common.{refl, sym, ◌∙◌, ap, arith, min, nat_lt, bit_xor, bit_and, lt-ltb, ext_get_or}
use Rattle.std.specs.List.{zip}
use Rattle.std.specs.Int.{bit_at}
use Rattle.std.proofs.Math.Nat.{mod-eq_of_lt}
use Rattle.std.proofs.lemmas.Bool.{cases_lt}
use Rattle.std.proofs.lemmas.List.{get_or_past, length-map, get_or-map}
use Rattle.std.proofs.lemmas.List.FromFn.{length-map-range_with_len, get_or-map-range_with_len}
use Rattle.std.proofs.lemmas.Slice.Zip.{length-zip, get_or-zip}
use Rattle.std.proofs.lemmas.Nat.{pow_pos, mod_below, xor_lt}
use Rattle.std.proofs.lemmas.Nat.Bits.{bit_at-lt, bit_at-zero, bit_at_xor, same_from_bits_below}
use Rattle.proto_core.specs.Words.{AreWords}
use Rattle.proto_core.specs.Rings.{xor_ring}
use Rattle.bit_words.specs.Bits.{words_for, bit_of, cut_at, word_with, words_with}
use Rattle.bit_words.specs.Gathered.{word}
use Rattle.bit_words.specs.Laws.{each_two}
use Rattle.bit_words.proofs.Numbers.{number_with-lt, bit_at-number, number_with-ext, number-xor, number-and}

-- ---- places

place_word : (j i : ℕ) → i < 64 → (64 * j + i) / 64 ≡ j
place_word j i h = omega arith

place_bit : (j i : ℕ) → i < 64 → (64 * j + i) % 64 ≡ i
place_bit j i h = omega arith

place_again : (k : ℕ) → 64 * (k / 64) + k % 64 ≡ k
place_again k = omega arith

pub word_there : (n k : ℕ) → k < n → k / 64 < words_for n
word_there n k h = omega arith

pub below_words : (n k : ℕ) → k < 64 * n → k / 64 < n
below_words n k h = omega arith

pub bit_of-lt : (words : List ℕ) (k : ℕ) → bit_of words k < 2
bit_of-lt words k = bit_at-lt (get_or words (k / 64) 0) (k % 64)

pub bit_of-past : (words : List ℕ) (k : ℕ) → length words ≤ k / 64 → bit_of words k ≡ 0
bit_of-past words k h = ap (λ x. bit_at x (k % 64)) (get_or_past words (k / 64) 0 h) ∙ bit_at-zero (k % 64)

-- ---- words of bits

pub cut_below : (n : ℕ) (f : ℕ → ℕ) (k : ℕ) → k < n → cut_at n f k ≡ f k
cut_below n f k h = ap (λ t. cond t (f k) 0) (lt-ltb k n h)

pub cut_past : (n : ℕ) (f : ℕ → ℕ) (k : ℕ) → n ≤ k → cut_at n f k ≡ 0
cut_past n f k h = ap (λ t. cond t (f k) 0) (Rattle.std.proofs.Common.le-ltb k n h)

pub length-words_with : (n : ℕ) (f : ℕ → ℕ) → length (words_with n f) ≡ words_for n
unfolding words_with
length-words_with n f = length-map-range_with_len (word_with n f) 0 (words_for n)

pub word-words_with : (n : ℕ) (f : ℕ → ℕ) (j : ℕ) → j < words_for n → word (words_with n f) j ≡ word_with n f j
unfolding words_with
word-words_with n f j h = get_or-map-range_with_len (word_with n f) 0 (words_for n) j j 0 h (omega arith)

pub word_with-lt : (n : ℕ) (f : ℕ → ℕ) (j : ℕ) → word_with n f j < 2 ^ 64
word_with-lt n f j = number_with-lt 64 (λ k. cut_at n f (64 * j + k))

small_word : (x : ℕ) → x ≡ 0 → x < 2 ^ 64
small_word x e = omega arith

same_small : (x y : ℕ) → x ≡ y → y < 2 ^ 64 → x < 2 ^ 64
same_small x y e l = omega arith

pub words_with-words : (n : ℕ) (f : ℕ → ℕ) → AreWords (words_with n f)
words_with-words n f j = go (cases_lt j (words_for n))
  where
    go : (j < words_for n) ⊎ (words_for n ≤ j) → word (words_with n f) j < 2 ^ 64
    go (inl below) = same_small _ _ (word-words_with n f j below) (word_with-lt n f j)
    go (inr past) =
        let long = length-words_with n f in
        small_word _ (get_or_past (words_with n f) j 0 (omega arith))

bit_of-inside : (n : ℕ) (f : ℕ → ℕ) (k : ℕ) → k / 64 < words_for n → bit_of (words_with n f) k ≡ cut_at n f k % 2
bit_of-inside n f k h =
    let low : k % 64 < 64 = omega arith in
    ap (λ x. bit_at x (k % 64)) (word-words_with n f (k / 64) h)
    ∙ bit_at-number 64 (λ i. cut_at n f (64 * (k / 64) + i)) (k % 64) low
    ∙ ap (λ i. cut_at n f i % 2) (place_again k)

pub bit_of-words_with : (n : ℕ) (f : ℕ → ℕ) (k : ℕ) → k < n → bit_of (words_with n f) k ≡ f k % 2
bit_of-words_with n f k h = bit_of-inside n f k (word_there n k h) ∙ ap (λ b. b % 2) (cut_below n f k h)

-- no surplus bits
pub bit_of-behind : (n : ℕ) (f : ℕ → ℕ) (k : ℕ) → n ≤ k → bit_of (words_with n f) k ≡ 0
bit_of-behind n f k h = go (cases_lt (k / 64) (words_for n))
  where
    go : (k / 64 < words_for n) ⊎ (words_for n ≤ k / 64) → bit_of (words_with n f) k ≡ 0
    go (inl there) = bit_of-inside n f k there ∙ ap (λ b. b % 2) (cut_past n f k h)
    go (inr past) = let long = length-words_with n f in bit_of-past (words_with n f) k (omega arith)

-- ---- equal lists

word_by_bits : (xs ys : List ℕ) (j : ℕ) → ((i : ℕ) → i < 64 → bit_of xs (64 * j + i) ≡ bit_of ys (64 * j + i)) → (i : ℕ) → i < 64
    → bit_at (word xs j) i ≡ bit_at (word ys j) i
word_by_bits xs ys j h i l =
    ap (λ p. bit_at (word xs p) i) (sym (place_word j i l)) ∙ ap (bit_at (word xs ((64 * j + i) / 64))) (sym (place_bit j i l))
    ∙ h i l
    ∙ ap (bit_at (word ys ((64 * j + i) / 64))) (place_bit j i l) ∙ ap (λ p. bit_at (word ys p) i) (place_word j i l)

pub same_words_from_bits : (xs ys : List ℕ) → AreWords xs → AreWords ys → length xs ≡ length ys
    → ((k : ℕ) → k < 64 * length xs → bit_of xs k ≡ bit_of ys k) → xs ≡ ys
same_words_from_bits xs ys p q long h =
    ext_get_or 0 xs ys long
    (λ j l. same_from_bits_below 64 (word xs j) (word ys j) (p j) (q j) (word_by_bits xs ys j (λ i lt. h (64 * j + i) (omega arith))))

-- words of as many bits are equal where those bits are
pub words_with-ext : (n : ℕ) (f g : ℕ → ℕ) → ((k : ℕ) → k < n → f k % 2 ≡ g k % 2) → words_with n f ≡ words_with n g
words_with-ext n f g h =
    same_words_from_bits (words_with n f) (words_with n g) (words_with-words n f) (words_with-words n g)
    (length-words_with n f ∙ sym (length-words_with n g)) (λ k l. go k (cases_lt k n))
  where
    go : (k : ℕ) → (k < n) ⊎ (n ≤ k) → bit_of (words_with n f) k ≡ bit_of (words_with n g) k
    go k (inl below) = bit_of-words_with n f k below ∙ h k below ∙ sym (bit_of-words_with n g k below)
    go k (inr from) = bit_of-behind n f k from ∙ sym (bit_of-behind n g k from)

-- words without surplus bits are those of their bits
pub words_with_own : (n : ℕ) (xs : List ℕ) → AreWords xs → length xs ≡ words_for n → ((k : ℕ) → n ≤ k → k < 64 * length xs → bit_of xs k ≡ 0)
    → words_with n (bit_of xs) ≡ xs
words_with_own n xs p long none =
    same_words_from_bits (words_with n (bit_of xs)) xs (words_with-words n (bit_of xs)) p (length-words_with n (bit_of xs) ∙ sym long)
    (λ k l. go k (omega (arith, length-words_with n (bit_of xs))) (cases_lt k n))
  where
    go : (k : ℕ) → k < 64 * length xs → (k < n) ⊎ (n ≤ k) → bit_of (words_with n (bit_of xs)) k ≡ bit_of xs k
    go k l (inl below) = bit_of-words_with n (bit_of xs) k below ∙ mod-eq_of_lt (bit_of-lt xs k)
    go k l (inr from) = bit_of-behind n (bit_of xs) k from ∙ sym (none k from l)

-- ---- two lists, word by word

pub length-each_two : (f : ℕ → ℕ → ℕ) (xs ys : List ℕ) → length xs ≡ length ys → length (each_two f xs ys) ≡ length xs
length-each_two f xs ys e =
    length-map (zip xs ys) (λ (p : ℕ × ℕ). f p.0 p.1) ∙ omega (arith, length-zip xs ys)

pub word-each_two : (f : ℕ → ℕ → ℕ) (xs ys : List ℕ) (j : ℕ) → j < length xs → length xs ≡ length ys → word (each_two f xs ys) j ≡ f (word xs j) (word ys j)
word-each_two f xs ys j l e =
    let second : j < length ys = omega arith in
    let both : j < length (zip xs ys) = omega (arith, length-zip xs ys) in
    get_or-map (λ (p : ℕ × ℕ). f p.0 p.1) (zip xs ys) j (0, 0) 0 both ∙ ap (λ (p : ℕ × ℕ). f p.0 p.1) (get_or-zip xs ys j (0, 0) l second)

-- by what stands at each place
pub words_by : (n : ℕ) (f : ℕ → ℕ) (xs : List ℕ) → length xs ≡ words_for n → ((j : ℕ) → j < words_for n → word xs j ≡ word_with n f j) → xs ≡ words_with n f
words_by n f xs long h =
    ext_get_or 0 xs (words_with n f) (long ∙ sym (length-words_with n f))
    (λ j l. let below : j < words_for n = omega (arith, long) in h j below ∙ sym (word-words_with n f j below))

cut_two : (h : ℕ → ℕ → ℕ) → h 0 0 ≡ 0 → (n : ℕ) (f g : ℕ → ℕ) (k : ℕ) → h (cut_at n f k) (cut_at n g k) ≡ cut_at n (λ k. h (f k) (g k)) k
cut_two h none n f g k = go (nat_lt k n)
  where
    go : (t : Bool) → h (cond t (f k) 0) (cond t (g k) 0) ≡ cond t (h (f k) (g k)) 0
    go true = refl
    go false = none

pub words_with-xor : (n : ℕ) (f g : ℕ → ℕ) → each_two xor_ring.add (words_with n f) (words_with n g) ≡ words_with n (λ k. f k + g k)
words_with-xor n f g =
    words_by n (λ k. f k + g k) _ (length-each_two xor_ring.add (words_with n f) (words_with n g) same ∙ length-words_with n f)
    (λ j l. word-each_two xor_ring.add (words_with n f) (words_with n g) j (omega (arith, length-words_with n f)) same
    ∙ ap (λ x. xor_ring.add x (word (words_with n g) j)) (word-words_with n f j l) ∙ ap (xor_ring.add (word_with n f j)) (word-words_with n g j l)
    ∙ mod-eq_of_lt (xor_lt 64 (word_with n f j) (word_with n g j) (word_with-lt n f j) (word_with-lt n g j))
    ∙ number-xor 64 (λ k. cut_at n f (64 * j + k)) (λ k. cut_at n g (64 * j + k))
    ∙ number_with-ext 64 _ _ (λ k _. ap (λ x. x % 2) (cut_two (λ x y. x + y) refl n f g (64 * j + k))))
  where
    same : length (words_with n f) ≡ length (words_with n g)
    same = length-words_with n f ∙ sym (length-words_with n g)

and-small : (a b : ℕ) → a < 2 ^ 64 → bit_and a b % 2 ^ 64 ≡ bit_and a b
and-small a b h = let le = Rattle.std.proofs.lemmas.Nat.and_le_l a b in mod-eq_of_lt (omega arith)

pub words_with-and : (n : ℕ) (f g : ℕ → ℕ) → each_two xor_ring.mul (words_with n f) (words_with n g) ≡ words_with n (λ k. min (f k % 2) (g k % 2))
words_with-and n f g =
    words_by n (λ k. min (f k % 2) (g k % 2)) _ (length-each_two xor_ring.mul (words_with n f) (words_with n g) same ∙ length-words_with n f)
    (λ j l. word-each_two xor_ring.mul (words_with n f) (words_with n g) j (omega (arith, length-words_with n f)) same
    ∙ ap (λ x. xor_ring.mul x (word (words_with n g) j)) (word-words_with n f j l) ∙ ap (xor_ring.mul (word_with n f j)) (word-words_with n g j l)
    ∙ and-small (word_with n f j) (word_with n g j) (word_with-lt n f j)
    ∙ number-and 64 (λ k. cut_at n f (64 * j + k)) (λ k. cut_at n g (64 * j + k))
    ∙ number_with-ext 64 _ _ (λ k _. ap (λ x. x % 2) (cut_two (λ x y. min (x % 2) (y % 2)) refl n f g (64 * j + k))))
  where
    same : length (words_with n f) ≡ length (words_with n g)
    same = length-words_with n f ∙ sym (length-words_with n g)

-- a bit of the xor of two lists
pub bit_of-xor : (xs ys : List ℕ) → AreWords xs → AreWords ys → length xs ≡ length ys → (k : ℕ) → k / 64 < length xs
    → bit_of (each_two xor_ring.add xs ys) k ≡ (bit_of xs k + bit_of ys k) % 2
bit_of-xor xs ys p q e k l =
    ap (λ x. bit_at x (k % 64)) (word-each_two xor_ring.add xs ys (k / 64) l e
    ∙ mod-eq_of_lt (xor_lt 64 (word xs (k / 64)) (word ys (k / 64)) (p (k / 64)) (q (k / 64))))
    ∙ bit_at_xor (word xs (k / 64)) (word ys (k / 64)) (k % 64)
