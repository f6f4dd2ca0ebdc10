-- Numbers made of bits.
use Rattle.std.proofs.Common.{◌≡◌, ℕ, zero, suc, ◌+◌, ◌-◌, ◌*◌, ◌%◌, ◌^◌, ◌<◌, ◌≤◌, ◌⊎◌, inl, inr, refl, sym, ◌∙◌, ap, arith, pow-suc, min, bit_xor, bit_and}
use Rattle.std.proofs.Common.{pow_mono}
use Rattle.std.specs.Int.{bit_at}
use Rattle.std.proofs.Math.Nat.{mod-eq_of_lt}
use Rattle.std.proofs.lemmas.Bool.{cases_lt}
use Rattle.std.proofs.lemmas.Nat.{pow_pos, mod_below, xor_lt, xor_block}
use Rattle.std.proofs.lemmas.Nat.Bits.{bit_at_lowest, bit_at-lt, bit_at_cat_low, bit_at_cat_high, bit_at_above, bit_at_xor, bit_at_and, same_from_bits_below}
use Rattle.bit_words.specs.Bits.{number_with}

-- a bit and a number below it
one_more : (b p x : ℕ) → b < 2 → x < p → b * p + x < p * 2
one_more zero p x h l = omega arith
one_more (suc zero) p x h l = omega arith
one_more (suc (suc b)) p x h l = absurd (omega arith)

pub number_with-lt : (n : ℕ) (f : ℕ → ℕ) → number_with n f < 2 ^ n
unfolding number_with
number_with-lt zero f = omega arith
number_with-lt (suc n) f =
    let p : 2 ^ suc n ≡ 2 ^ n * 2 = pow-suc 2 n in
    let l = one_more (f n % 2) (2 ^ n) (number_with n f) (mod_below (f n) 2 (omega arith)) (number_with-lt n f) in
    omega arith

parity_once : (x : ℕ) → x % 2 % 2 ≡ x % 2
parity_once x = omega arith

top_bit : (n : ℕ) (f : ℕ → ℕ) → bit_at (number_with (suc n) f) n ≡ f n % 2
unfolding number_with
top_bit n f =
    let le : n ≤ n = omega arith in
    let none : n - n ≡ 0 = omega arith in
    bit_at_cat_high (f n % 2) n (number_with n f) n (number_with-lt n f) le
    ∙ ap (bit_at (f n % 2)) none ∙ bit_at_lowest (f n % 2) ∙ parity_once (f n)

pub bit_at-number : (n : ℕ) (f : ℕ → ℕ) (k : ℕ) → k < n → bit_at (number_with n f) k ≡ f k % 2
unfolding number_with
bit_at-number zero f k h = absurd (omega arith)
bit_at-number (suc n) f k h = go (bit_at-number n f k) (cases_lt k n)
  where
    go : (k < n → bit_at (number_with n f) k ≡ f k % 2) → (k < n) ⊎ (n ≤ k) → bit_at (f n % 2 * 2 ^ n + number_with n f) k ≡ f k % 2
    go rest (inl below) = bit_at_cat_low (f n % 2) n (number_with n f) k below ∙ rest below
    go rest (inr from) =
        let is : k ≡ n = omega arith in
        ap (bit_at (number_with (suc n) f)) is ∙ top_bit n f ∙ ap (λ j. f j % 2) (sym is)

pub bit_at-number-above : (n : ℕ) (f : ℕ → ℕ) (k : ℕ) → n ≤ k → bit_at (number_with n f) k ≡ 0
bit_at-number-above n f k h = bit_at_above (number_with n f) n k (number_with-lt n f) h

pub number_with-ext : (n : ℕ) (f g : ℕ → ℕ) → ((k : ℕ) → k < n → f k % 2 ≡ g k % 2) → number_with n f ≡ number_with n g
unfolding number_with
number_with-ext zero f g h = refl
number_with-ext (suc n) f g h =
    ap (λ b. b * 2 ^ n + number_with n f) (h n (omega arith))
    ∙ ap (λ x. g n % 2 * 2 ^ n + x) (number_with-ext n f g (λ k l. h k (omega arith)))

-- a number below 2 ^ n is that of its bits
pub number_of_bits : (n x : ℕ) → x < 2 ^ n → number_with n (bit_at x) ≡ x
number_of_bits n x h =
    same_from_bits_below n _ _ (number_with-lt n (bit_at x)) h
    (λ k l. bit_at-number n (bit_at x) k l ∙ mod-eq_of_lt (bit_at-lt x k))

pub parity_sum : (x y : ℕ) → (x % 2 + y % 2) % 2 ≡ (x + y) % 2
parity_sum x y = omega arith

pub number-xor : (n : ℕ) (f g : ℕ → ℕ) → bit_xor (number_with n f) (number_with n g) ≡ number_with n (λ k. f k + g k)
number-xor n f g =
    same_from_bits_below n _ _ (xor_lt n (number_with n f) (number_with n g) (number_with-lt n f) (number_with-lt n g)) (number_with-lt n (λ k. f k + g k))
    (λ k l.
    bit_at_xor (number_with n f) (number_with n g) k
    ∙ ap (λ b. (b + bit_at (number_with n g) k) % 2) (bit_at-number n f k l)
    ∙ ap (λ b. (f k % 2 + b) % 2) (bit_at-number n g k l)
    ∙ parity_sum (f k) (g k) ∙ sym (bit_at-number n (λ k. f k + g k) k l))

small_parity : (b : ℕ) → b < 2 → b % 2 ≡ b
small_parity b h = omega arith

least_bit : (x y : ℕ) → min (x % 2) (y % 2) ≡ min (x % 2) (y % 2) % 2
least_bit x y = omega arith

and-lt : (n a b : ℕ) → a < 2 ^ n → bit_and a b < 2 ^ n
and-lt n a b h = let le = Rattle.std.proofs.lemmas.Nat.and_le_l a b in omega arith

pub number-and : (n : ℕ) (f g : ℕ → ℕ) → bit_and (number_with n f) (number_with n g) ≡ number_with n (λ k. min (f k % 2) (g k % 2))
number-and n f g =
    same_from_bits_below n _ _ (and-lt n (number_with n f) (number_with n g) (number_with-lt n f)) (number_with-lt n (λ k. min (f k % 2) (g k % 2)))
    (λ k l.
    bit_at_and (number_with n f) (number_with n g) k
    ∙ ap (λ b. min b (bit_at (number_with n g) k)) (bit_at-number n f k l)
    ∙ ap (λ b. min (f k % 2) b) (bit_at-number n g k l)
    ∙ least_bit (f k) (g k) ∙ sym (bit_at-number n (λ k. min (f k % 2) (g k % 2)) k l))

-- a bit more on top
pub number_more : (f : ℕ → ℕ) (k m b x : ℕ) → m ≡ k + 1 → x ≡ number_with k f → b ≡ f k % 2 → x + b * 2 ^ k ≡ number_with m f
unfolding number_with
number_more f k m b x e is bit =
    let s : m ≡ suc k = omega arith in
    turned (f k % 2 * 2 ^ k) (number_with k f) (ap (λ y. y + b * 2 ^ k) is ∙ ap (λ c. number_with k f + c * 2 ^ k) bit) ∙ ap (λ j. number_with j f) (sym s)
  where
    turned : (p q : ℕ) → x + b * 2 ^ k ≡ q + p → x + b * 2 ^ k ≡ p + q
    turned p q h = omega (arith, h)

-- a bit that is shifted within a word
pub bit_shifted : (b k : ℕ) → b < 2 → k < 64 → b * 2 ^ k % 2 ^ 64 ≡ b * 2 ^ k
bit_shifted zero k h l = omega arith
bit_shifted (suc zero) k h l = Rattle.std.proofs.lemmas.Nat.one_shl k 64 l ∙ one (2 ^ k)
  where
    one : (n : ℕ) → n ≡ 1 * n
    one n = omega arith
bit_shifted (suc (suc b)) k h l = absurd (omega arith)

-- and fits a word
pub fits_more : (f : ℕ → ℕ) (k b x : ℕ) → k < 64 → x ≡ number_with k f → b ≡ f k % 2 → x + b * 2 ^ k % 2 ^ 64 < 2 ^ 64
fits_more f k b x l is bit =
    let low : b < 2 = omega (arith, bit) in
    let next : x + b * 2 ^ k ≡ number_with (k + 1) f = number_more f k (k + 1) b x refl is bit in
    let small = number_with-lt (k + 1) f in
    let le : k + 1 ≤ 64 = omega arith in
    let wide : 2 ^ (k + 1) ≤ 2 ^ 64 = pow_mono le in
    let whole = bit_shifted b k low l in
    omega (arith, next, small, wide, whole)
