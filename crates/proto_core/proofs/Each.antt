-- Lists by index.
use Rattle.std.proofs.Common.{◌≡◌, ℕ, ◌+◌, ◌<◌, ◌≤◌, ◌^◌, List, [], ◌∷◌, ◌++◌, length, refl, sym, ◌∙◌, inl, inr, arith}
use Rattle.std.proofs.lemmas.List.{ext_get_or, get_or_past}
use Rattle.std.proofs.lemmas.List.FromFn.{length-map-range_with_len, get_or-map-range_with_len, map-range_with_len_more}
use Rattle.std.proofs.lemmas.Bool.{cases_lt}
use Rattle.proto_core.specs.Lists.{at, each, AreWords}

pub length-each : (n : ℕ) (f : ℕ → ℕ) → length (each n f) ≡ n
unfolding each
length-each n f = length-map-range_with_len f 0 n

pub at-each : (n : ℕ) (f : ℕ → ℕ) (k : ℕ) → k < n → at (each n f) k ≡ f k
unfolding each
at-each n f k h = get_or-map-range_with_len f 0 n k k 0 h (omega arith)

pub at-each_past : (n : ℕ) (f : ℕ → ℕ) (k : ℕ) → n ≤ k → at (each n f) k ≡ 0
at-each_past n f k h = get_or_past (each n f) k 0 (omega (arith, length-each n f))

pub each_none : (f : ℕ → ℕ) → each 0 f ≡ []
unfolding each
each_none f = refl

pub each_more : (n : ℕ) (f : ℕ → ℕ) → each (n + 1) f ≡ each n f ++ f n ∷ []
unfolding each
each_more n f = map-range_with_len_more f 0 n n (omega arith)

pub each-ext : (n : ℕ) (f g : ℕ → ℕ) → ((k : ℕ) → k < n → f k ≡ g k) → each n f ≡ each n g
each-ext n f g h =
    ext_get_or 0 (each n f) (each n g) (length-each n f ∙ sym (length-each n g))
    (λ k lt. let below : k < n = omega (arith, length-each n f) in at-each n f k below ∙ h k below ∙ sym (at-each n g k below))

pub same_words : (n : ℕ) (xs ys : List ℕ) → length xs ≡ n → length ys ≡ n → ((k : ℕ) → k < n → at xs k ≡ at ys k) → xs ≡ ys
same_words n xs ys e f h = ext_get_or 0 xs ys (e ∙ sym f) (λ k lt. h k (omega arith))

-- a list is each of its words
pub each-at : (n : ℕ) (xs : List ℕ) → length xs ≡ n → each n (λ k. at xs k) ≡ xs
each-at n xs e =
    ext_get_or 0 (each n (λ k. at xs k)) xs (length-each n (λ k. at xs k) ∙ sym e)
    (λ k lt. let below : k < n = omega (arith, length-each n (λ j. at xs j)) in at-each n (λ j. at xs j) k below)

pub each-is : (n : ℕ) (f : ℕ → ℕ) (xs : List ℕ) → length xs ≡ n → ((k : ℕ) → k < n → f k ≡ at xs k) → each n f ≡ xs
each-is n f xs e h = each-ext n f (λ k. at xs k) h ∙ each-at n xs e

pub AreWords-each : (n : ℕ) (f : ℕ → ℕ) → ((k : ℕ) → f k < 2 ^ 64) → AreWords (each n f)
AreWords-each n f h k =
    elim (cases_lt k n) as (λ c. at (each n f) k < 2 ^ 64)
    [ inl below ↦ small _ _ (at-each n f k below) (h k) | inr past ↦ small _ _ (at-each_past n f k past) (omega arith) ]
  where
    small : (x y : ℕ) → x ≡ y → y < 2 ^ 64 → x < 2 ^ 64
    small x y e l = omega arith

-- what a loop that pushes f of each index needs
pub ruleset each_steps = (length-each, each_none, each_more)
