-- Words, and zeros after them, cut at a length.
use Rattle.std.proofs.Common.{◌≡◌, ℕ, zero, suc, ◌+◌, ◌-◌, ◌<◌, ◌≤◌, ◌^◌, List, [], ◌∷◌, ◌++◌, All, length, take, refl, ◌∙◌, ap, arith}
use Rattle.std.proofs.lemmas.List.{length-append, length-take-le}
use Rattle.proto_core.specs.Words.{AreWords}
use Rattle.view_text.specs.View.{Words}
use Rattle.view_audit.specs.Found.{padded, zeros}

pub zeros_long : (n : ℕ) → length (zeros n) ≡ n
unfolding zeros
zeros_long zero = refl
zeros_long (suc n) = ap suc (zeros_long n)

pub zeros_words : (n : ℕ) → Words (zeros n)
unfolding zeros
zeros_words zero = tt
zeros_words (suc n) = (omega arith, zeros_words n)

pub append_words : (xs ys : List ℕ) → Words xs → Words ys → Words (xs ++ ys)
append_words [] ys h g = g
append_words (x ∷ xs) ys h g = (h.0, append_words xs ys h.1 g)

take_words : (n : ℕ) (xs : List ℕ) → Words xs → Words (take n xs)
take_words zero xs h = tt
take_words (suc n) [] h = tt
take_words (suc n) (x ∷ xs) h = (h.0, take_words n xs h.1)

pub are_words : (xs : List ℕ) → Words xs → AreWords xs
are_words [] h zero = omega arith
are_words [] h (suc k) = omega arith
are_words (x ∷ xs) h zero = h.0
are_words (x ∷ xs) h (suc k) = are_words xs h.1 k

take_over : (xs ys : List ℕ) (n : ℕ) → length xs ≤ n → take n (xs ++ ys) ≡ xs ++ take (n - length xs) ys
take_over [] ys n h = let same : n ≡ n - 0 = omega arith in ap (λ m. take m ys) same
take_over (x ∷ xs) ys zero h = absurd (omega arith)
take_over (x ∷ xs) ys (suc n) h =
    let same : n - length xs ≡ suc n - length (x ∷ xs) = omega arith in
    ap (λ l. x ∷ l) (take_over xs ys n (omega arith)) ∙ ap (λ m. x ∷ (xs ++ take m ys)) same

pub padded_is : (ws : List ℕ) (size : ℕ) → length ws ≤ size → padded ws size ≡ ws ++ take (size - length ws) (zeros size)
unfolding padded
padded_is ws size h = take_over ws (zeros size) size h

pub padded_long : (ws : List ℕ) (size : ℕ) → length (padded ws size) ≡ size
unfolding padded
padded_long ws size =
    let all : length (ws ++ zeros size) ≡ length ws + length (zeros size) = length-append ws (zeros size) in
    let long = zeros_long size in
    length-take-le size (ws ++ zeros size) (omega (arith, all, long))

pub padded_words : (ws : List ℕ) (size : ℕ) → Words ws → AreWords (padded ws size)
unfolding padded
padded_words ws size h = are_words (take size (ws ++ zeros size)) (take_words size (ws ++ zeros size) (append_words ws (zeros size) h (zeros_words size)))

-- one more that is so, in front of others
pub all_more : {A : Type 0} (P : A → Type 0) (x : A) (xs : List A) → P x → All P xs → All P (x ∷ xs)
all_more P x xs here later zero d lt = here
all_more P x xs here later (suc k) d lt = later k d (omega arith)

pub all_words : (ws : List ℕ) → Words ws → All (λ n. n < 2 ^ 64) ws
all_words [] h = λ k d lt. absurd (omega arith)
all_words (w ∷ ws) h = all_more (λ n. n < 2 ^ 64) w ws h.0 (all_words ws h.1)
