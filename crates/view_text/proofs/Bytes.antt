-- Bytes cut at a byte that stands between parts.
use Rattle.std.proofs.Common.{◌≡◌, ℕ, true, false, List, [], ◌∷◌, ◌++◌, refl, ◌∙◌, ap}
use Rattle.std.specs.Prelude.{◌==◌, bytes_eq}
use Rattle.std.specs.List.{slice_split, onto_first}
use Rattle.std.proofs.lemmas.List.Splits.{slice_split-cons_yes, slice_split-cons_no}
use Rattle.std.proofs.lemmas.Slice.Eq.{bytes_eq-Decides}
use Rattle.view_text.specs.Text.{spaced}

-- this byte doesn't stand in them
abbrev pub Free : ℕ → List ℕ → Type 0
Free c [] = Unit {0}
Free c (x ∷ xs) = ((x == c) ≡ false) × Free c xs

abbrev pub AllFree : ℕ → List (List ℕ) → Type 0
AllFree c [] = Unit {0}
AllFree c (w ∷ ws) = Free c w × AllFree c ws

pub free_append : (c : ℕ) (xs ys : List ℕ) → Free c xs → Free c ys → Free c (xs ++ ys)
free_append c [] ys h g = g
free_append c (x ∷ xs) ys h g = (h.0, free_append c xs ys h.1 g)

pub split_at : (c : ℕ) (xs ys : List ℕ) → Free c xs → (c == c) ≡ true → slice_split (λ x. x == c) (xs ++ c ∷ ys) ≡ xs ∷ slice_split (λ x. x == c) ys
split_at c [] ys h e = slice_split-cons_yes (λ x. x == c) c ys e
split_at c (x ∷ xs) ys h e = slice_split-cons_no (λ y. y == c) x (xs ++ c ∷ ys) h.0 ∙ ap (onto_first x) (split_at c xs ys h.1 e)

pub split_none : (c : ℕ) (xs : List ℕ) → Free c xs → slice_split (λ x. x == c) xs ≡ xs ∷ []
split_none c [] h = refl
split_none c (x ∷ xs) h = slice_split-cons_no (λ y. y == c) x xs h.0 ∙ ap (onto_first x) (split_none c xs h.1)

-- words with spaces between them, cut at the spaces
pub words_back : (w : List ℕ) (ws : List (List ℕ)) → AllFree 32 (w ∷ ws) → slice_split (λ x. x == 32) (spaced (w ∷ ws)) ≡ w ∷ ws
words_back w [] h = split_none 32 w h.0
words_back w (v ∷ vs) h = split_at 32 w (spaced (v ∷ vs)) h.0 refl ∙ ap (λ p. w ∷ p) (words_back v vs h.1)

pub spaced_free : (ws : List (List ℕ)) → AllFree 10 ws → Free 10 (spaced ws)
spaced_free [] h = tt
spaced_free (w ∷ []) h = h.0
spaced_free (w ∷ v ∷ vs) h = free_append 10 w (32 ∷ spaced (v ∷ vs)) h.0 (refl, spaced_free (v ∷ vs) h.1)

pub eq_self : (xs : List ℕ) → bytes_eq xs xs ≡ true
eq_self xs = (bytes_eq-Decides xs xs).1 refl
