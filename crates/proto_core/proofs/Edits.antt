-- A list whose words are changed one after another, from the first on.
use Rattle.std.proofs.Common.{◌≡◌, ℕ, ◌+◌, ◌-◌, ◌<◌, ◌≤◌, List, [], ◌∷◌, ◌++◌, length, drop, set, refl, sym, ◌∙◌, ap, arith, length-drop, append_assoc}
use Rattle.std.proofs.lemmas.List.{get_or-append_right, get_or-drop, set-append_right, drop-set, drop-set-add, drop_all, append-nil, length-append}
use Rattle.proto_core.specs.Lists.{at, each}
use Rattle.proto_core.proofs.Each.{length-each, each_more}

-- the first i words are f of their indices, the others are as they were
unfoldable pub edited : ℕ → (ℕ → ℕ) → List ℕ → List ℕ
edited i f xs = each i f ++ drop i xs

pub edited_none : (f : ℕ → ℕ) (xs : List ℕ) → edited 0 f xs ≡ xs
unfolding edited each
edited_none f xs = refl

pub length-edited : (i : ℕ) (f : ℕ → ℕ) (xs : List ℕ) → i ≤ length xs → length (edited i f xs) ≡ length xs
unfolding edited
length-edited i f xs le = omega (arith, length-append (each i f) (drop i xs), length-each i f, length-drop i xs)

pub at-edited : (i : ℕ) (f : ℕ → ℕ) (xs : List ℕ) → at (edited i f xs) i ≡ at xs i
unfolding edited
at-edited i f xs =
    get_or-append_right (each i f) (drop i xs) i i 0 (length-each i f) (omega arith)
    ∙ get_or-drop i xs (i - i) 0
    ∙ ap (λ k. at xs k) (omega arith)

pub set-edited : (i : ℕ) (f : ℕ → ℕ) (xs : List ℕ) → i < length xs → set (edited i f xs) i (f i) ≡ edited (i + 1) f xs
unfolding edited
set-edited i f xs h =
    set-append_right (each i f) (drop i xs) i i (f i) (length-each i f) (omega arith)
    ∙ ap (λ k. each i f ++ set (drop i xs) k (f i)) (omega arith)
    ∙ ap (λ ys. each i f ++ ys) (sym (drop-set-add i xs 0 (f i)) ∙ ap (λ k. drop i (set xs k (f i))) (omega arith) ∙ drop-set xs i (f i) h)
    ∙ sym (append_assoc (each i f) (f i ∷ []) (drop (i + 1) xs))
    ∙ ap (λ ys. ys ++ drop (i + 1) xs) (sym (each_more i f))

pub edited_all : (n : ℕ) (f : ℕ → ℕ) (xs : List ℕ) → length xs ≡ n → edited n f xs ≡ each n f
unfolding edited
edited_all n f xs e = ap (λ ys. each n f ++ ys) (drop_all n xs (omega arith)) ∙ append-nil (each n f)

-- one step of a loop that puts w in the place of the word at i, and what such a loop has made at its end
pub edited_more :
    (i : ℕ) (f : ℕ → ℕ) (xs before after : List ℕ) (w : ℕ) →
    i < length xs → before ≡ edited i f xs → w ≡ f i → after ≡ set before i w → after ≡ edited (i + 1) f xs
edited_more i f xs before after w h was is put =
    put ∙ ap (λ ys. set ys i w) was ∙ ap (λ y. set (edited i f xs) i y) is ∙ set-edited i f xs h

pub edited_done : (n i : ℕ) (f : ℕ → ℕ) (xs ys : List ℕ) → i ≡ n → length xs ≡ n → ys ≡ edited i f xs → ys ≡ each n f
edited_done n i f xs ys done e is = is ∙ ap (λ k. edited k f xs) done ∙ edited_all n f xs e

-- what a loop that changes the word at each index needs
pub ruleset edit_steps = (edited_none, length-edited, at-edited)
