-- A function is found by the number of its name.
use Rattle.std.proofs.Common.{◌≡◌, ℕ, zero, suc, ◌+◌, ◌<◌, length, get_or, List, [], ◌∷◌, refl, sym, ap, ◌∙◌, Option, Some, None, Bool, true, false}
use Rattle.std.proofs.Common.{cond, arith}
use Rattle.std.specs.Prelude.{map, bytes_eq, option_map}
use Rattle.std.specs.List.{slice_get}
use denote.Ref.{Bor}
use Rattle.program_trees.specs.declared.function.Function.{Function}
use Rattle.declarations.specs.Declarations.{number_in, function_named, defined}
use Rattle.declarations.specs.Named.{name_of}
use Rattle.declarations.specs.Views.{tree_at}

pub unnamed : (x : List ℕ) (n : ℕ) (fs : List (Bor Function)) → number_in x (map name_of fs) ≡ None → function_named x n (map tree_at fs) ≡ None
unnamed x n [] e = refl
unnamed x n (f ∷ fs) e = go (bytes_eq x (name_of f)) (number_in x (map name_of fs)) e (unnamed x (n + 1) fs)
  where
    go : (b : Bool) (o : Option ℕ) → cond b (Some 0) (option_map (λ k. k + 1) o) ≡ None
        → (o ≡ None → function_named x (n + 1) (map tree_at fs) ≡ None)
        → cond b (Some (defined n (tree_at f))) (function_named x (n + 1) (map tree_at fs)) ≡ None
    go true o e rest = cc
    go false None e rest = rest refl
    go false (Some k) e rest = cc

pub named_at : (x : List ℕ) (n : ℕ) (fs : List (Bor Function)) (k : ℕ) (g : Bor Function) → number_in x (map name_of fs) ≡ Some k
    → slice_get fs k ≡ Some g → function_named x n (map tree_at fs) ≡ Some (defined (n + k) (tree_at g))
named_at x n [] k g e i = cc
named_at x n (f ∷ fs) k g e i = go (bytes_eq x (name_of f)) (number_in x (map name_of fs)) e (λ m. named_at x (n + 1) fs m g)
  where
    go : (b : Bool) (o : Option ℕ) → cond b (Some 0) (option_map (λ k. k + 1) o) ≡ Some k
        → ((m : ℕ) → o ≡ Some m → slice_get fs m ≡ Some g → function_named x (n + 1) (map tree_at fs) ≡ Some (defined (n + 1 + m) (tree_at g)))
        → cond b (Some (defined n (tree_at f))) (function_named x (n + 1) (map tree_at fs)) ≡ Some (defined (n + k) (tree_at g))
    go true o e rest =
        let zero_is : k ≡ 0 = cc in
        let here : slice_get (f ∷ fs) 0 ≡ Some g = ap (slice_get (f ∷ fs)) (sym zero_is) ∙ i in
        let same : f ≡ g = cc in
        let count : n ≡ n + k = omega arith in
        ap Some (ap (λ m. defined m (tree_at f)) count ∙ ap (λ h. defined (n + k) (tree_at h)) same)
    go false None e rest = cc
    go false (Some m) e rest =
        let next : k ≡ m + 1 = cc in
        let here : slice_get (f ∷ fs) (m + 1) ≡ Some g = ap (slice_get (f ∷ fs)) (sym next) ∙ i in
        let step : m + 1 ≡ suc m = omega arith in
        let there : slice_get fs m ≡ Some g = sym (ap (slice_get (f ∷ fs)) step) ∙ here in
        rest m refl there ∙ ap (λ c. Some (defined c (tree_at g))) (omega arith)

pub nowhere : (x : List ℕ) (fs : List (Bor Function)) (k : ℕ) → number_in x (map name_of fs) ≡ Some k → slice_get fs k ≡ None → ⊥
nowhere x [] k e i = cc
nowhere x (f ∷ fs) k e i = go (bytes_eq x (name_of f)) (number_in x (map name_of fs)) e (λ m. nowhere x fs m)
  where
    go : (b : Bool) (o : Option ℕ) → cond b (Some 0) (option_map (λ k. k + 1) o) ≡ Some k → ((m : ℕ) → o ≡ Some m → slice_get fs m ≡ None → ⊥) → ⊥
    go true o e rest =
        let zero_is : k ≡ 0 = cc in
        let here : slice_get (f ∷ fs) 0 ≡ None = ap (slice_get (f ∷ fs)) (sym zero_is) ∙ i in cc
    go false None e rest = cc
    go false (Some m) e rest =
        let next : k ≡ m + 1 = cc in
        let here : slice_get (f ∷ fs) (m + 1) ≡ None = ap (slice_get (f ∷ fs)) (sym next) ∙ i in
        let step : m + 1 ≡ suc m = omega arith in
        rest m refl (sym (ap (slice_get (f ∷ fs)) step) ∙ here)

pub there_at : {A : Type 0} (fs : List A) (k : ℕ) (g : A) → k < length fs → g ≡ get_or fs k g → slice_get fs k ≡ Some g
there_at [] k g within e = absurd (omega arith)
there_at (f ∷ fs) zero g within e = ap Some (sym e)
there_at (f ∷ fs) (suc k) g within e = there_at fs k g (omega arith) e

pub ruleset naming = (unnamed)
