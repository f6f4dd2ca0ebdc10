-- The elements of the two arrays, one after another.
use Rattle.std.proofs.Common.{◌≡◌, ℕ, ◌+◌, ◌*◌, ◌%◌, ◌^◌, List, [], ◌∷◌, ◌++◌, map, sym, ◌∙◌, ap, arith}
use Rattle.std.specs.List.{range_with_len}
use Rattle.std.proofs.lemmas.List.FromFn.{map-range_with_len_more}
use Rattle.std.proofs.lemmas.Nat.{mul-mod_first}
use Rattle.workload.specs.Load.{left_element, right_element}

next : (f : ℕ → ℕ) (j x : ℕ) (xs : List ℕ) → xs ≡ map f (range_with_len 0 j) → x ≡ f j →
    xs ++ x ∷ [] ≡ map f (range_with_len 0 (j + 1))
next f j x xs h e = ap (λ ys. ys ++ x ∷ []) h ∙ ap (λ y. map f (range_with_len 0 j) ++ y ∷ []) e ∙ sym (map-range_with_len_more f 0 j j (omega arith))

left_is : (number j : ℕ) → ((number + 1) % 2 ^ 64 * j) % 2 ^ 64 ≡ left_element number j
left_is number j = mul-mod_first (number + 1) j (2 ^ 64) ∙ ap (λ n. n % 2 ^ 64) (omega arith)

right_is : (number j : ℕ) → (number + j) % 2 ^ 64 ≡ right_element number j
right_is number j = ap (λ n. n % 2 ^ 64) (omega arith)

pub left_more : (number j x : ℕ) (xs : List ℕ) → xs ≡ map (left_element number) (range_with_len 0 j) →
    x ≡ ((number + 1) % 2 ^ 64 * j) % 2 ^ 64 → xs ++ x ∷ [] ≡ map (left_element number) (range_with_len 0 (j + 1))
left_more number j x xs h e = next (left_element number) j x xs h (e ∙ left_is number j)

pub right_more : (number j x : ℕ) (xs : List ℕ) → xs ≡ map (right_element number) (range_with_len 0 j) →
    x ≡ (number + j) % 2 ^ 64 → xs ++ x ∷ [] ≡ map (right_element number) (range_with_len 0 (j + 1))
right_more number j x xs h e = next (right_element number) j x xs h (e ∙ right_is number j)
