-- Shares added up, as far as the shortest list goes.
use Rattle.std.proofs.Common.{◌≡◌, ℕ, ◌≤◌, List, [], ◌∷◌, length, min, drop, refl, arith, length-drop}
use Rattle.proto_core.specs.Ring.{Ring}
use Rattle.code_runs.specs.ClientTold.{words_added_up}

any_empty : (r : Ring) (xs ys zs : List ℕ) → min (min (length xs) (length ys)) (length zs) ≡ 0 → words_added_up r xs ys zs ≡ []
any_empty r [] ys zs h = refl
any_empty r (x ∷ xs) [] zs h = refl
any_empty r (x ∷ xs) (y ∷ ys) [] h = refl
any_empty r (x ∷ xs) (y ∷ ys) (z ∷ zs) h = absurd (omega (arith, h))

pub none_left : (r : Ring) (xs ys zs : List ℕ) (k : ℕ) → min (min (length xs) (length ys)) (length zs) ≤ k →
    words_added_up r (drop k xs) (drop k ys) (drop k zs) ≡ []
none_left r xs ys zs k h =
    any_empty r (drop k xs) (drop k ys) (drop k zs) (omega (arith, length-drop k xs, length-drop k ys, length-drop k zs))
