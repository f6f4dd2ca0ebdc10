-- A scalar beside each word of a list.
use Rattle.std.proofs.Common.{◌≡◌, ℕ, List, [], ◌∷◌, length, map, refl, ap}
use Rattle.std.specs.Prelude.{replicate}
use Rattle.gates.specs.Clear.{each_two}

pub scalar_left : (f : ℕ → ℕ → ℕ) (x : ℕ) (ys : List ℕ) → each_two f (replicate (length ys) x) ys ≡ map (f x) ys
scalar_left f x [] = refl
scalar_left f x (y ∷ ys) = ap (λ l. f x y ∷ l) (scalar_left f x ys)

pub scalar_right : (f : ℕ → ℕ → ℕ) (xs : List ℕ) (y : ℕ) → each_two f xs (replicate (length xs) y) ≡ map (λ x. f x y) xs
scalar_right f [] y = refl
scalar_right f (x ∷ xs) y = ap (λ l. f x y ∷ l) (scalar_right f xs y)
