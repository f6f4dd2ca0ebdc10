-- One more copy, equal to its source as f sees both.
use Rattle.std.proofs.Common.{◌≡◌, ℕ, ◌+◌, ◌<◌, List, [], ◌∷◌, ◌++◌, length, get_or, take, sym, ap, ◌∙◌}
use Rattle.std.specs.Prelude.{map}
use Rattle.std.proofs.lemmas.List.{map-append, take_more}

pub one_more : {E T : Type 0} (f : E → T) (xs ys : List E) (i : ℕ) (x y : E) → i < length xs → y ≡ get_or xs i y → f x ≡ f y
    → map f ys ≡ map f (take i xs) → map f (ys ++ x ∷ []) ≡ map f (take (i + 1) xs)
one_more f xs ys i x y h at same so_far =
    map-append f ys (x ∷ [])
    ∙ ap (λ l. l ++ f x ∷ []) so_far
    ∙ ap (λ t. map f (take i xs) ++ t ∷ []) (same ∙ ap f at)
    ∙ sym (ap (map f) (take_more xs i y h) ∙ map-append f (take i xs) (get_or xs i y ∷ []))
