-- A list to which a loop pushes what it makes of each element.
use Rattle.std.proofs.Common.{◌≡◌, ℕ, ◌+◌, ◌<◌, List, [], ◌∷◌, ◌++◌, take, get_or, length, sym, ap, ap₂, ◌∙◌}
use Rattle.std.specs.Prelude.{map}
use Rattle.std.proofs.lemmas.List.{take_more, map-append}

pub pushed : {X W Y Z : Type 0} (f : Y → Z) (g : W → Z) (h : X → W) (ys : List Y) (xs : List X) (i : ℕ) (x : X) (y : Y)
    → i < length xs → x ≡ get_or xs i x → map f ys ≡ map g (map h (take i xs)) → f y ≡ g (h x) → map f (ys ++ y ∷ []) ≡ map g (map h (take (i + 1) xs))
pushed f g h ys xs i x y less is before same =
    let hs = map h (take i xs) in
    let more : map h (take (i + 1) xs) ≡ hs ++ h x ∷ [] = ap (map h) (take_more xs i x less) ∙ map-append h (take i xs) (get_or xs i x ∷ [])
    ∙ ap (λ z. hs ++ h z ∷ []) (sym is) in
    map-append f ys (y ∷ []) ∙ ap₂ (λ l r. l ++ r ∷ []) before same ∙ sym (map-append g hs (h x ∷ [])) ∙ ap (map g) (sym more)
