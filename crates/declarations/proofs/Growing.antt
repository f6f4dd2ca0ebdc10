-- Lists and truth values that grow by one.
use Rattle.std.proofs.Common.{◌≡◌, List, [], ◌∷◌, ◌++◌, refl, Bool, true, false, append_assoc}
use Rattle.std.specs.Prelude.{map, ◌||◌}
use Rattle.std.proofs.lemmas.List.{map-append}

pub or-assoc : (a b c : Bool) → (a || b) || c ≡ a || (b || c)
or-assoc true b c = refl
or-assoc false b c = refl

pub or-false : (a : Bool) → a || false ≡ a
or-false true = refl
or-false false = refl

pub append-one : {A : Type 0} (xs : List A) (x : A) (ys : List A) → (xs ++ x ∷ []) ++ ys ≡ xs ++ (x ∷ ys)
append-one xs x ys = append_assoc xs (x ∷ []) ys

pub map-one : {A B : Type 0} (f : A → B) (xs : List A) (x : A) → map f (xs ++ x ∷ []) ≡ map f xs ++ f x ∷ []
map-one f xs x = map-append f xs (x ∷ [])

pub ruleset collecting = (or-assoc, or-false, append-one, map-one)
