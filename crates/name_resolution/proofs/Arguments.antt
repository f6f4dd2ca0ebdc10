-- The arguments of built-in functions.
use Rattle.std.proofs.Common.{◌≡◌, List, [], ◌∷◌, ap, Some}
use Rattle.std.proofs.lemmas.Option.{same_Some}
use Rattle.name_resolution.specs.Values.{only, pair}

pub only_one : {A : Type 0} (vs : List A) (a : A) → only vs ≡ Some a → vs ≡ a ∷ []
only_one [] a e = cc
only_one (b ∷ []) a e = ap (λ z. z ∷ []) (same_Some b a e)
only_one (b ∷ c ∷ cs) a e = cc

pub only_two : {A : Type 0} (vs : List A) (p : A × A) → pair vs ≡ Some p → vs ≡ p.0 ∷ p.1 ∷ []
only_two [] p e = cc
only_two (a ∷ []) p e = cc
only_two (a ∷ b ∷ []) p e = ap (λ q. q.0 ∷ q.1 ∷ []) (same_Some (a, b) p e)
only_two (a ∷ b ∷ c ∷ ds) p e = cc
