-- Places in what is left of a list, and in the whole list.
use Rattle.std.proofs.Common.{◌≡◌, ℕ, suc, zero, ◌+◌, List, [], ◌∷◌, drop, Option, Some, None, refl, sym, ◌∙◌, ap, arith}
use Rattle.std.specs.Prelude.{option_map}
use Rattle.audit_steps.specs.Places.{one_later}

-- the place is told of what is left after the first elements
abbrev pub later_by : ℕ → Option ℕ → Option ℕ
later_by n place = option_map (λ k. n + k) place

pub one_more : (n : ℕ) (place : Option ℕ) → later_by n (one_later place) ≡ later_by (n + 1) place
one_more n None = refl
one_more n (Some k) = let same : n + (k + 1) ≡ n + 1 + k = omega arith in ap Some same

pub here_first : (n : ℕ) → later_by n (Some 0) ≡ Some n
here_first n = let same : n + 0 ≡ n = omega arith in ap Some same

pub later_none : (place : Option ℕ) → place ≡ later_by 0 place
later_none None = refl
later_none (Some k) = let same : k ≡ 0 + k = omega arith in ap Some same

none_left : {A : Type 0} (n : ℕ) → drop {A = A} 1 [] ≡ drop n []
none_left zero = refl
none_left (suc n) = refl

pub drop_rest : {A : Type 0} (xs : List A) (n : ℕ) → drop 1 (drop n xs) ≡ drop (n + 1) xs
drop_rest [] zero = refl
drop_rest {A = A} [] (suc n) = none_left {A = A} (suc n + 1)
drop_rest (x ∷ xs) zero = refl
drop_rest (x ∷ xs) (suc n) =
    let same : suc n + 1 ≡ suc (n + 1) = omega arith in drop_rest xs n ∙ ap (λ k. drop k (x ∷ xs)) (sym same)
