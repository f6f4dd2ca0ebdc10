-- Worked values of the comparison: values 0 and 1 are compared, by the gates from number 2 on.
use Rattle.std.specs.Prelude.{◌≡◌, ℕ, [], ◌∷◌, refl}
use Rattle.gates.specs.Clear.{value}
use Rattle.gates.specs.Counts.{made_by_all}
use Rattle.gates.specs.Evaluated.{evaluated}
use Rattle.plans.specs.Compare.{less_plan}

-- 2^64 - 1 and 1, 1 and 2^64 - 1, 5 and 5
compared : value (evaluated 11400714819323198485 [] ((18446744073709551615 ∷ 1 ∷ 5 ∷ []) ∷ (1 ∷ 18446744073709551615 ∷ 5 ∷ []) ∷ [])
    (less_plan 2 0 1 3)) 111 ≡ 0 ∷ 1 ∷ 0 ∷ []
compared = refl

values_made : (first left right n : ℕ) → made_by_all (less_plan first left right n) ≡ 110
values_made first left right n = refl
