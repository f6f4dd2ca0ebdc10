-- Worked values of the test for zero: the differences 0, 2^64 - 1 and 5 as value 0, the gates from number 1 on.
use Rattle.std.specs.Prelude.{◌≡◌, ℕ, [], ◌∷◌, refl}
use Rattle.gates.specs.Clear.{value}
use Rattle.gates.specs.Counts.{made_by_all}
use Rattle.gates.specs.Evaluated.{evaluated}
use Rattle.plans.specs.Equality.{eq_plan}

tested : value (evaluated 0 [] ((0 ∷ 18446744073709551615 ∷ 5 ∷ []) ∷ []) (eq_plan 1 0)) 17 ≡ 1 ∷ 0 ∷ 0 ∷ []
tested = refl

-- the same with another split
tested_masked : value (evaluated 11400714819323198485 [] ((0 ∷ 18446744073709551615 ∷ 5 ∷ []) ∷ []) (eq_plan 1 0)) 17 ≡ 1 ∷ 0 ∷ 0 ∷ []
tested_masked = refl

seventeen_values : (first difference : ℕ) → made_by_all (eq_plan first difference) ≡ 17
seventeen_values first difference = refl
