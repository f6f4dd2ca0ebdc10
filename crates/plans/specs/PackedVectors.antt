-- Worked values of the tests with packed results, on the words of the other worked values.
use Rattle.std.specs.Prelude.{◌≡◌, ℕ, [], ◌∷◌, refl}
use Rattle.gates.specs.Bits.{words_with, number_with}
use Rattle.gates.specs.Clear.{value}
use Rattle.gates.specs.Counts.{made_by_all}
use Rattle.gates.specs.Evaluated.{evaluated}
use Rattle.gates.specs.Gathered.{packed}
use Rattle.plans.specs.Packed.{packed_eq_plan, packed_less_plan}

-- of the differences 0, 2^64 - 1, 5 and 0 the first and the last are 0
tested : value (evaluated 7 [] ((0 ∷ 18446744073709551615 ∷ 5 ∷ 0 ∷ []) ∷ []) (packed_eq_plan 1 0)) 18 ≡ 9 ∷ []
unfolding packed words_with number_with
tested = refl

-- of 2^64 - 1 and 1, 1 and 2^64 - 1, 5 and 5 the second
compared : value (evaluated 7 [] ((18446744073709551615 ∷ 1 ∷ 5 ∷ []) ∷ (1 ∷ 18446744073709551615 ∷ 5 ∷ []) ∷ [])
    (packed_less_plan 2 0 1 3)) 112 ≡ 2 ∷ []
unfolding packed words_with number_with
compared = refl

eighteen_values : (first difference : ℕ) → made_by_all (packed_eq_plan first difference) ≡ 18
eighteen_values first difference = refl

values_made : (first left right n : ℕ) → made_by_all (packed_less_plan first left right n) ≡ 111
values_made first left right n = refl
