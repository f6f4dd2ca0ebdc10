-- Worked values of the comparison of numbers with a sign: values 0 and 1 are compared, by the gates from number 2 on.
use Rattle.std.specs.Prelude.{◌≡◌, ℕ, [], ◌∷◌, refl}
use Rattle.gates.specs.Bits.{words_with, number_with}
use Rattle.gates.specs.Clear.{value, Values}
use Rattle.gates.specs.Counts.{made_by_all}
use Rattle.gates.specs.Evaluated.{evaluated}
use Rattle.gates.specs.Gathered.{packed}
use Rattle.plans.specs.Signed.{signed_less_plan, packed_signed_less_plan}

-- -1 and 0, 0 and -1, -2^63 and 2^63 - 1, 2^63 - 1 and -2^63, 5 and 5
abbrev given : Values
given =
    (18446744073709551615 ∷ 0 ∷ 9223372036854775808 ∷ 9223372036854775807 ∷ 5 ∷ [])
    ∷ (0 ∷ 18446744073709551615 ∷ 9223372036854775807 ∷ 9223372036854775808 ∷ 5 ∷ [])
    ∷ []

compared : value (evaluated 11400714819323198485 [] given (signed_less_plan 2 0 1 5)) 114 ≡ 1 ∷ 0 ∷ 1 ∷ 0 ∷ 0 ∷ []
compared = refl

compared_packed : value (evaluated 7 [] given (packed_signed_less_plan 2 0 1 5)) 115 ≡ 5 ∷ []
unfolding packed words_with number_with
compared_packed = refl

values_made : (first left right n : ℕ) → made_by_all (signed_less_plan first left right n) ≡ 113
values_made first left right n = refl

packed_values_made : (first left right n : ℕ) → made_by_all (packed_signed_less_plan first left right n) ≡ 114
packed_values_made first left right n = refl
