-- Worked values of the bits: the numbers 5 and 2^64 - 1 as value 0, the gates from number 1 on.
use Rattle.std.specs.Prelude.{◌≡◌, ℕ, [], ◌∷◌, refl}
use Rattle.gates.specs.Clear.{value}
use Rattle.gates.specs.Counts.{made_by_all}
use Rattle.gates.specs.Evaluated.{evaluated}
use Rattle.plans.specs.BitExtract.{bits_plan}

-- split into 1 and the number less 1, whose sum carries through all bits of the second
extracted : value (evaluated 1 [] ((5 ∷ 18446744073709551615 ∷ 0 ∷ []) ∷ []) (bits_plan 1 0 3)) 54 ≡ 5 ∷ 18446744073709551615 ∷ 0 ∷ []
extracted = refl

extracted_masked : value (evaluated 11400714819323198485 [] ((5 ∷ 18446744073709551615 ∷ 0 ∷ []) ∷ []) (bits_plan 1 0 3)) 54 ≡ 5 ∷ 18446744073709551615 ∷ 0 ∷ []
extracted_masked = refl

values_made : (first word n : ℕ) → made_by_all (bits_plan first word n) ≡ 54
values_made first word n = refl
