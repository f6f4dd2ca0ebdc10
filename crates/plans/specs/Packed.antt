-- The plans that test words, with their results packed: one bit an element.
use Rattle.std.specs.Prelude.{◌≡◌, ℕ, ◌+◌, List, [], ◌∷◌, ◌++◌, Some, map, length, slice_get}
use Rattle.gates.specs.declared.gate.Gate.{Gate}
use Rattle.gates.specs.declared.gate.Gate.TheVariants.{Pack}
use Rattle.gates.specs.Clear.{Values, value, each_two, FitFrom}
use Rattle.gates.specs.Gathered.{packed}
use Rattle.gates.specs.WordTests.{zero_test, less_test}
use Rattle.plans.specs.Equality.{eq_plan}
use Rattle.plans.specs.Compare.{less_plan}

-- the last of the 17 values of a test for zero is packed
abbrev pub packed_eq_plan : (first difference : ℕ) → List Gate
packed_eq_plan first difference = eq_plan first difference ++ Pack (first + 16) ∷ []

-- the last of the 110 values of a comparison is packed
abbrev pub packed_less_plan : (first left right n : ℕ) → List Gate
packed_less_plan first left right n = less_plan first left right n ++ Pack (first + 109) ∷ []

-- whatever values fit the gates, the last of them has a bit for each word, which tests it for 0
abbrev pub PacksZeroTests : (first difference : ℕ) → List Gate → Type 0
PacksZeroTests first difference gates =
    (inputs values : Values)
    → FitFrom inputs values first gates
    → slice_get values (first + 17) ≡ Some (packed (map zero_test (value values difference)))

-- whatever values fit the gates, the last of them has a bit for each two words, which tells whether the first is less
abbrev pub PacksLess : (first left right n : ℕ) → List Gate → Type 0
PacksLess first left right n gates =
    (inputs values : Values)
    → length (value values left) ≡ n
    → length (value values right) ≡ n
    → FitFrom inputs values first gates
    → slice_get values (first + 110) ≡ Some (packed (each_two less_test (value values left) (value values right)))
