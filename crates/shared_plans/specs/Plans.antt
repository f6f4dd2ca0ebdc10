-- The plans of equality, bit extraction, comparison and look-up after a run of gates, over values of n elements.
use Rattle.std.specs.Prelude.{ℕ, ◌+◌, List, ◌∷◌, ◌++◌, replicate, ◌==◌, if◌then◌else◌}
use Rattle.gates.specs.declared.ring_kind.RingKind.TheVariants.{Arithmetic, Boolean}
use Rattle.gates.specs.declared.gate.Gate.TheVariants.{Sub}
use Rattle.plans.specs.Equality.{eq_plan}
use Rattle.plans.specs.BitExtract.{bits_plan}
use Rattle.plans.specs.Compare.{less_plan}
use Rattle.plans.specs.Signed.{signed_less_plan}
use Rattle.oblivious_index.specs.Lookup.{lookup_plan}
use Rattle.shared_gates.specs.Shares.{Kind, Shared}
use Rattle.shared_plans.specs.GateRuns.{GateRun, value_count, then_gates}

-- ---- in which ring each value is shared that a plan makes

-- the two words of the number, and all that is made of them, bit by bit
unfoldable pub zero_test_kinds : List Kind
zero_test_kinds = replicate 17 (Shared Boolean)

-- the difference, and what its test for zero makes
unfoldable pub equality_kinds : List Kind
equality_kinds = Shared Arithmetic ∷ replicate 17 (Shared Boolean)

-- the two words of the number, their carries, and the bits
unfoldable pub bits_kinds : List Kind
bits_kinds = replicate 54 (Shared Boolean)

-- all numbers, one after another; their bits; and what is made of these
unfoldable pub comparison_kinds : List Kind
comparison_kinds = Shared Arithmetic ∷ replicate 109 (Shared Boolean)

-- half of all words, both numbers raised by it, and the comparison of these
unfoldable pub signed_comparison_kinds : List Kind
signed_comparison_kinds = replicate 3 (Shared Arithmetic) ++ comparison_kinds

-- the indices, the places and their differences; the tests of these; the tests as numbers, the elements, the products and the sums
unfoldable pub lookup_kinds : List Kind
lookup_kinds = replicate 3 (Shared Arithmetic) ++ (replicate 17 (Shared Boolean) ++ replicate 4 (Shared Arithmetic))

-- ---- after a run

abbrev pub then_zero_test : GateRun → ℕ → GateRun
then_zero_test r word = then_gates r (eq_plan (value_count r) word) zero_test_kinds

-- two values are equal where their difference is 0
abbrev pub then_equality : GateRun → ℕ → ℕ → GateRun
then_equality r u v = then_gates r (Sub u v ∷ eq_plan (value_count r + 1) (value_count r)) equality_kinds

abbrev pub then_bits : GateRun → ℕ → ℕ → GateRun
then_bits r n word = then_gates r (bits_plan (value_count r) word n) bits_kinds

abbrev pub then_comparison : GateRun → ℕ → ℕ → ℕ → GateRun
then_comparison r n u v = then_gates r (less_plan (value_count r) u v n) comparison_kinds

abbrev pub then_signed_comparison : GateRun → ℕ → ℕ → ℕ → GateRun
then_signed_comparison r n u v = then_gates r (signed_less_plan (value_count r) u v n) signed_comparison_kinds

-- in an array of n elements m places are looked up
abbrev pub then_lookup : (r : GateRun) (array index n m : ℕ) → GateRun
then_lookup r array index n m = then_gates r (lookup_plan (value_count r) array index n m) lookup_kinds

-- whether two words are the same: 1 for yes, 0 for no
abbrev pub equal_test : ℕ → ℕ → ℕ
equal_test x y = if x == y then 1 else 0
