-- The tests with packed results.
use Rattle.std.proofs.Common.{◌≡◌, ℕ, ◌+◌, Some, List, [], ◌∷◌, ◌++◌, length, map, refl, sym, ◌∙◌, ap, subst, arith}
use Rattle.std.specs.Prelude.{slice_get}
use Rattle.gates.specs.declared.gate.Gate.{Gate}
use Rattle.gates.specs.declared.gate.Gate.TheVariants.{Pack}
use Rattle.gates.specs.Clear.{Values, FitFrom}
use Rattle.gates.specs.Gathered.{packed}
use Rattle.gates.specs.Counts.{Miner, made_by_all, words_of_all}
use Rattle.gates.proofs.Columns.{stands}
use Rattle.gates.proofs.Sizes.{words_of_all-append, FitFrom-append}
use Rattle.plans.specs.Equality.{eq_plan}
use Rattle.plans.specs.EqualityLaw as equality
use Rattle.plans.specs.Compare.{less_plan}
use Rattle.plans.specs.CompareLaw as comparison
use Rattle.plans.specs.Packed.{packed_eq_plan, packed_less_plan, PacksZeroTests, PacksLess}
use Rattle.plans.proofs.EqualityLaws as equality_laws
use Rattle.plans.proofs.CompareLaws as comparison_laws

-- ---- a list of gates, and one more that packs its last value

pub packs_last : (inputs values : Values) (first count last : ℕ) (gates : List Gate) (xs : List ℕ) → made_by_all gates ≡ count
    → FitFrom inputs values first (gates ++ Pack last ∷ []) → slice_get values last ≡ Some xs → slice_get values (first + count) ≡ Some (packed xs)
packs_last inputs values first count last gates xs made fit is =
    let parts = FitFrom-append inputs values first gates (Pack last ∷ []) fit in
    ap (λ n. slice_get values (first + n)) (sym made) ∙ parts.1.1 ∙ ap (λ ys. Some (packed ys)) (stands values last is)

pub takes_no_more : (sizes : List ℕ) (miner : Miner) (last taken : ℕ) (gates : List Gate) → words_of_all sizes miner gates ≡ taken
    → words_of_all sizes miner (gates ++ Pack last ∷ []) ≡ taken
takes_no_more sizes miner last taken gates is = words_of_all-append sizes miner gates (Pack last ∷ []) ∙ omega (arith, is)

-- ---- the tests for zero

pub packs_zero_tests_from : (first difference : ℕ) (gates : List Gate) → gates ≡ packed_eq_plan first difference → PacksZeroTests first difference gates
packs_zero_tests_from first difference gates e =
    subst (PacksZeroTests first difference) (sym e) (λ inputs values fit.
    packs_last inputs values first 17 (first + 16) (eq_plan first difference) _ refl fit
    (equality_laws.tests_for_zero first difference inputs values
    (FitFrom-append inputs values first (eq_plan first difference) (Pack (first + 16) ∷ []) fit).0))

pub zero_tests_take_from : (first difference n : ℕ) (gates : List Gate) → gates ≡ packed_eq_plan first difference
    → equality.TakesWords first difference n gates
zero_tests_take_from first difference n gates e =
    subst (equality.TakesWords first difference n) (sym e) (λ inputs values miner size fit.
    takes_no_more (map length values) miner (first + 16) (equality.words_taken miner n) (eq_plan first difference)
    (equality_laws.takes_words first difference n inputs values miner size
    (FitFrom-append inputs values first (eq_plan first difference) (Pack (first + 16) ∷ []) fit).0))

-- ---- the comparison

pub packs_less_from : (first u v n : ℕ) (gates : List Gate) → gates ≡ packed_less_plan first u v n → PacksLess first u v n gates
packs_less_from first u v n gates e =
    subst (PacksLess first u v n) (sym e) (λ inputs values size_u size_v fit.
    packs_last inputs values first 110 (first + 109) (less_plan first u v n) _ refl fit
    (comparison_laws.tells_less first u v n inputs values size_u size_v
    (FitFrom-append inputs values first (less_plan first u v n) (Pack (first + 109) ∷ []) fit).0))

pub comparisons_take_from : (first u v n : ℕ) (gates : List Gate) → gates ≡ packed_less_plan first u v n → comparison.TakesWords first u v n gates
comparisons_take_from first u v n gates e =
    subst (comparison.TakesWords first u v n) (sym e) (λ inputs values miner size_u size_v fit.
    takes_no_more (map length values) miner (first + 109) (comparison.words_taken miner n) (less_plan first u v n)
    (comparison_laws.takes_words first u v n inputs values miner size_u size_v
    (FitFrom-append inputs values first (less_plan first u v n) (Pack (first + 109) ∷ []) fit).0))
