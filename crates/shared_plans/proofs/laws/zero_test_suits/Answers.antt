use Rattle.std.proofs.Common.{◌<◌, refl, subst, sym}
use Rattle.gates.specs.Counts.{size_of}
use Rattle.plans.specs.Equality.{eq_plan}
use Rattle.shared_plans.proofs.KindedPlans.{zero-test-kinded}
use Rattle.shared_plans.proofs.SizedPlans.{suited-sizes, zero-test-suited}
use Rattle.shared_plans.proofs.laws.zero_test_suits.Goals as goal

pub returns-clause-kinds : goal.returns-clause-kinds
returns-clause-kinds c = zero-test-kinded

pub returns-clause-sizes : goal.returns-clause-sizes
returns-clause-sizes c =
    λ dealt sizes first word count below.
    suited-sizes dealt sizes (eq_plan first word)
    (zero-test-suited dealt sizes first word (size_of sizes word) count
    (record { below = subst (λ n. word < n) (sym count) below; size = refl }))
