use Rattle.std.proofs.Common.{◌<◌, subst, sym}
use Rattle.plans.specs.Compare.{less_plan}
use Rattle.shared_plans.proofs.KindedPlans.{comparison-kinded}
use Rattle.shared_plans.proofs.SizedPlans.{suited-sizes, comparison-suited}
use Rattle.shared_plans.proofs.laws.comparison_suits.Goals as goal

pub returns-clause-kinds : goal.returns-clause-kinds
returns-clause-kinds c = comparison-kinded

pub returns-clause-sizes : goal.returns-clause-sizes
returns-clause-sizes c =
    λ dealt sizes first u v n count below_u below_v size_u size_v.
    suited-sizes dealt sizes (less_plan first u v n)
    (comparison-suited dealt sizes first u v n count (record { below = subst (λ k. u < k) (sym count) below_u; size = size_u })
    (record { below = subst (λ k. v < k) (sym count) below_v; size = size_v }))
