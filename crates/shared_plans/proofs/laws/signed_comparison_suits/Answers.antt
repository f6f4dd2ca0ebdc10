use Rattle.std.proofs.Common.{◌<◌, subst, sym}
use Rattle.plans.specs.Signed.{signed_less_plan}
use Rattle.shared_plans.proofs.KindedSigned.{signed-kinded}
use Rattle.shared_plans.proofs.SizedPlans.{suited-sizes, signed-suited}
use Rattle.shared_plans.proofs.laws.signed_comparison_suits.Goals as goal

pub returns-clause-kinds : goal.returns-clause-kinds
returns-clause-kinds c = signed-kinded

pub returns-clause-sizes : goal.returns-clause-sizes
returns-clause-sizes c =
    λ dealt sizes first u v n count below_u below_v size_u size_v.
    suited-sizes dealt sizes (signed_less_plan first u v n)
    (signed-suited dealt sizes first u v n count (record { below = subst (λ k. u < k) (sym count) below_u; size = size_u })
    (record { below = subst (λ k. v < k) (sym count) below_v; size = size_v }))
