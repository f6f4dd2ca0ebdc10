use Rattle.std.proofs.Common.{◌<◌, subst, sym}
use Rattle.plans.specs.BitExtract.{bits_plan}
use Rattle.shared_plans.proofs.KindedPlans.{bits-kinded}
use Rattle.shared_plans.proofs.SizedPlans.{suited-sizes, bits-suited}
use Rattle.shared_plans.proofs.laws.bits_suit.Goals as goal

pub returns-clause-kinds : goal.returns-clause-kinds
returns-clause-kinds c = bits-kinded

pub returns-clause-sizes : goal.returns-clause-sizes
returns-clause-sizes c =
    λ dealt sizes first word n count below size.
    suited-sizes dealt sizes (bits_plan first word n)
    (bits-suited dealt sizes first word n count (record { below = subst (λ k. word < k) (sym count) below; size = size }))
