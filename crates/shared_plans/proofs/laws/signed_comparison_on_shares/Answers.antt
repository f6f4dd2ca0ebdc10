use Rattle.plans.specs.Signed.{signed_less_plan}
use Rattle.plans.specs.CompareLaw.{words_taken}
use Rattle.shared_plans.specs.Plans.{signed_comparison_kinds}
use Rattle.shared_plans.specs.GateRuns.{value_count}
use Rattle.shared_plans.proofs.PlanRuns.{words-then, outcome}
use Rattle.shared_plans.proofs.SignedOnShares.{signed-follows, signed-shared}
use Rattle.shared_plans.proofs.laws.signed_comparison_on_shares.Goals as goal

pub returns-clause-words : goal.returns-clause-words
returns-clause-words c =
    λ r n u v good number_u number_v i.
    words-then r (signed_less_plan (value_count r) u v n) signed_comparison_kinds (λ miner. words_taken miner n) good (signed-follows r good n u v number_u number_v) i

pub returns-clause-outcome : goal.returns-clause-outcome
returns-clause-outcome c =
    λ r n u v tapes good number_u number_v reach.
    outcome r (signed_less_plan (value_count r) u v n) signed_comparison_kinds (λ miner. words_taken miner n) good
    (signed-follows r good n u v number_u number_v) tapes reach

pub returns-clause-result : goal.returns-clause-result
returns-clause-result c =
    λ r n u v tapes good number_u number_v reach us vs shares_u shares_v.
    signed-shared r good n u v tapes number_u number_v reach us vs shares_u shares_v
