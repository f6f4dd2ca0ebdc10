use Rattle.plans.specs.Compare.{less_plan}
use Rattle.plans.specs.CompareLaw.{words_taken}
use Rattle.shared_plans.specs.Plans.{comparison_kinds}
use Rattle.shared_plans.specs.GateRuns.{value_count}
use Rattle.shared_plans.proofs.PlanRuns.{words-then, outcome}
use Rattle.shared_plans.proofs.PlansOnShares.{comparison-follows, comparison-shared}
use Rattle.shared_plans.proofs.laws.comparison_on_shares.Goals as goal

pub returns-clause-words : goal.returns-clause-words
returns-clause-words c =
    λ r n u v good number_u number_v i.
    words-then r (less_plan (value_count r) u v n) comparison_kinds (λ miner. words_taken miner n) good (comparison-follows r good n u v number_u number_v) i

pub returns-clause-outcome : goal.returns-clause-outcome
returns-clause-outcome c =
    λ r n u v tapes good number_u number_v reach.
    outcome r (less_plan (value_count r) u v n) comparison_kinds (λ miner. words_taken miner n) good
    (comparison-follows r good n u v number_u number_v) tapes reach

pub returns-clause-result : goal.returns-clause-result
returns-clause-result c =
    λ r n u v tapes good number_u number_v reach us vs shares_u shares_v.
    comparison-shared r good n u v tapes number_u number_v reach us vs shares_u shares_v
