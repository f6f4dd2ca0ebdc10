use Rattle.std.proofs.Common.{◌+◌, ◌∷◌}
use Rattle.gates.specs.declared.gate.Gate.TheVariants.{Sub}
use Rattle.plans.specs.Equality.{eq_plan}
use Rattle.plans.specs.EqualityLaw.{words_taken}
use Rattle.shared_plans.specs.Plans.{equality_kinds}
use Rattle.shared_plans.specs.GateRuns.{value_count}
use Rattle.shared_plans.proofs.PlanRuns.{words-then, outcome}
use Rattle.shared_plans.proofs.PlansOnShares.{equality-follows, equality-shared}
use Rattle.shared_plans.proofs.laws.equality_on_shares.Goals as goal

pub returns-clause-words : goal.returns-clause-words
returns-clause-words c =
    λ r n u v good number_u number_v i.
    words-then r (Sub u v ∷ eq_plan (value_count r + 1) (value_count r)) equality_kinds (λ miner. words_taken miner n) good
    (equality-follows r good n u v number_u number_v) i

pub returns-clause-outcome : goal.returns-clause-outcome
returns-clause-outcome c =
    λ r n u v tapes good number_u number_v reach.
    outcome r (Sub u v ∷ eq_plan (value_count r + 1) (value_count r)) equality_kinds (λ miner. words_taken miner n) good
    (equality-follows r good n u v number_u number_v) tapes reach

pub returns-clause-result : goal.returns-clause-result
returns-clause-result c =
    λ r n u v tapes good number_u number_v reach us vs shares_u shares_v.
    equality-shared r good n u v tapes number_u number_v reach us vs shares_u shares_v
