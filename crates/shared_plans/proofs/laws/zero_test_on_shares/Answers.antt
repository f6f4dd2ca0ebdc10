use Rattle.plans.specs.Equality.{eq_plan}
use Rattle.plans.specs.EqualityLaw.{words_taken}
use Rattle.shared_plans.specs.Plans.{zero_test_kinds}
use Rattle.shared_plans.specs.GateRuns.{value_count}
use Rattle.shared_plans.proofs.PlanRuns.{words-then, outcome}
use Rattle.shared_plans.proofs.PlansOnShares.{zero-test-follows, zero-test-shared}
use Rattle.shared_plans.proofs.laws.zero_test_on_shares.Goals as goal

pub returns-clause-words : goal.returns-clause-words
returns-clause-words c =
    λ r n word good number i.
    words-then r (eq_plan (value_count r) word) zero_test_kinds (λ miner. words_taken miner n) good (zero-test-follows r good n word number) i

pub returns-clause-outcome : goal.returns-clause-outcome
returns-clause-outcome c =
    λ r n word tapes good number reach.
    outcome r (eq_plan (value_count r) word) zero_test_kinds (λ miner. words_taken miner n) good (zero-test-follows r good n word number) tapes reach

pub returns-clause-result : goal.returns-clause-result
returns-clause-result c =
    λ r n word tapes good number reach us shares. zero-test-shared r good n word tapes number reach us shares
