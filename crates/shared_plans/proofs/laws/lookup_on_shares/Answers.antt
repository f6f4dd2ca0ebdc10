use Rattle.std.proofs.Common.{◌*◌}
use Rattle.oblivious_index.specs.Lookup.{lookup_plan}
use Rattle.oblivious_index.specs.LookupLaw.{words_taken}
use Rattle.shared_plans.specs.Plans.{lookup_kinds}
use Rattle.shared_plans.specs.GateRuns.{value_count}
use Rattle.shared_plans.proofs.PlanRuns.{words-then, outcome}
use Rattle.shared_plans.proofs.PlansOnShares.{lookup-follows, lookup-shared}
use Rattle.shared_plans.proofs.laws.lookup_on_shares.Goals as goal

pub returns-clause-words : goal.returns-clause-words
returns-clause-words c =
    λ r n m array index small good number_a number_i i.
    words-then r (lookup_plan (value_count r) array index n m) lookup_kinds (λ miner. words_taken miner (n * m)) good
    (lookup-follows r good n m array index small number_a number_i) i

pub returns-clause-outcome : goal.returns-clause-outcome
returns-clause-outcome c =
    λ r n m array index tapes small good number_a number_i reach.
    outcome r (lookup_plan (value_count r) array index n m) lookup_kinds (λ miner. words_taken miner (n * m)) good
    (lookup-follows r good n m array index small number_a number_i) tapes reach

pub returns-clause-result : goal.returns-clause-result
returns-clause-result c =
    λ r n m array index tapes small good number_a number_i reach xs ks shares_a shares_i.
    lookup-shared r good n m array index tapes small number_a number_i reach xs ks shares_a shares_i
