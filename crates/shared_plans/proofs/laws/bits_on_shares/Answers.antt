use Rattle.plans.specs.BitExtract.{bits_plan}
use Rattle.plans.specs.BitExtractLaw.{words_taken}
use Rattle.shared_plans.specs.Plans.{bits_kinds}
use Rattle.shared_plans.specs.GateRuns.{value_count}
use Rattle.shared_plans.proofs.PlanRuns.{words-then, outcome}
use Rattle.shared_plans.proofs.PlansOnShares.{bits-follow, bits-shared}
use Rattle.shared_plans.proofs.laws.bits_on_shares.Goals as goal

pub returns-clause-words : goal.returns-clause-words
returns-clause-words c =
    λ r n word good number i.
    words-then r (bits_plan (value_count r) word n) bits_kinds (λ miner. words_taken miner n) good (bits-follow r good n word number) i

pub returns-clause-outcome : goal.returns-clause-outcome
returns-clause-outcome c =
    λ r n word tapes good number reach.
    outcome r (bits_plan (value_count r) word n) bits_kinds (λ miner. words_taken miner n) good (bits-follow r good n word number) tapes reach

pub returns-clause-result : goal.returns-clause-result
returns-clause-result c =
    λ r n word tapes good number reach us shares. bits-shared r good n word tapes number reach us shares
