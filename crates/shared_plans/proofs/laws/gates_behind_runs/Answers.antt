use Rattle.shared_plans.proofs.PlanRuns.{words-then, outcome}
use Rattle.shared_plans.proofs.laws.gates_behind_runs.Goals as goal

pub returns-clause-words : goal.returns-clause-words
returns-clause-words c = λ r gates kinds words good follows i. words-then r gates kinds words good follows i

pub returns-clause-outcome : goal.returns-clause-outcome
returns-clause-outcome c = λ r gates kinds words tapes good follows reach. outcome r gates kinds words good follows tapes reach
