use Rattle.view_model.proofs.Holding.{dealt_held, run_computes}
use Rattle.view_model.proofs.laws.dealt_runs_compute_values.Goals as goal

pub returns-clause-dealt : goal.returns-clause-dealt
returns-clause-dealt c = dealt_held

pub returns-clause-computed : goal.returns-clause-computed
returns-clause-computed c = run_computes
