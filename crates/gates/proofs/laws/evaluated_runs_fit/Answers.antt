use Rattle.gates.proofs.Growing.{evaluated_run_fits}
use Rattle.gates.proofs.laws.evaluated_runs_fit.Goals as goal

pub returns : goal.returns
returns c = evaluated_run_fits
