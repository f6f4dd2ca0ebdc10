use Rattle.view_simulator.proofs.Suiting.{told_can_be_made}
use Rattle.view_simulator.proofs.laws.told_runs_can_be_made.Goals as goal

pub returns : goal.returns
returns c = told_can_be_made
