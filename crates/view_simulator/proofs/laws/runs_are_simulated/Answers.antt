use Rattle.view_simulator.proofs.Runs.{nets_simulated, runs_simulated}
use Rattle.view_simulator.proofs.laws.runs_are_simulated.Goals as goal

pub returns : goal.returns
returns c = record { net = nets_simulated; view = runs_simulated }
