use Rattle.code_inputs.proofs.Running.{runs_on_inputs, evaluation_suits}
use Rattle.code_inputs.proofs.laws.accepted_code_runs_on_inputs.Goals as goal

pub returns : goal.returns
returns c = record { runs = runs_on_inputs; evaluated = evaluation_suits }
