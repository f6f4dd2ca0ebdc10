use Rattle.code_runs.proofs.Miners.{miners_run_the_code}
use Rattle.code_runs.proofs.laws.miners_run_the_code.Goals as goal

pub returns : goal.returns
returns c = miners_run_the_code
