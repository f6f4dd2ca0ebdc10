use Rattle.code_runs.proofs.Miners.{miners_run_the_program}
use Rattle.code_runs.proofs.laws.miners_run_the_program.Goals as goal

pub returns : goal.returns
returns c = miners_run_the_program
