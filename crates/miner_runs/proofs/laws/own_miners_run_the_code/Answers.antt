use Rattle.miner_runs.proofs.OwnRuns.{own_miners_run_the_code}
use Rattle.miner_runs.proofs.laws.own_miners_run_the_code.Goals as goal

pub returns : goal.returns
returns c = own_miners_run_the_code
