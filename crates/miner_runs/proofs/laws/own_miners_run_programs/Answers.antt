use Rattle.miner_runs.proofs.Programs.{own_runs_where_accepted}
use Rattle.miner_runs.proofs.laws.own_miners_run_programs.Goals as goal

pub returns : goal.returns
returns c = own_runs_where_accepted
