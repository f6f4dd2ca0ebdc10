use Rattle.miner_runs.proofs.Stories.{does_its_part, have_done}
use Rattle.miner_runs.proofs.laws.miners_at_work_are_own_miners.Goals as goal

pub returns : goal.returns
returns c = record { part = does_its_part; done = have_done }
