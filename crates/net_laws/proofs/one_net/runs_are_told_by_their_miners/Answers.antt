use Rattle.net_laws.proofs.MinersTold.{run_is_told}
use Rattle.net_laws.proofs.one_net.runs_are_told_by_their_miners.Goals as goal

pub returns : goal.returns
returns c = run_is_told
