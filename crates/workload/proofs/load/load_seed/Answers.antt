use Rattle.workload.specs.Load.{load_seed}
use Rattle.workload.proofs.load.load_seed.Goals as goal

pub returns : goal.returns
unfolding load_seed
returns c = c.write_u64.ensures
