use Rattle.honest_miners.proofs.ServedRuns.{three_served_miners}
use Rattle.honest_miners.proofs.served_laws.three_served_miners.Goals as goal

pub returns : goal.returns
returns c = three_served_miners
