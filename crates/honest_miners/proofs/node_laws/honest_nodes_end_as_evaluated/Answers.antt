use Rattle.honest_miners.proofs.Honest.{ends_with_the_run}
use Rattle.honest_miners.proofs.node_laws.honest_nodes_end_as_evaluated.Goals as goal

pub returns : goal.returns
returns c = ends_with_the_run
