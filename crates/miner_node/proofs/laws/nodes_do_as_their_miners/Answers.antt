use Rattle.miner_node.proofs.Honest.{does_as_its_miner}
use Rattle.miner_node.proofs.laws.nodes_do_as_their_miners.Goals as goal

pub returns : goal.returns
returns c = does_as_its_miner
