use Rattle.miner_node.proofs.Honest.{ends_with_honest_peers}
use Rattle.miner_node.proofs.laws.honest_peers_lead_to_the_end.Goals as goal

pub returns : goal.returns
returns c = ends_with_honest_peers
