use Rattle.joined_nodes.proofs.Nodes.{joined_nodes_agree, joined_nodes_agree_on_programs}
use Rattle.joined_nodes.proofs.laws.three_nodes.Goals as goal

pub returns : goal.returns
returns c = record { code = joined_nodes_agree; programs = joined_nodes_agree_on_programs }
