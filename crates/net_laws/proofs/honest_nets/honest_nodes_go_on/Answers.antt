use Rattle.net_laws.proofs.Nets.{joined_nodes_go_on, joined_nodes_go_on_with_programs}
use Rattle.net_laws.proofs.honest_nets.honest_nodes_go_on.Goals as goal

pub returns : goal.returns
returns c = record { code = joined_nodes_go_on; programs = joined_nodes_go_on_with_programs }
