use Rattle.net_laws.proofs.Nets.{nets_go_on, nets_go_on_with_programs}
use Rattle.net_laws.proofs.honest_nets.honest_nets_go_on.Goals as goal

pub returns : goal.returns
returns c = record { code = nets_go_on; programs = nets_go_on_with_programs }
