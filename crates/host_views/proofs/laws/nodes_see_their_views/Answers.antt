use Rattle.host_views.proofs.Hosts.{nodes_see}
use Rattle.host_views.proofs.laws.nodes_see_their_views.Goals as goal

pub returns : goal.returns
returns c = nodes_see
