use Rattle.host_views.proofs.Hosts.{gathered_see, hosts_see}
use Rattle.host_views.proofs.laws.hosts_see_their_views.Goals as goal

pub returns : goal.returns
returns c = record { hosts = hosts_see; gathered = gathered_see }
