use Rattle.net_laws.proofs.OneNet.{have_one_net}
use Rattle.net_laws.proofs.one_net.run_views_and_simulator_have_one_net.Goals as goal

pub returns : goal.returns
returns c = have_one_net
