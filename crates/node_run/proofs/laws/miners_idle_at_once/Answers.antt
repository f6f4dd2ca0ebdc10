use Rattle.node_run.proofs.Idling.{idles_at_once}
use Rattle.node_run.proofs.laws.miners_idle_at_once.Goals as goal

pub returns : goal.returns
returns c = idles_at_once
