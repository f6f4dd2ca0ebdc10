use Rattle.std.proofs.Common.{ap}
use Rattle.counted_net.specs.Nets.{HasEnded, NetState}
use Rattle.counted_net.proofs.Walks.{end_refused, passed_on}
use Rattle.counted_net.proofs.net.Net.into_delivered.Goals as goal

pub returns-in_err-stalled : goal.returns-in_err-stalled
returns-in_err-stalled c =
    passed_on (HasEnded c.args.self) _ (end_refused c.args.self _ c.in_err-stalled.ensures) c.from_residual.result c.from_residual.ensures.1

pub returns : goal.returns
returns c = (c.in_ok-stalled.ensures, ap (λ (n : NetState). n.delivered) c.self.view_is)
