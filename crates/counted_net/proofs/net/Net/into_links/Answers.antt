use Rattle.std.proofs.Common.{ap}
use Rattle.counted_net.specs.Nets.{NetState}
use Rattle.counted_net.proofs.net.Net.into_links.Goals as goal

pub returns : goal.returns
returns c = ap (λ (n : NetState). n.delivered) c.self.view_is
