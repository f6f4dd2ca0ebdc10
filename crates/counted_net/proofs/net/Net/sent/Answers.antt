use Rattle.std.proofs.Common.{◌∙◌}
use Rattle.counted_net.proofs.Together.{sent_so}
use Rattle.counted_net.proofs.net.Net.sent.Goals as goal

pub returns : goal.returns
returns c =
    let n = c.self.inside in
    c.sent.ensures ∙ sent_so n.scripts.now n.delivered.items n.miners n.given c.args.self.now c.self.view_is c.self.invariant c.args.link
