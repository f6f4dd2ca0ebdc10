use Rattle.std.proofs.Common.{◌∙◌, ap}
use Rattle.std.specs.Prelude.{nat_lt}
use Rattle.counted_net.specs.Nets.{got_of}
use Rattle.counted_net.proofs.Together.{given_so}
use Rattle.counted_net.proofs.net.Net.is_under_way.Goals as goal

pub returns : goal.returns
returns c =
    let n = c.self.inside in
    let given = given_so n.scripts.now n.delivered.items n.miners n.given c.args.self.now c.self.view_is c.self.invariant c.args.link in
    ap (λ k. nat_lt k c.sent.result) (c.on.ensures ∙ given) ∙ ap (nat_lt (got_of c.args.self.now.delivered c.args.link)) c.sent.ensures
