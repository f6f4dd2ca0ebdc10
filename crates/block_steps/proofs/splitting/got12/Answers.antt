use Rattle.std.proofs.Common.{◌≡◌, length, arith}
use Rattle.block_steps.proofs.Deals.{split12}
use Rattle.block_steps.proofs.splitting.got12.Goals as goal

pub returns-clause-same : goal.returns-clause-same
returns-clause-same g c =
    let l = c.args.links.now in
    let m = c.in-Some.words.now in
    let fits : length m ≡ length c.args.state.share = omega (arith, c.size-want.ensures.size) in
    split12 g.P.Party.me c.args.state m c.in_ok-x.x.items c.in_ok-x.y.items l.from_previous.1 c.take.new.self.1 l.from_next.1
    l.to_next l.to_previous l.opened.items
    c.requires.second c.in-Some.ensures c.take.ensures.left fits c.in_ok-x.ensures.first c.in_ok-x.ensures.second
