use Rattle.std.proofs.Common.{◌≡◌, length, arith}
use Rattle.block_steps.proofs.Deals.{turn31}
use Rattle.block_steps.proofs.converting.got31.Goals as goal

pub returns-clause-same : goal.returns-clause-same
returns-clause-same g c =
    let l = c.args.links.now in
    let m = c.in-Some.words.now in
    let fits : length m ≡ length c.args.state.mask = omega (arith, c.size-want.ensures.size) in
    turn31 g.P.Party.me c.args.state m c.got31-share.result.items l.from_previous.1 c.take.new.self.1 l.from_next.1 l.to_next l.to_previous l.opened.items
    c.requires.first c.in-Some.ensures c.take.ensures.left fits c.got31-share.ensures
