use Rattle.std.proofs.Common.{◌≡◌, length, arith}
use Rattle.block_steps.proofs.Rings.{keep-turn}
use Rattle.block_steps.proofs.opening.from_previous.Goals as goal

pub returns-clause-same : goal.returns-clause-same
returns-clause-same g c =
    let l = c.args.links.now in
    let fits : length c.in-Some.words.now ≡ length c.args.state.0 = omega (arith, c.size-want.ensures.size) in
    keep-turn g.R.ShareRing.ring g.P.Party.me c.args.state c.keep.new.self c.in-Some.words.now l.from_previous.1 c.take.new.self.1 l.from_next.1
    l.to_next l.to_previous l.opened.items c.in-Some.ensures c.take.ensures.left fits c.keep.ensures
