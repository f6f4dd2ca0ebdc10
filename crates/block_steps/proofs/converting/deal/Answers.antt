use Rattle.proto_core.specs.Net.{mail_of}
use Rattle.block_steps.proofs.Deals.{dealt-turn}
use Rattle.block_steps.proofs.converting.deal.Goals as goal

pub returns-clause-same : goal.returns-clause-same
returns-clause-same g c =
    let i = g.P.Party.me in
    let l = c.args.links.now in
    dealt-turn i c.in_ok-state.state c.args.u.now c.args.words.now l.to_next c.deal.new.second l.to_previous c.deal.new.third l.opened.items
    (mail_of i l.from_previous.1 l.from_next.1) c.requires.first c.in_ok-state.ensures.state c.in_ok-state.ensures.to_two c.in_ok-state.ensures.to_three
