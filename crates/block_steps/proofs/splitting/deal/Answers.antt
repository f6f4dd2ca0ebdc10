use Rattle.proto_core.specs.Net.{mail_of}
use Rattle.block_steps.proofs.Deals.{split-dealt}
use Rattle.block_steps.proofs.splitting.deal.Goals as goal

pub returns-clause-same : goal.returns-clause-same
returns-clause-same g c =
    let l = c.args.links.now in
    split-dealt g.P.Party.me c.args.u.now c.args.words.now c.in_ok-x.x.items c.in_ok-x.y.items l.to_next c.deal.new.second l.to_previous c.deal.new.third
    l.opened.items (mail_of g.P.Party.me l.from_previous.1 l.from_next.1) c.requires.first c.in_ok-x.ensures.to_two c.in_ok-x.ensures.to_three
    c.in_ok-x.ensures.first c.in_ok-x.ensures.second
