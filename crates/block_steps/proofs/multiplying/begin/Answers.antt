use Rattle.proto_core.specs.Net.{mail_of}
use Rattle.block_steps.proofs.Rings.{begun-turn}
use Rattle.block_steps.proofs.multiplying.begin.Goals as goal

pub returns-clause-same : goal.returns-clause-same
returns-clause-same g c =
    let i = g.P.Party.me in
    let l = c.args.links.now in
    begun-turn g.R.ShareRing.ring i c.in_ok-state.state c.args.u.now c.args.v.now c.args.words.now l.to_next c.push_words.new.self l.to_previous
    l.opened.items (mail_of i l.from_previous.1 l.from_next.1) c.in_ok-state.ensures c.in_ok-push_words.ensures.ok
