use Rattle.std.proofs.Common.{rules, ◌*◌, length, subst}
use Rattle.share_convert.specs.Steps.{HasBits, LacksBits}
use Rattle.block_steps.proofs.Deals.{turn13, refused13}
use Rattle.block_steps.proofs.converting.got13.Goals as goal

pub returns-clause-same : goal.returns-clause-same
returns-clause-same g c =
    let l = c.args.links.now in
    let m = c.in-Some.words.now in
    let fits : HasBits m (2 * c.size-n.result) c.size-n.result c.size-n.result = search rules in
    turn13 g.P.Party.me c.args.state c.in_ok-state.state m l.from_next.1 c.take.new.self.1 l.from_previous.1
    l.to_next l.to_previous c.got13.new.second l.opened.items
    c.requires.third c.in-Some.ensures c.take.ensures.left (subst (λ k. HasBits m (2 * k) k k) c.size-n.ensures.size fits)
    c.in_ok-state.ensures.state c.in_ok-state.ensures.sent

pub returns-in-Err-clause-stands : goal.returns-in-Err-clause-stands
returns-in-Err-clause-stands g c =
    let l = c.args.links.now in
    let m = c.in-Some.words.now in
    refused13 g.P.Party.me (length c.args.state.mask) m c.in-Err.cause l.from_next.1 l.from_previous.1 c.requires.third c.in-Some.ensures
    (subst (λ k. LacksBits m (2 * k) k k c.in-Err.cause) c.size-n.ensures.size c.in-Err.ensures.err)
