use Rattle.std.proofs.Common.{rules, ◌*◌, length, subst}
use Rattle.share_convert.specs.Steps.{HasBits, LacksBits}
use Rattle.block_steps.proofs.Deals.{turn12, refused12}
use Rattle.block_steps.proofs.converting.got12.Goals as goal

pub returns-clause-same : goal.returns-clause-same
returns-clause-same g c =
    let l = c.args.links.now in
    let m = c.in-Some.words.now in
    let fits : HasBits m (3 * c.size-n.result) c.size-n.result c.size-n.result = search rules in
    turn12 g.P.Party.me c.args.state c.in_ok-state.state m l.from_previous.1 c.take.new.self.1 l.from_next.1
    l.to_next c.got12.new.third l.to_previous l.opened.items
    c.requires.second c.in-Some.ensures c.take.ensures.left (subst (λ k. HasBits m (3 * k) k k) c.size-n.ensures.size fits)
    c.in_ok-state.ensures.state c.in_ok-state.ensures.sent

pub returns-in-Err-clause-stands : goal.returns-in-Err-clause-stands
returns-in-Err-clause-stands g c =
    let l = c.args.links.now in
    let m = c.in-Some.words.now in
    refused12 g.P.Party.me (length c.args.state.mask) m c.in-Err.cause l.from_previous.1 l.from_next.1 c.requires.second c.in-Some.ensures
    (subst (λ k. LacksBits m (3 * k) k k c.in-Err.cause) c.size-n.ensures.size c.in-Err.ensures.err)
