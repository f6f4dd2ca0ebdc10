use Rattle.std.proofs.Common.{◌≡◌, length, ◌∙◌, arith}
use Rattle.block_steps.proofs.Rings.{reshared-end}
use Rattle.block_steps.proofs.resharing.sent.Goals as goal

pub returns-clause-same : goal.returns-clause-same
returns-clause-same g c =
    let l = c.args.links.now in
    let fits : length c.in-Some.words.now ≡ length c.args.state.0 = omega (arith, c.size-want.ensures.size) in
    reshared-end g.R.ShareRing.ring g.P.Party.me c.args.state c.take_mask.new.self c.in-Some.words.now c.in_ok-from_slice.field-0.items
    l.from_previous.1 c.take.new.self.1 l.from_next.1 l.to_next l.to_previous l.opened.items c.in-Some.ensures c.take.ensures.left fits
    c.take_mask.ensures (c.in_ok-from_slice.ensures.items ∙ c.share.ensures.share)
