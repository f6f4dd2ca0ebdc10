use Rattle.std.proofs.Common.{◌≡◌, ◌++◌, length, ◌∙◌, ap, arith}
use Rattle.block_steps.proofs.Rings.{opened-end}
use Rattle.block_steps.proofs.opening.from_next.Goals as goal

pub returns-clause-same : goal.returns-clause-same
returns-clause-same g c =
    let l = c.args.links.now in
    let fits : length c.in-Some.words.now ≡ length c.args.state.0 = omega (arith, c.size-want.ensures.size) in
    opened-end g.R.ShareRing.ring g.P.Party.me c.args.state c.in-Some.words.now c.into_sum-opened.result.items l.from_next.1 c.take.new.self.1
    l.from_previous.1 l.to_next l.to_previous l.opened.items c.extend_from_slice.new.self.items c.in-Some.ensures c.take.ensures.left fits
    c.into_sum-opened.ensures (c.in_ok-extend_from_slice.ensures.items ∙ ap (λ w. l.opened.items ++ w) c.deref.ensures.value)
