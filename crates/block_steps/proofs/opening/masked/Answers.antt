use Rattle.std.proofs.Common.{◌≡◌, [], ◌∷◌, ◌++◌, length, ◌∙◌, ap, arith}
use Rattle.block_steps.proofs.Rings.{mask-turn}
use Rattle.block_steps.proofs.opening.masked.Goals as goal

pub returns-clause-same : goal.returns-clause-same
returns-clause-same g c =
    let l = c.args.links.now in
    let fits : length c.in-Some.words.now ≡ length c.args.state.0 = omega (arith, c.size-want.ensures.size) in
    mask-turn g.R.ShareRing.ring g.P.Party.me c.args.state c.take_mask.new.self c.in-Some.words.now l.from_previous.1 c.take.new.self.1 l.from_next.1
    l.to_next c.push_words.new.self l.to_previous c.push_words-2.new.self l.opened.items c.in-Some.ensures c.take.ensures.left fits c.take_mask.ensures
    (c.in_ok-push_words.ensures.ok ∙ ap (λ w. l.to_next ++ w ∷ []) c.share.ensures.share)
    (c.in_ok-push_words-2.ensures.ok ∙ ap (λ w. l.to_previous ++ w ∷ []) c.share-2.ensures.share)
