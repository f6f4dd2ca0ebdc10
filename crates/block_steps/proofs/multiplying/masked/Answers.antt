use Rattle.std.proofs.Common.{◌≡◌, ◌*◌, [], ◌∷◌, ◌++◌, length, ◌∙◌, ap, arith}
use Rattle.block_steps.proofs.Rings.{masked-turn}
use Rattle.block_steps.proofs.multiplying.masked.Goals as goal

pub returns-clause-same : goal.returns-clause-same
returns-clause-same g c =
    let l = c.args.links.now in
    let after = c.cross.new.self in
    let fits : length c.in-Some.words.now ≡ 3 * length c.args.state.mask = omega (arith, c.size.ensures.size) in
    masked-turn g.R.ShareRing.ring g.P.Party.me c.args.state after c.in-Some.words.now l.from_previous.1 c.take.new.self.1 l.from_next.1
    l.to_next c.push_two.new.self l.to_previous l.opened.items c.in-Some.ensures c.take.ensures.left fits c.cross.ensures
    (c.in_ok-push_two.ensures.ok ∙ ap (λ w. l.to_next ++ (w ++ c.factors.result.1.now) ∷ []) c.factors.ensures.u
    ∙ ap (λ w. l.to_next ++ (after.u ++ w) ∷ []) c.factors.ensures.v)
