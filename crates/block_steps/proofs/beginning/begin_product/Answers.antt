use Rattle.std.proofs.Common.{length, ap, sym, ◌∙◌}
use Rattle.gates.specs.Clear.{ring_of}
use Rattle.multiply.specs.MulStrand.{mul_strand}
use Rattle.block_steps.specs.Outcomes.{outcome_of}
use Rattle.block_steps.proofs.beginning.begin_product.Goals as goal

pub returns-in_ok-block-in-Arithmetic-clause-same : goal.returns-in_ok-block-in-Arithmetic-clause-same
returns-in_ok-block-in-Arithmetic-clause-same g c =
    let i = g.P.Party.me in
    let a = c.args in
    c.in_ok-block-in-Arithmetic.ensures.same
    ∙ ap (λ r. outcome_of i a.links.now (mul_strand (ring_of r) (length a.u.now) i a.u.now a.v.now a.words.now)) (sym c.in-Arithmetic.is)

pub returns-in_ok-block-in-Boolean-clause-same : goal.returns-in_ok-block-in-Boolean-clause-same
returns-in_ok-block-in-Boolean-clause-same g c =
    let i = g.P.Party.me in
    let a = c.args in
    c.in_ok-block-in-Boolean.ensures.same
    ∙ ap (λ r. outcome_of i a.links.now (mul_strand (ring_of r) (length a.u.now) i a.u.now a.v.now a.words.now)) (sym c.in-Boolean.is)
