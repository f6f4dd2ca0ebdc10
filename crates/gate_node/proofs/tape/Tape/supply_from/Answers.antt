use Rattle.std.proofs.Common.{drop, subst}
use Rattle.std.proofs.lemmas.Result.{MatchResult-weaker}
use Rattle.gate_node.specs.Supplies.{SuppliesTape}
use Rattle.gate_node.proofs.Tapes.{supplies_tape}
use Rattle.gate_node.proofs.tape.Tape.supply_from.Goals as goal

pub returns-clause-ok : goal.returns-clause-ok
returns-clause-ok g c =
    let s = g.T.TapeSource.state c.args.tapes.now in
    let t = g.T.TapeSource.state c.draw_to.new.tapes in
    let h = c.self.inside in
    let after = c.draw_to.new.words.items in
    MatchResult-weaker c.draw_to.result c.draw_to.ensures.ok
    (λ x d.
    subst (λ v. SuppliesTape c.args.party c.args.count v (after, drop h.drawn after) s t) c.self.view_is
    (supplies_tape c.args.party c.args.count h.drawn h.words.items after s t c.self.invariant d))
    (λ e k. k)
