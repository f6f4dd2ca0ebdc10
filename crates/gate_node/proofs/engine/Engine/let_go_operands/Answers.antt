use Rattle.std.proofs.Common.{◌≡◌, [], ◌∷◌, sym, ◌∙◌, ap}
use Rattle.gates.specs.Taken.{numbers_of}
use Rattle.gate_node.specs.Nodes.{last_taken, without_spent}
use Rattle.gate_node.proofs.Plans.{none-let_go, two-let_go}
use Rattle.gate_node.proofs.engine.Engine.let_go_operands.Goals as goal

pub returns-then-is_all-clause-values : goal.returns-then-is_all-clause-values
returns-then-is_all-clause-values g c =
    none-let_go g.P.Party.me c.args.self.now (c.is_all.ensures.all c.if-is_all.true) (last_taken g.P.Party.me c.args.self.now)

pub returns-in-Zero-clause-values : goal.returns-in-Zero-clause-values
returns-in-Zero-clause-values g c =
    ap (λ ks. without_spent g.P.Party.me ks c.args.self.now) (sym (ap numbers_of c.in-Zero.is) ∙ c.last_taken.ensures)

pub returns-in-One-clause-values : goal.returns-in-One-clause-values
returns-in-One-clause-values g c =
    c.let_go_spent.ensures.values
    ∙ ap (λ ks. without_spent g.P.Party.me ks c.args.self.now) (sym (ap numbers_of c.in-One.is) ∙ c.last_taken.ensures)

pub returns-in-Two-clause-values : goal.returns-in-Two-clause-values
returns-in-Two-clause-values g c =
    let i = g.P.Party.me in
    let e = c.args.self.now in
    let one = c.let_go_spent-in-Two.new.self in
    two-let_go i e c.in-Two.first c.in-Two.second one c.let_go_spent-in-Two-2.new.self.values c.let_go_spent-in-Two.ensures.same
    c.let_go_spent-in-Two.ensures.values c.let_go_spent-in-Two-2.ensures.values
    ∙ ap (λ ks. without_spent i ks e) (sym (ap numbers_of c.in-Two.is) ∙ c.last_taken.ensures)
