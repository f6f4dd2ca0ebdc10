use Rattle.std.proofs.Common.{true, sym, ◌∙◌}
use Rattle.gate_node.proofs.Plans.{spent-same, one-spent}
use Rattle.gate_node.proofs.engine.Engine.let_go_spent.Goals as goal

pub returns-then-is_spent-clause-left : goal.returns-then-is_spent-clause-left
returns-then-is_spent-clause-left g c =
    spent-same g.P.Party.me c.args.self.now c.args.number c.let_go.new.self c.requires.idle (sym c.is_spent.ensures ∙ c.if-is_spent.true)
    c.let_go.ensures

pub returns-then-is_spent-clause-values : goal.returns-then-is_spent-clause-values
returns-then-is_spent-clause-values g c =
    c.let_go.ensures ∙ one-spent g.P.Party.me c.args.self.now c.args.number true (sym c.is_spent.ensures ∙ c.if-is_spent.true)
