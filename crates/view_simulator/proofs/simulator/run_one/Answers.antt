use Rattle.std.proofs.Common.{◌∷◌, [], ◌++◌, ◌∙◌, ap}
use Rattle.view_simulator.proofs.Turns.{one-through}
use Rattle.view_simulator.proofs.simulator.run_one.Goals as goal

pub returns-clause-through : goal.returns-clause-through
returns-clause-through g c =
    λ all tape ends.
    one-through g.P.Party.me c.args.node.now c.add.new.self c.advance.new.self c.args.gate.now c.push.new.self.items c.in_ok-advance.field-0 c.requires
    (c.in_ok-push.ensures.items ∙ ap (λ l. l ++ c.in_ok-copy.field-0 ∷ []) c.new-gates.ensures.items ∙ ap (λ x. x ∷ []) c.in_ok-copy.ensures)
    c.in_ok-add.ensures.left c.in_ok-add.ensures.kept c.in_ok-advance.ensures.same c.in_ok-advance.ensures.stands all tape ends
