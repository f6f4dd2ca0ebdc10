use Rattle.std.proofs.Common.{◌≡◌, ◌≤◌, ◌++◌, length, sym, ◌∙◌, ap, subst, arith}
use Rattle.std.proofs.lemmas.List.{drop_all}
use Rattle.proto_core.specs.Strand.{Ends}
use Rattle.gate_node.specs.OwnGates.{Whole, own_gates}
use Rattle.gate_node.specs.Nodes.{work_left, engine_left, filled}
use Rattle.gate_node.proofs.Plans.{all-left}
use Rattle.gate_node.proofs.engine.Engine.begin_gate.Goals as goal

pub returns-then-self-len-clause-stands : goal.returns-then-self-len-clause-stands
returns-then-self-len-clause-stands g c =
    λ more.
    let i = g.P.Party.me in
    let e = c.args.self.now in
    let all : length e.gates.items ≤ e.begun = omega (arith, c.if-self-len.true, c.len.ensures, e.gates.ok) in
    let none = c.end_plan.ensures.none c.if-end_plan.false in
    subst (λ v. engine_left i (filled v more) ≡ Ends (Whole v.values (v.tape.1 ++ more))) (sym none.1)
    (all-left i (filled e more) none.0
    ∙ ap (work_left i (filled e more)) c.requires.idle
    ∙ ap (λ l. own_gates i e.dealt l e.values (e.tape.1 ++ more)) (drop_all e.begun e.gates.items all))
