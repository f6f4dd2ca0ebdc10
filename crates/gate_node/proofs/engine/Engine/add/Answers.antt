use Rattle.std.proofs.Common.{◌≡◌, sym, ap, ◌∙◌, Ok, Err, OnErr}
use Rattle.std.specs.Prelude.{Result}
use Rattle.proto_core.specs.Strand.{then_do}
use Rattle.gate_node.specs.declared.wanted.Wanted.TheVariants as wanted
use Rattle.gate_node.specs.OwnGates.{then_gates}
use Rattle.gate_node.specs.Plans.{then_wanted}
use Rattle.gate_node.specs.Nodes.{engine_left, filled}
use Rattle.gate_node.proofs.Turns.{work-more, work-same, engine-kept}
use Rattle.gate_node.proofs.Plans.{all-left, added-behind}
use Rattle.gate_node.proofs.engine.Engine.add.Goals as goal

on_err-of : {T E P : Type 0} (r : Result T E) → P → OnErr r P
on_err-of (Ok x) p = tt
on_err-of (Err x) p = p

pub returns-in_err-append-clause-err : goal.returns-in_err-append-clause-err
returns-in_err-append-clause-err g c =
    let i = g.P.Party.me in
    let e = c.args.self.now in
    let f = c.let_go_gates.new.self in
    let h = record f { gates = c.append-2.new.self } in
    on_err-of c.from_residual-in_err-append.result
    (λ more.
    ap (then_wanted i f.dealt f.wanted) (work-same i (filled f more) h c.in_err-append.ensures.items f.work)
    ∙ engine-kept i e f c.let_go_gates.ensures.left c.let_go_gates.ensures.same more)

pub returns-clause-left : goal.returns-clause-left
returns-clause-left g c =
    let i = g.P.Party.me in
    let e = c.args.self.now in
    let f = c.let_go_gates.new.self in
    let h = record f { gates = c.append-2.new.self } in
    let all : f.wanted ≡ wanted.All = ap (λ v. v.wanted) c.let_go_gates.ensures.same ∙ c.in-All.is in
    λ more.
    all-left i (filled h more) all
    ∙ work-more i c.args.gates.items (filled f more) h c.in_ok-append.ensures.items c.let_go_gates.ensures.within f.work
    ∙ ap (λ s. then_do s (then_gates i f.dealt c.args.gates.items))
    (sym (all-left i (filled f more) all) ∙ engine-kept i e f c.let_go_gates.ensures.left c.let_go_gates.ensures.same more)
    ∙ ap (λ v. then_do (engine_left i (filled e more)) (then_gates i v.dealt c.args.gates.items)) c.let_go_gates.ensures.same

pub returns-in-These-clause-left : goal.returns-in-These-clause-left
returns-in-These-clause-left g c =
    added-behind g.P.Party.me c.args.self.now c.in-These.numbers c.in-These.later c.append.new.self c.in-These.is c.args.gates.items
    c.in_ok-append-in-These.ensures.items
