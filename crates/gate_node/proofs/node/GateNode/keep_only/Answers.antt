use Rattle.std.proofs.Common.{◌≡◌, length, subst}
use Rattle.gates.specs.Clear.{value}
use Rattle.gate_node.proofs.LettingGo.{as_many_still, kept_still}
use Rattle.gate_node.proofs.node.GateNode.keep_only.Goals as goal

pub returns-clause-as_many : goal.returns-clause-as_many
returns-clause-as_many g c =
    let after = c.keep_only.new.self.values in
    subst (λ v. length after ≡ length v.values) c.self.view_is
    (as_many_still c.args.numbers.now c.self.inside.engine after c.keep_only.ensures.let_go c.keep_only.ensures.only_then)

pub returns-clause-kept : goal.returns-clause-kept
returns-clause-kept g c = λ k h.
    let after = c.keep_only.new.self.values in
    subst (λ v. value after k ≡ value v.values k) c.self.view_is
    (kept_still c.args.numbers.now c.self.inside.engine after c.keep_only.ensures.let_go c.keep_only.ensures.only_then k h)
