use Rattle.std.proofs.Common.{◌+◌, length, ◌∙◌, ap, arith}
use Rattle.std.specs.Prelude.{◌==◌}
use Rattle.gates.specs.Counts.{made_by_all}
use Rattle.gate_node.specs.Nodes.{gates_left}
use Rattle.gate_node.proofs.Plans.{too-many}
use Rattle.gate_node.proofs.engine.Engine.counts_to.Goals as goal

pub returns-in-None : goal.returns-in-None
returns-in-None g c =
    too-many c.args.count c.len.result c.left.result.now (gates_left g.P.Party.me c.args.self.now) c.args.self.now.values c.len.ensures c.left.ensures
    c.in-None.ensures (omega arith)

pub returns-in-Some : goal.returns-in-Some
returns-in-Some g c =
    let e = c.args.self.now in
    ap (λ n. n == c.args.count)
    (c.in-Some.ensures.1 ∙ ap (λ n. n + made_by_all c.left.result.now) c.len.ensures ∙ ap (λ l. length e.values + made_by_all l) c.left.ensures)
