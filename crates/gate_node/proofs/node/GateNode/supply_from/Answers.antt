use Rattle.std.proofs.Common.{subst}
use Rattle.std.proofs.lemmas.Result.{MatchResult-weaker}
use Rattle.gate_node.specs.Supplies.{SuppliesFrom}
use Rattle.gate_node.proofs.Supplied.{supplies_from}
use Rattle.gate_node.proofs.node.GateNode.supply_from.Goals as goal

pub returns-clause-ok : goal.returns-clause-ok
returns-clause-ok g c =
    let s = g.T.TapeSource.state c.args.tapes.now in
    let t = g.T.TapeSource.state c.supply_from.new.tapes in
    let e = c.self.inside.engine in
    MatchResult-weaker c.supply_from.result c.supply_from.ensures.ok
    (λ x d.
    subst (λ v. SuppliesFrom c.args.party c.args.count v (record e { tape = c.supply_from.new.self }) s t) c.self.view_is
    (supplies_from c.args.party c.args.count e c.supply_from.new.self s t d))
    (λ e k. k)
