use Rattle.std.proofs.Common.{◌∙◌, arith}
use Rattle.gate_node.proofs.Plans.{last-begun}
use Rattle.gate_node.proofs.engine.Engine.last_taken.Goals as goal

pub returns : goal.returns
returns g c =
    let e = c.args.self.now in
    let gate = c.index-gate.result.now in
    c.operands.ensures ∙ last-begun e.begun e.gates.items gate (omega arith) c.requires.within c.index-gate.ensures
