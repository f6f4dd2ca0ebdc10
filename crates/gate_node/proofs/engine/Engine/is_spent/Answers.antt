use Rattle.std.proofs.Common.{sym}
use Rattle.gate_node.proofs.Plans.{none-unwanted}
use Rattle.gate_node.proofs.engine.Engine.is_spent.Goals as goal

pub returns-in-All : goal.returns-in-All
returns-in-All g c = sym (none-unwanted g.P.Party.me c.args.self.now c.args.number c.in-All.is)
