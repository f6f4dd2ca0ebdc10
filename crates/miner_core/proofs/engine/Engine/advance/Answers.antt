use Rattle.std.proofs.Common.{subst}
use Rattle.gate_node.specs.Nodes as node
use Rattle.miner_core.proofs.Turns.{stands_waits, stands_unfit, stands_wants, stands_over}
use Rattle.miner_core.proofs.engine.Engine.advance.Goals as goal

pub turn-requires-clause-through : goal.turn-requires-clause-through
turn-requires-clause-through g c = subst (λ s. node.StandsAlways g.P.Party.me s c.gates.new.self.node) c.in-Through.is c.in_ok-standing.ensures.stands

pub returns-in-Waits-clause-stands : goal.returns-in-Waits-clause-stands
returns-in-Waits-clause-stands g c =
    stands_waits g.P.Party.me c.gates.new.self c.in_ok-standing.standing c.in-Waits.field-0 c.in-Waits.field-1 c.in-Waits.is c.in_ok-standing.ensures.stands

pub returns-in-Unfit-clause-stands : goal.returns-in-Unfit-clause-stands
returns-in-Unfit-clause-stands g c = stands_unfit g.P.Party.me c.gates.new.self c.in_ok-standing.standing c.in-Unfit.is c.in_ok-standing.ensures.stands

pub returns-in-Wants-clause-stands : goal.returns-in-Wants-clause-stands
returns-in-Wants-clause-stands g c =
    stands_wants g.P.Party.me c.gates.new.self c.in_ok-standing.standing c.in-Wants.field-0 c.in-Wants.is c.in_ok-standing.ensures.stands

pub returns-then-not-more-clause-stands : goal.returns-then-not-more-clause-stands
returns-then-not-more-clause-stands g c =
    stands_over g.P.Party.me c.turn.new.self c.in_ok-standing.standing c.in-Through.is (c.in_ok-more.ensures.over c.if-not-more.true)
