use Rattle.std.proofs.Common.{sym, ◌∙◌, ap, subst}
use Rattle.protocol_model.specs.Network as network
use Rattle.counted_net.specs.Scripts.{plain_of}
use Rattle.counted_net.specs.Answers.{delivery_seen, IsNetAnswer}
use Rattle.counted_net.proofs.Shapes.{answer_of}
use Rattle.counted_net.proofs.answer.deliver_counts.Goals as goal

pub returns-in-InTurn : goal.returns-in-InTurn
returns-in-InTurn c =
    λ moves are.
    answer_of c.args.scripts.now moves are (delivery_seen c.args.delivery.now) c.in_turn.result
    (subst (λ (given : network.Delivery). IsNetAnswer (plain_of c.args.scripts.now) given c.in_turn.result) (sym (ap delivery_seen c.in-InTurn.is))
    c.in_turn.ensures)

pub returns-in-Scheduled : goal.returns-in-Scheduled
returns-in-Scheduled c =
    λ moves are.
    answer_of c.args.scripts.now moves are (delivery_seen c.args.delivery.now) c.scheduled.result
    (subst (λ (given : network.Delivery). IsNetAnswer (plain_of c.args.scripts.now) given c.scheduled.result)
    (ap network.Listed c.deref.ensures.value ∙ sym (ap delivery_seen c.in-Scheduled.is)) c.scheduled.ensures)

pub returns-in-Shuffled : goal.returns-in-Shuffled
returns-in-Shuffled c =
    λ moves are.
    answer_of c.args.scripts.now moves are (delivery_seen c.args.delivery.now) c.shuffled.result
    (subst (λ (given : network.Delivery). IsNetAnswer (plain_of c.args.scripts.now) given c.shuffled.result) (sym (ap delivery_seen c.in-Shuffled.is))
    c.shuffled.ensures)
