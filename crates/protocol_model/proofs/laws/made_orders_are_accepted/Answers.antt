use Rattle.protocol_model.proofs.GateSchedules.{made-order_accepted}
use Rattle.protocol_model.proofs.MadeOrders.{made-accepted}
use Rattle.protocol_model.proofs.laws.made_orders_are_accepted.Goals as goal

pub returns-clause-any_state : goal.returns-clause-any_state
returns-clause-any_state c =
    λ nodes scripts full outputs words fuel entry mail f moves begins enough.
    made-accepted nodes scripts full outputs f moves words fuel entry mail begins enough

pub returns-clause-default : goal.returns-clause-default
returns-clause-default c = λ gates values tapes sound ready. made-order_accepted gates values tapes sound ready (λ k. 0)

pub returns-clause-shuffled : goal.returns-clause-shuffled
returns-clause-shuffled c = λ gates values tapes words sound ready. made-order_accepted gates values tapes sound ready words
