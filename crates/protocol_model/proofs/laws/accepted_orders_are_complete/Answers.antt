use Rattle.protocol_model.proofs.Completing.{accepted-complete}
use Rattle.protocol_model.proofs.laws.accepted_orders_are_complete.Goals as goal

pub returns : goal.returns
returns c = λ nodes full outputs order entry mail f begins e. accepted-complete nodes full outputs f order entry mail begins e
