use Rattle.protocol_model.proofs.Coming.{come-in_order}
use Rattle.protocol_model.proofs.laws.messages_come_in_order.Goals as goal

pub returns : goal.returns
returns c = λ nodes full outputs order entry mail i f begins e. come-in_order nodes full outputs f i order entry mail begins e
