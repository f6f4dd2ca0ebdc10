use Rattle.proto_core.proofs.Nets.{schedule-begins, complete-is}
use Rattle.protocol_model.proofs.laws.every_order_is_the_run.Goals as goal

pub returns : goal.returns
returns c =
    λ nodes full outputs order f.
    record { begins = schedule-begins nodes full outputs f order; complete = complete-is nodes full outputs f order }
