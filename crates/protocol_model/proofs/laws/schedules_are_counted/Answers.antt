use Rattle.protocol_model.proofs.GateSchedules.{schedule-counted}
use Rattle.protocol_model.proofs.NetCounts.{walked-counted}
use Rattle.protocol_model.proofs.laws.schedules_are_counted.Goals as goal

pub returns-clause-any_state : goal.returns-clause-any_state
returns-clause-any_state c =
    λ nodes scripts full outputs order entry mail f moves begins.
    walked-counted nodes scripts full outputs f moves order entry mail begins

pub returns-clause-gates : goal.returns-clause-gates
returns-clause-gates c = λ gates values tapes delivery sound ready. schedule-counted gates values tapes sound ready delivery
