use Rattle.protocol_model.proofs.GateSchedules.{moves-along_run}
use Rattle.protocol_model.proofs.laws.gates_move_along_their_scripts.Goals as goal

pub returns : goal.returns
returns c = λ gates values tapes i sound ready. moves-along_run gates values tapes sound ready i
