use Rattle.shared_gates.proofs.Models.{gates-sized}
use Rattle.shared_gates.proofs.laws.run_gates_are_sized.Goals as goal

pub returns : goal.returns
returns c = gates-sized
