use Rattle.gate_node.proofs.OwnGates.{run-behind}
use Rattle.gate_node.proofs.laws.later_gates_are_run_behind.Goals as goal

pub returns : goal.returns
returns c = λ i dealt before behind values tape. run-behind i dealt behind before values tape
