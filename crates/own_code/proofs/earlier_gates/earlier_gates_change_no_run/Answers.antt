use Rattle.own_code.proofs.OtherGates.{runs_alike}
use Rattle.own_code.proofs.earlier_gates.earlier_gates_change_no_run.Goals as goal

pub returns : goal.returns
returns c = λ w. λ code. λ i. λ dealt. runs_alike w code i dealt
