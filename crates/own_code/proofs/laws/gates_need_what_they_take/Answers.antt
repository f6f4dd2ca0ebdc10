use Rattle.own_code.proofs.OwnGates.{gates_need}
use Rattle.own_code.proofs.laws.gates_need_what_they_take.Goals as goal

pub returns : goal.returns
returns c = λ i dealt gates values held tape as_many take. gates_need i dealt values held as_many gates tape take
