use Rattle.own_code.proofs.Made.{gates_make}
use Rattle.own_code.proofs.laws.gates_make_what_they_count.Goals as goal

pub returns : goal.returns
returns c = λ i dealt gates values tape mail. gates_make i dealt gates values tape mail
