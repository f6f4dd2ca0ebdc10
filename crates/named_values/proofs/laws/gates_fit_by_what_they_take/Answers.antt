use Rattle.named_values.proofs.Operands.{fit_same}
use Rattle.named_values.proofs.laws.gates_fit_by_what_they_take.Goals as goal

pub returns : goal.returns
returns c = fit_same
