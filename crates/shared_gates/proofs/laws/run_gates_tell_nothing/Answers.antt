use Rattle.shared_gates.proofs.Silence.{gates-silent}
use Rattle.shared_gates.proofs.laws.run_gates_tell_nothing.Goals as goal

pub returns : goal.returns
returns c = gates-silent
