use Rattle.gate_laws.proofs.Walks.{keep_standing}
use Rattle.gate_laws.proofs.laws.steps_make_suited_gates.Goals as goal

pub returns : goal.returns
returns c = keep_standing
