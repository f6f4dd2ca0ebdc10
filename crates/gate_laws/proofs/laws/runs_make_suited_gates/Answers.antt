use Rattle.gate_laws.proofs.Walks.{make_suited_gates}
use Rattle.gate_laws.proofs.laws.runs_make_suited_gates.Goals as goal

pub returns : goal.returns
returns c = make_suited_gates
