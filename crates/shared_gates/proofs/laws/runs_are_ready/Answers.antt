use Rattle.shared_gates.proofs.Drawn.{run-ready}
use Rattle.shared_gates.proofs.laws.runs_are_ready.Goals as goal

pub returns : goal.returns
returns c = run-ready
