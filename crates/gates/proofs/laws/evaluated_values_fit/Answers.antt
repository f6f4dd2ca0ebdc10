use Rattle.gates.proofs.Growing.{evaluated_fits}
use Rattle.gates.proofs.laws.evaluated_values_fit.Goals as goal

pub returns : goal.returns
returns c = evaluated_fits
