use Rattle.view_model.proofs.Simulated.{shares_made}
use Rattle.view_model.proofs.laws.shares_are_simulated.Goals as goal

pub returns : goal.returns
returns c = λ i entries gates t are enough reaches. shares_made i entries gates t are enough reaches
