use Rattle.view_model.proofs.Simulated.{seen_is_made}
use Rattle.view_model.proofs.laws.views_are_simulated.Goals as goal

pub returns : goal.returns
returns c = λ i entries gates t delivery are enough reaches. seen_is_made i entries gates t are enough reaches delivery
