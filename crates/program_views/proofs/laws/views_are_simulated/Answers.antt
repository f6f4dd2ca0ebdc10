use Rattle.program_views.proofs.Simulated.{views_simulated}
use Rattle.program_views.proofs.laws.views_are_simulated.Goals as goal

pub returns : goal.returns
returns c = views_simulated
