use Rattle.client_view.proofs.Simulated.{client_views}
use Rattle.client_view.proofs.laws.client_views_are_simulated.Goals as goal

pub returns : goal.returns
returns c = client_views
