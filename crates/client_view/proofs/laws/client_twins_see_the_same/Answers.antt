use Rattle.client_view.proofs.Twins.{client_twins_see}
use Rattle.client_view.proofs.laws.client_twins_see_the_same.Goals as goal

pub returns : goal.returns
returns c = client_twins_see
