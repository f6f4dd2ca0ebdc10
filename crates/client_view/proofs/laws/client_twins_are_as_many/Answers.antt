use Rattle.client_view.proofs.Twins.{client_twins_many}
use Rattle.client_view.proofs.laws.client_twins_are_as_many.Goals as goal

pub returns : goal.returns
returns c = client_twins_many
