use Rattle.view_model.proofs.Twins.{is_twin}
use Rattle.view_model.proofs.laws.twins_give_the_same_view.Goals as goal

pub returns : goal.returns
returns c = is_twin
