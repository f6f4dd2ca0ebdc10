use Rattle.view_model.proofs.Corresponding.{correspond}
use Rattle.view_model.proofs.laws.whole_tapes_correspond.Goals as goal

pub returns : goal.returns
returns c = correspond
