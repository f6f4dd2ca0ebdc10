use Rattle.input_share.proofs.AddUpLaws.{add_up}
use Rattle.input_share.proofs.add_up.shares_add_up.Goals as goal

pub returns : goal.returns
returns c = add_up
