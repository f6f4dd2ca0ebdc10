use Rattle.client_view.proofs.Maps.{client_tapes}
use Rattle.client_view.proofs.laws.client_tapes_correspond.Goals as goal

pub returns : goal.returns
returns c = client_tapes
