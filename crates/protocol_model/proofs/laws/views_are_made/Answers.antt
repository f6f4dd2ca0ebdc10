use Rattle.protocol_model.proofs.GateViews.{run-made}
use Rattle.protocol_model.proofs.laws.views_are_made.Goals as goal

pub returns : goal.returns
returns c = run-made
