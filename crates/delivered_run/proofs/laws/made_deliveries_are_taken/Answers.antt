use Rattle.delivered_run.proofs.Taken.{made_deliveries_are_taken}
use Rattle.delivered_run.proofs.laws.made_deliveries_are_taken.Goals as goal

pub returns : goal.returns
returns c = made_deliveries_are_taken
