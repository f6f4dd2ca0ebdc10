use Rattle.program_views.proofs.Nets.{nets_counted, nets_alike}
use Rattle.program_views.proofs.laws.nets_are_counted.Goals as goal

pub returns : goal.returns
returns c = record { counted = nets_counted; alike = nets_alike }
