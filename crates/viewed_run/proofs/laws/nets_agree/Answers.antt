use Rattle.viewed_run.proofs.Agreeing.{nets_agree}
use Rattle.viewed_run.proofs.laws.nets_agree.Goals as goal

pub returns : goal.returns
returns c = nets_agree
