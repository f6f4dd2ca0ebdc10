use Rattle.reshare.specs.ResharingLaws.{reshare-lawful}
use Rattle.open_result.proofs.gates.result_is_lawful.Goals as goal

pub returns : goal.returns
returns g c = reshare-lawful g.R.ShareRing.laws
