use Rattle.open_result.specs.OpeningLaws.{open-lawful}
use Rattle.open_result.proofs.gates.open_is_lawful.Goals as goal

pub returns : goal.returns
returns g c = open-lawful g.R.ShareRing.laws
