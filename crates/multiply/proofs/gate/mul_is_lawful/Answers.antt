use Rattle.multiply.specs.MultiplyingLaws.{mul_lawful}
use Rattle.multiply.proofs.gate.mul_is_lawful.Goals as goal

pub returns : goal.returns
returns g c = mul_lawful g.R.ShareRing.laws
