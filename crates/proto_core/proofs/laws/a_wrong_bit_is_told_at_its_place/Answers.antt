use Rattle.proto_core.proofs.Refusing.{wrong_bit_is_told}
use Rattle.proto_core.proofs.laws.a_wrong_bit_is_told_at_its_place.Goals as goal

pub returns : goal.returns
returns c = wrong_bit_is_told
