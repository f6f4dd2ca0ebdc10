use Rattle.proto_core.specs.RingsKeepLaws.{xor_ring_laws}
use Rattle.proto_core.proofs.ring.xor_ring_is_a_ring.Goals as goal

pub returns : goal.returns
returns c = xor_ring_laws
