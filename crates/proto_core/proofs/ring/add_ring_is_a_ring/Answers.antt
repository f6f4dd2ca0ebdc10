use Rattle.proto_core.specs.RingsKeepLaws.{add_ring_laws}
use Rattle.proto_core.proofs.ring.add_ring_is_a_ring.Goals as goal

pub returns : goal.returns
returns c = add_ring_laws
