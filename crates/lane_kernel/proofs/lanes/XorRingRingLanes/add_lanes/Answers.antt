use Rattle.proto_core.specs.RingsKeepLaws.{xor_is_word}
use Rattle.lane_kernel.proofs.Several.{zip2_same}
use Rattle.lane_kernel.proofs.lanes.XorRingRingLanes.add_lanes.Goals as goal

pub returns : goal.returns
returns c = zip2_same _ _ c.args.a c.args.b c.requires.a c.requires.b xor_is_word
