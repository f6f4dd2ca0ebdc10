use Rattle.lane_kernel.proofs.Several.{and_is_word}
use Rattle.lane_kernel.proofs.Several.{zip2_same}
use Rattle.lane_kernel.proofs.lanes.XorRingRingLanes.mul_lanes.Goals as goal

pub returns : goal.returns
returns c = zip2_same _ _ c.args.a c.args.b c.requires.a c.requires.b and_is_word
