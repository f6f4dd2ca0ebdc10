use Rattle.std.proofs.Common.{arith}
use Rattle.lane_kernel.proofs.Several.{zip2_same}
use Rattle.lane_kernel.proofs.lanes.AddRingRingLanes.sub_lanes.Goals as goal

pub returns : goal.returns
returns c = zip2_same _ _ c.args.a c.args.b c.requires.a c.requires.b (λ x y a b. omega arith)
