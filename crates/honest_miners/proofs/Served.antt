-- What three miners come to that run as programs of their own, passed on.
use Rattle.honest_miners.specs.Laws.{ThreeServedMiners}
use Rattle.honest_miners.proofs.ServedRuns as served

pub three_served_miners : ThreeServedMiners
three_served_miners = served.three_served_miners
