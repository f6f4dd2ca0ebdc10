use Rattle.shared_gates.proofs.OwnShares.{own-same}
use Rattle.shared_gates.proofs.laws.simulators_read_own_shares_alone.Goals as goal

pub returns : goal.returns
returns c = λ i dealt others dealt_sizes sizes gates same. own-same i dealt others same dealt_sizes sizes gates
