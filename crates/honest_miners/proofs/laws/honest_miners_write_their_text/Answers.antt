use Rattle.honest_miners.proofs.Written.{writes_with_honest_peers}
use Rattle.honest_miners.proofs.laws.honest_miners_write_their_text.Goals as goal

pub returns : goal.returns
returns c = writes_with_honest_peers
