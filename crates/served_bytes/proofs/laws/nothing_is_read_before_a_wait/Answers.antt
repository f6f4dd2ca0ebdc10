use Rattle.served_bytes.proofs.Messages.{goes_to_its_wait}
use Rattle.served_bytes.proofs.laws.nothing_is_read_before_a_wait.Goals as goal

pub returns : goal.returns
returns c = λ framed. goes_to_its_wait framed
