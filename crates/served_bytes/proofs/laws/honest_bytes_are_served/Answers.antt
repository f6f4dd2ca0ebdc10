use Rattle.served_bytes.proofs.Messages.{ends_on_honest_bytes}
use Rattle.served_bytes.proofs.laws.honest_bytes_are_served.Goals as goal

pub returns : goal.returns
returns c = λ framed. ends_on_honest_bytes framed
