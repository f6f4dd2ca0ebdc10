use Rattle.served_bytes.proofs.Messages.{serves_its_messages}
use Rattle.served_bytes.proofs.laws.bytes_are_served_as_messages.Goals as goal

pub returns : goal.returns
returns c = λ framed. serves_its_messages framed
