use Rattle.input_share.proofs.PartAgain.{part_is_read_again}
use Rattle.input_share.proofs.bounds.public_parts_are_read_again.Goals as goal

pub returns : goal.returns
returns c = part_is_read_again
