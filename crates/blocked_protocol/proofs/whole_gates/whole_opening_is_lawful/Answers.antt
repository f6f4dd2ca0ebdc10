use Rattle.gates.specs.Blocks.{block_sizes}
use Rattle.blocked_protocol.proofs.Sizes.{block_sizes-cut}
use Rattle.blocked_protocol.proofs.WholeGates.{open_whole}
use Rattle.blocked_protocol.proofs.whole_gates.whole_opening_is_lawful.Goals as goal

pub returns : goal.returns
returns c = λ r laws. open_whole block_sizes block_sizes-cut laws
