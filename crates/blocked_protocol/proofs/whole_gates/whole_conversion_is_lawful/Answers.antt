use Rattle.gates.specs.Blocks.{block_sizes}
use Rattle.blocked_protocol.proofs.Sizes.{block_sizes-cut}
use Rattle.blocked_protocol.proofs.WholeGates.{conv_whole}
use Rattle.blocked_protocol.proofs.whole_gates.whole_conversion_is_lawful.Goals as goal

pub returns : goal.returns
returns c = conv_whole block_sizes block_sizes-cut
