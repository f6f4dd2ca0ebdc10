use Rattle.blocked_protocol.proofs.BlockRuns.{in_blocks-sound}
use Rattle.blocked_protocol.proofs.Sizes.{block_sizes-cut}
use Rattle.gates.specs.Blocks.{block_sizes}
use Rattle.blocked_protocol.proofs.laws.blocks_keep_soundness.Goals as goal

pub returns : goal.returns
returns c = λ p blockable sound. in_blocks-sound p blockable sound block_sizes block_sizes-cut
