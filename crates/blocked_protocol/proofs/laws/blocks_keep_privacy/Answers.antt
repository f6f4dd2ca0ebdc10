use Rattle.blocked_protocol.proofs.BlockViews.{in_blocks-private}
use Rattle.blocked_protocol.proofs.Sizes.{block_sizes-cut}
use Rattle.gates.specs.Blocks.{block_sizes}
use Rattle.blocked_protocol.proofs.laws.blocks_keep_privacy.Goals as goal

pub returns : goal.returns
returns c = λ p blockable sound private. in_blocks-private p blockable sound private block_sizes block_sizes-cut
