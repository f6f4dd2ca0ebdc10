-- What a miner sends and takes in one block of a gate.
use Rattle.std.specs.Prelude.{List, []}
use Rattle.proto_core.specs.declared.party.Number.{Number}
use Rattle.multiply.specs.Multiplying.{mul_script}
use Rattle.open_result.specs.Opening.{open_script}
use Rattle.reshare.specs.Resharing.{reshare_script}
use Rattle.share_convert.specs.Converting.{conv_script}
use Rattle.split_share.specs.Splitting.{split_script}
use Rattle.gates.specs.declared.gate.Gate.{Gate}
use Rattle.gates.specs.declared.gate.Gate.TheVariants.{Mul, And, Split, Conv, Open, Result}
use Rattle.counted_net.specs.declared.moves.Move.{Move}
use Rattle.counted_net.specs.Scripts.{links_in}

-- by a full block of its protocol; nothing where the gate sends no message
abbrev pub block_moves : Gate → Number → List Move
block_moves (Mul u v) i = links_in (mul_script 512 i)
block_moves (And u v) i = links_in (mul_script 512 i)
block_moves (Split u negated) i = links_in (split_script 512 i)
block_moves (Conv u) i = links_in (conv_script 512 i)
block_moves (Open ring u) i = links_in (open_script 512 i)
block_moves (Result ring u) i = links_in (reshare_script 512 i)
block_moves _ i = []
