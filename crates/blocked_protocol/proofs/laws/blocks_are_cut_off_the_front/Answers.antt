use Rattle.std.proofs.Common.{refl}
use Rattle.blocked_protocol.proofs.Sizes.{block_sizes-full, block_sizes-last}
use Rattle.blocked_protocol.proofs.laws.blocks_are_cut_off_the_front.Goals as goal

pub returns-clause-none : goal.returns-clause-none
returns-clause-none c = refl

pub returns-clause-full : goal.returns-clause-full
returns-clause-full c = block_sizes-full

pub returns-clause-last : goal.returns-clause-last
returns-clause-last c = block_sizes-last
