-- What is left of the two protocols in which the first miner deals to the others, by what each miner holds.
use Rattle.std.specs.Prelude.{ℕ, List, length}
use Rattle.proto_core.specs.declared.party.Number.{Number}
use Rattle.proto_core.specs.declared.party.Number.TheVariants as number
use Rattle.proto_core.specs.Strand.{Strand}
use Rattle.share_convert.specs.ConvStrand as conv
use Rattle.split_share.specs.SplitStrand as split
use Rattle.block_steps.specs.declared.converting.Converting.{Converting}
use Rattle.block_steps.specs.declared.converting.Converting.TheVariants as converting
use Rattle.block_steps.specs.declared.splitting.Splitting.{Splitting}
use Rattle.block_steps.specs.declared.splitting.Splitting.TheVariants as splitting

-- whose state it is
abbrev pub converts_at : Converting → Number
converts_at (converting.One held) = number.One
converts_at (converting.TwoFirst held) = number.Two
converts_at (converting.TwoSecond held) = number.Two
converts_at (converting.ThreeFirst held) = number.Three
converts_at (converting.ThreeSecond held) = number.Three

abbrev pub converting_left : Converting → Strand (List (List ℕ))
converting_left (converting.One held) = conv.awaits31 (length held.mask) held
converting_left (converting.TwoFirst held) = conv.awaits12 (length held.mask) held
converting_left (converting.TwoSecond held) = conv.awaits32 (length held.mask) held
converting_left (converting.ThreeFirst held) = conv.awaits13 (length held.mask) held
converting_left (converting.ThreeSecond held) = conv.awaits23 (length held.mask) held

abbrev pub splits_at : Splitting → Number
splits_at (splitting.Two held) = number.Two
splits_at (splitting.Three held) = number.Three

abbrev pub splitting_left : Splitting → Strand (List (List ℕ))
splitting_left (splitting.Two held) = split.awaits12 (length held.share) held
splitting_left (splitting.Three held) = split.awaits13 (length held.share) held
