-- A miner's share file, as contracts see it.
use Rattle.std.specs.Prelude.{ℕ, List, Option, Some, None}
use Rattle.proto_core.specs.declared.party.Number.{Number}
use Rattle.input_share.specs.declared.entry.Part.{Part}
use Rattle.input_share.specs.declared.entry.Part.TheVariants.{Public, Private}
use Rattle.input_share.specs.declared.entry.ShareEntry.{ShareEntry}

-- the inputs, in order, the lengths of the tapes of the dealer and of miners 1, 2 and 3, and the miner whose file it is
pub record MinerFile : Type 0 where
  pub entries : List ShareEntry
  pub lens : List ℕ
  pub miner : Number

-- the share words of a private input; a public one has none
abbrev pub words_in : Part → Option (List ℕ)
words_in (Public value) = None
words_in (Private shared) = Some shared.words
