-- Inputs and tapes that can be dealt.
use Rattle.std.specs.Prelude.{List}
use Rattle.proto_core.specs.declared.party.Number.{Number}
use Rattle.proto_core.specs.Lists.{AreWords}
use Rattle.tape_file.specs.Tapes.{FourTapes}
use Rattle.value_file.specs.declared.inputs.Entry.{Entry}
use Rattle.code_inputs.specs.TapeMaps.{miners_of}
use Rattle.code_inputs.specs.Inputs.{AreSound, Suffice}

-- inputs of words, and tapes of words of which the dealer's suffices
pub record CanBeDealt (entries : List Entry) (t : FourTapes) : Type 0 where
  pub sound : AreSound entries
  pub suffice : Suffice entries t.dealer
  pub words : (i : Number) → AreWords (miners_of t i)
