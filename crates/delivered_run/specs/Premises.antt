-- What is asked so that a delivery leaves nothing to come: inputs and tapes of words, and no list of links.
use Rattle.std.specs.Prelude.{List}
use Rattle.proto_core.specs.declared.party.Number.{Number}
use Rattle.proto_core.specs.Lists.{AreWords}
use Rattle.protocol_model.specs.Network.{Delivery, Listed}
use Rattle.tape_file.specs.Tapes.{FourTapes}
use Rattle.value_file.specs.declared.inputs.Entry.{Entry}
use Rattle.view_model.specs.TapeMaps.{miners_of}
use Rattle.program_run.specs.Inputs.{AreSound}

-- inputs that may stand in a file, of words, and tapes of words
pub record HaveWords (entries : List Entry) (t : FourTapes) : Type 0 where
  pub sound : AreSound entries
  pub dealer : AreWords t.dealer
  pub words : (i : Number) → AreWords (miners_of t i)

-- no list of links is given for it
abbrev pub IsMade : Delivery → Type 0
IsMade (Listed links) = ⊥
IsMade _ = Unit {0}
