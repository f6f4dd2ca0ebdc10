-- What one of the three miners sends and opens.
use Rattle.std.specs.Prelude.{◌≡◌, ℕ, [], ◌∷◌}
use Rattle.proto_core.specs.Ring.{Ring}
use Rattle.proto_core.specs.declared.party.Number.{Number}
use Rattle.proto_core.specs.declared.party.Number.TheVariants.{One, Two, Three}
use Rattle.proto_core.specs.Parties.{to_next, to_previous}
use Rattle.proto_core.specs.Net.{run_of}
use Rattle.proto_core.specs.Protocol.{Joint, strands_of}
use Rattle.proto_core.specs.Resharing.{sum_of_three}
use Rattle.open_result.specs.declared.together.Part.{Part}
use Rattle.open_result.specs.Opening.{open_protocol, open_messages, opened_words, finished}

-- its messages and its opened words are the joint run's, and what its own part does with the others' messages; what it
-- opens is the value
pub record IsPart (r : Ring) (n : ℕ) (i : Number) (j : Joint) (part : Part) : Type 0 where
  pub forward : part.mask ∷ part.to_next ∷ [] ≡ open_messages r n j (to_next i)
  pub backward : part.to_previous ∷ [] ≡ open_messages r n j (to_previous i)
  pub output : part.opened ≡ opened_words r n j
  pub value : part.opened ≡ sum_of_three r n (j.u One) (j.u Two) (j.u Three)
  pub runs :
      run_of (strands_of (open_protocol r) n j) (open_messages r n j) i
      ≡ finished i part.mask part.to_next part.to_previous part.opened
