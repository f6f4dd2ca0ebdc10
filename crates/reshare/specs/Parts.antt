-- What one of the three miners sends and has at the end.
use Rattle.std.specs.Prelude.{◌≡◌, ℕ, List, [], ◌∷◌}
use Rattle.proto_core.specs.Ring.{Ring}
use Rattle.proto_core.specs.declared.party.Number.{Number}
use Rattle.proto_core.specs.Parties.{to_next}
use Rattle.proto_core.specs.Strand.{Sent, Ends}
use Rattle.proto_core.specs.Net.{nothing, run_of}
use Rattle.proto_core.specs.Protocol.{Joint, strands_of}
use Rattle.reshare.specs.Resharing.{reshare_protocol, reshare_messages, reshare_output}

-- its message and its new share are the joint run's, and what its own part does with the others' messages
pub record IsPart (r : Ring) (n : ℕ) (i : Number) (j : Joint) (mask share : List ℕ) : Type 0 where
  pub sent : mask ∷ [] ≡ reshare_messages j (to_next i)
  pub output : share ∷ [] ≡ reshare_output r n j i
  pub runs :
      run_of (strands_of (reshare_protocol r) n j) (reshare_messages j) i
      ≡ record { acts = Sent (to_next i) mask ∷ []; left = Ends (share ∷ []); unread = nothing }
