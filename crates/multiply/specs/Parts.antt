-- What one of the three miners sends, and its share of the product.
use Rattle.std.specs.Prelude.{◌≡◌, ℕ, [], ◌∷◌, List}
use Rattle.proto_core.specs.Ring.{Ring}
use Rattle.proto_core.specs.declared.party.Number.{Number}
use Rattle.proto_core.specs.Parties.{to_next}
use Rattle.proto_core.specs.Protocol.{Joint}
use Rattle.multiply.specs.Multiplying.{mul_messages, product_of}

-- its messages and its share are the protocol's
pub record IsPart (r : Ring) (n : ℕ) (i : Number) (j : Joint) (masks factors share : List ℕ) : Type 0 where
  pub sent : masks ∷ factors ∷ [] ≡ mul_messages r n j (to_next i)
  pub output : share ≡ product_of r n j i
