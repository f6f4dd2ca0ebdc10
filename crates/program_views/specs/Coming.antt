-- What is still to come to a miner on its two links, and what each entry of a schedule brings it.
use Rattle.std.specs.Prelude.{◌≡◌, ℕ, if◌then◌else◌, List, [], ◌∷◌, Option, Some, None}
use Rattle.proto_core.specs.declared.party.Number.{Number}
use Rattle.proto_core.specs.declared.link.Link.{Link}
use Rattle.proto_core.specs.Parties.{receiver_of, is_same, from_previous, from_next}
use Rattle.proto_core.specs.Strand.{Mail}
use Rattle.proto_core.specs.Net.{mail_of}
use Rattle.protocol_model.specs.Arrivals.{Arrival, arrivals}

-- the messages that are still to come to a miner, from its previous one and from its next one
pub record ToCome : Type 0 where
  pub miner : Number
  pub previous : List (List ℕ)
  pub next : List (List ℕ)

abbrev pub mail_in : ToCome → Mail
mail_in c = mail_of c.miner c.previous c.next

abbrev pub first_of : List (List ℕ) → Option (List ℕ)
first_of [] = None
first_of (m ∷ ms) = Some m

-- the message that an entry brings the miner, if it brings one
abbrev pub brought : ToCome → Link → Option (List ℕ)
brought c l = if is_same (receiver_of l) c.miner then first_of (mail_in c l) else None

abbrev pub come_with : Link → Option (List ℕ) → List Arrival → List Arrival
come_with l None more = more
come_with l (Some m) more = record { link = l; message = m } ∷ more

-- the arrivals by an order in which these are the messages on the miner's two links, whatever the others carry
abbrev pub AreArrivals : Number → (previous next : List (List ℕ)) → List Link → List Arrival → Type 0
AreArrivals i previous next order got =
    (mail : Mail) → mail (from_previous i) ≡ previous → mail (from_next i) ≡ next → got ≡ arrivals i mail order
