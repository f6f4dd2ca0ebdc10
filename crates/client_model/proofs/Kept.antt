-- What the client is given are the miners' kept shares, laid beside one another.
use Rattle.std.proofs.Common.{◌≡◌, ℕ, ◌+◌, Bool, true, false, List, [], ◌∷◌, ◌++◌, refl, ap}
use Rattle.proto_core.specs.declared.party.Number.{Number}
use Rattle.proto_core.specs.declared.party.Number.TheVariants.{One, Two, Three}
use Rattle.gates.specs.declared.gate.Gate.{Gate}
use Rattle.gates.specs.declared.gate.Gate.TheVariants.{Result}
use Rattle.gates.specs.Clear.{Values, value}
use Rattle.gates.specs.Counts.{made_by}
use Rattle.handed_shares.specs.Handed.{kept_by, kept_from}
use Rattle.client_model.specs.Given.{Given, given_by, given_from, beside}

abbrev IsKept : (mine : ℕ → Bool) (shares : Number → Values) → List Gate → (next : ℕ) → Type 0
IsKept mine shares gates next =
    beside (kept_from mine next (shares One) gates) (kept_from mine next (shares Two) gates) (kept_from mine next (shares Three) gates)
    ≡ given_from mine next shares gates

pub given-kept : (mine : ℕ → Bool) (shares : Number → Values) (gates : List Gate) (next : ℕ) → IsKept mine shares gates next
given-kept mine shares [] next = refl
given-kept mine shares (Result ring u ∷ gates) next = either (mine next) (given-kept mine shares gates (next + 1))
  where
    either : (b : Bool) → IsKept mine shares gates (next + 1)
        → beside (kept_by (Result ring u) b next (shares One) ++ kept_from mine (next + 1) (shares One) gates)
        (kept_by (Result ring u) b next (shares Two) ++ kept_from mine (next + 1) (shares Two) gates)
        (kept_by (Result ring u) b next (shares Three) ++ kept_from mine (next + 1) (shares Three) gates)
        ≡ given_by (Result ring u) b next shares ++ given_from mine (next + 1) shares gates
    either true rest =
        ap (λ (gs : List Given). record { first = value (shares One) next; second = value (shares Two) next; third = value (shares Three) next } ∷ gs) rest
    either false rest = rest
given-kept mine shares (gate ∷ gates) next = given-kept mine shares gates (next + made_by gate)
