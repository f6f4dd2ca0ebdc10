-- What the client is given of the values that are handed over, and what the simulator makes of it.
use Rattle.std.specs.Prelude.{ℕ, ◌+◌, Bool, true, false, List, [], ◌∷◌, ◌++◌, drop}
use Rattle.proto_core.specs.Ring.{Ring}
use Rattle.proto_core.specs.declared.party.Number.{Number}
use Rattle.proto_core.specs.declared.party.Number.TheVariants.{One, Two, Three}
use Rattle.protocol_model.specs.Gates.{needed}
use Rattle.protocol_model.specs.Runs.{Tapes, drawn}
use Rattle.blocked_protocol.specs.Blocked.{blocked}
use Rattle.blocked_protocol.specs.Opening.{left_of_opened}
use Rattle.blocked_protocol.specs.Resharing.{reshare_protocol}
use Rattle.gates.specs.declared.gate.Gate.{Gate}
use Rattle.gates.specs.declared.gate.Gate.TheVariants.{Result}
use Rattle.gates.specs.Clear.{Values, value, ring_of}
use Rattle.gates.specs.Counts.{made_by, size_of}
use Rattle.shared_gates.specs.Model.{run_gate, sizes_made}

-- a share of one value by each miner
pub record Given : Type 0 where
  pub first : List ℕ
  pub second : List ℕ
  pub third : List ℕ

-- ---- in a run, by the shares that the miners have of all values

-- of the value that this gate makes, whose number is next, if it is one that is handed over
abbrev pub given_by : Gate → (mine : Bool) → (next : ℕ) → (Number → Values) → List Given
given_by (Result ring u) true next shares =
    record { first = value (shares One) next; second = value (shares Two) next; third = value (shares Three) next } ∷ []
given_by (Result ring u) false next shares = []
given_by gate mine next shares = []

abbrev pub given_from : (mine : ℕ → Bool) → (next : ℕ) → (Number → Values) → List Gate → List Given
given_from mine next shares [] = []
given_from mine next shares (gate ∷ gates) = given_by gate (mine next) next shares ++ given_from mine (next + made_by gate) shares gates

-- the shares that the three miners keep, laid beside one another
abbrev pub beside : (first second third : Values) → List Given
beside (a ∷ first) (b ∷ second) (c ∷ third) = record { first = a; second = b; third = c } ∷ beside first second third
beside first second third = []

-- ---- the simulator: no share among its arguments

-- the first two shares are the slots; the third is what they leave of the published words
abbrev pub made_given : Ring → ℕ → (slots : Tapes) → (published : List ℕ) → Given
made_given r n slots published =
    record { first = slots One; second = slots Two; third = left_of_opened r n published (slots One) (slots Two) }

-- the words after those that the gate draws: how many these are, sizes tell
abbrev pub after_gate : (ds sizes : List ℕ) → Gate → Tapes → Tapes
after_gate ds sizes gate mapped i = drop (needed (run_gate (λ k. []) ds sizes gate ∷ []) i) (mapped i)

abbrev pub slots_of : (sizes : List ℕ) → Gate → Tapes → Tapes
slots_of sizes (Result ring u) mapped = drawn (blocked (reshare_protocol (ring_of ring))) (size_of sizes u) mapped
slots_of sizes gate mapped = λ i. []

-- by the gate, and the published words that are left
abbrev pub made_by_gate : Gate → (mine : Bool) → (sizes : List ℕ) → (published : Values) → Tapes → List Given
made_by_gate (Result ring u) true sizes (words ∷ published) mapped =
    made_given (ring_of ring) (size_of sizes u) (slots_of sizes (Result ring u) mapped) words ∷ []
made_by_gate (Result ring u) true sizes [] mapped = []
made_by_gate (Result ring u) false sizes published mapped = []
made_by_gate gate mine sizes published mapped = []

abbrev pub published_after : Gate → (mine : Bool) → Values → Values
published_after (Result ring u) true (words ∷ published) = published
published_after (Result ring u) true [] = []
published_after (Result ring u) false published = published
published_after gate mine published = published

abbrev pub made_from : (mine : ℕ → Bool) → (next : ℕ) → (ds sizes : List ℕ) → List Gate → (published : Values) → Tapes → List Given
made_from mine next ds sizes [] published mapped = []
made_from mine next ds sizes (gate ∷ gates) published mapped =
    made_by_gate gate (mine next) sizes published mapped
    ++ made_from mine (next + made_by gate) ds (sizes ++ sizes_made ds sizes gate) gates (published_after gate (mine next) published)
    (after_gate ds sizes gate mapped)
