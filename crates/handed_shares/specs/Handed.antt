-- Which values a run of gates hands over, and what each miner keeps of them.
use Rattle.std.specs.Prelude.{◌≡◌, ℕ, ◌+◌, Bool, true, false, List, [], ◌∷◌, ◌++◌, length}
use Rattle.proto_core.specs.declared.party.Number.{Number}
use Rattle.gates.specs.declared.gate.Gate.{Gate}
use Rattle.gates.specs.declared.gate.Gate.TheVariants.{Result}
use Rattle.gates.specs.Clear.{Values, value}
use Rattle.gates.specs.Counts.{made_by}
use Rattle.shared_gates.specs.Shares.{Kind, Shared, AllHeld}

-- ---- THE VALUES, IN THE CLEAR

-- of the gates that hand a value over, those are meant of which the number of the value that they make is mine; the first gate's is next
abbrev pub handed_by : Gate → (mine : Bool) → Values → Values
handed_by (Result ring u) true values = value values u ∷ []
handed_by (Result ring u) false values = []
handed_by gate mine values = []

abbrev pub handed_values : (mine : ℕ → Bool) → (next : ℕ) → Values → List Gate → Values
handed_values mine next values [] = []
handed_values mine next values (gate ∷ gates) = handed_by gate (mine next) values ++ handed_values mine (next + made_by gate) values gates

-- in which rings they are shared
abbrev pub kind_by : Gate → (mine : Bool) → List Kind
kind_by (Result ring u) true = Shared ring ∷ []
kind_by (Result ring u) false = []
kind_by gate mine = []

abbrev pub handed_kinds : (mine : ℕ → Bool) → (next : ℕ) → List Gate → List Kind
handed_kinds mine next [] = []
handed_kinds mine next (gate ∷ gates) = kind_by gate (mine next) ++ handed_kinds mine (next + made_by gate) gates

-- ---- WHAT A MINER KEEPS

-- of its own shares of all values those that these gates make
abbrev pub kept_by : Gate → (mine : Bool) → (next : ℕ) → (own : Values) → Values
kept_by (Result ring u) true next own = value own next ∷ []
kept_by (Result ring u) false next own = []
kept_by gate mine next own = []

abbrev pub kept_from : (mine : ℕ → Bool) → (next : ℕ) → (own : Values) → List Gate → Values
kept_from mine next own [] = []
kept_from mine next own (gate ∷ gates) = kept_by gate (mine next) next own ++ kept_from mine (next + made_by gate) own gates

-- all that is handed over
abbrev pub all_of : ℕ → Bool
all_of number = true

-- ---- WHAT IS PROMISED

-- what the miners keep after gates that made these values are shares of those that were handed over, in the rings of the gates
pub record AreKept (mine : ℕ → Bool) (gates : List Gate) (values : Values) (shares : Number → Values) : Type 0 where
  pub held : AllHeld (handed_kinds mine 0 gates) (handed_values mine 0 values gates) (λ i. kept_from mine 0 (shares i) gates)
  pub count : (i : Number) → length (kept_from mine 0 (shares i) gates) ≡ length (handed_values mine 0 values gates)
  pub kinds : length (handed_kinds mine 0 gates) ≡ length (handed_values mine 0 values gates)
