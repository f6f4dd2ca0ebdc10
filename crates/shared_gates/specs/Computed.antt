-- The values that three miners hold after a list of gates.
use Rattle.std.specs.Prelude.{◌≡◌, ℕ, List, [], ◌∷◌, ◌++◌, length}
use Rattle.proto_core.specs.declared.party.Number.{Number}
use Rattle.gates.specs.declared.gate.Gate.{Gate}
use Rattle.gates.specs.declared.gate.Gate.TheVariants.{Open}
use Rattle.gates.specs.Clear.{Values, value, FitFrom}
use Rattle.gates.specs.Counts.{made_by_all}
use Rattle.shared_gates.specs.Shares.{Kind, AllHeld}

-- the words that a gate opens
abbrev pub opened_by_gate : Values → Gate → List ℕ
opened_by_gate values (Open ring u) = value values u
opened_by_gate values gate = []

abbrev pub opened_values : Values → List Gate → List ℕ
opened_values values [] = []
opened_values values (gate ∷ gates) = opened_by_gate values gate ++ opened_values values gates

-- after the values that were there stand values that fit the gates, and the miners hold these shares of all of them;
-- and these words were opened
pub record Computed (kinds : List Kind) (inputs before : Values) (gates : List Gate) (shares : Number → Values) (opened : List ℕ) : Type 0 where
  pub more : Values
  pub fit : FitFrom inputs (before ++ more) (length before) gates
  pub count : length more ≡ made_by_all gates
  pub held : AllHeld kinds (before ++ more) shares
  pub opens : opened ≡ opened_values (before ++ more) gates
