-- What miners hand over, by what they tell, and by the values that they hold.
use Rattle.std.specs.Prelude.{ℕ, ◌+◌, List, [], ◌∷◌, ◌++◌}
use Rattle.proto_core.specs.Strand.{Notice, Shown, Published, Handed}
use Rattle.gates.specs.declared.gate.Gate.{Gate}
use Rattle.gates.specs.declared.gate.Gate.TheVariants.{Result}
use Rattle.gates.specs.Clear.{Values, value}
use Rattle.gates.specs.Counts.{made_by}

-- the share words that a miner hands over, in order
abbrev pub handed_in : List Notice → Values
handed_in [] = []
handed_in (Handed text form count words ∷ notices) = words ∷ handed_in notices
handed_in (Shown form words ∷ notices) = handed_in notices
handed_in (Published text form words ∷ notices) = handed_in notices

-- of a miner's values those that are made to be handed over, the first gate's value being of number next
abbrev pub kept_of_gate : (next : ℕ) → (own : Values) → Gate → Values
kept_of_gate next own (Result ring u) = value own next ∷ []
kept_of_gate next own gate = []

abbrev pub kept_from : (next : ℕ) → (own : Values) → List Gate → Values
kept_from next own [] = []
kept_from next own (gate ∷ gates) = kept_of_gate next own gate ++ kept_from (next + made_by gate) own gates
