-- The map of a run's tapes to those that the client's view is made of, and the way back.
use Rattle.std.specs.Prelude.{ℕ, ◌+◌, Bool, true, false, List, [], ◌∷◌}
use Rattle.proto_core.specs.declared.party.Number.{Number}
use Rattle.proto_core.specs.declared.party.Number.TheVariants.{Three}
use Rattle.protocol_model.specs.Gates as model
use Rattle.protocol_model.specs.Gates.{Joined, Local}
use Rattle.protocol_model.specs.Runs.{Tapes}
use Rattle.protocol_model.specs.Views.{to_view, from_view}
use Rattle.gates.specs.declared.gate.Gate.{Gate}
use Rattle.gates.specs.declared.gate.Gate.TheVariants.{Result}
use Rattle.gates.specs.Clear.{Values, ring_of}
use Rattle.gates.specs.Counts.{made_by}
use Rattle.shared_gates.specs.Model.{run_gates}
use Rattle.client_model.specs.ClientRows.{Rows, rowed, handing, leaving}

-- gates with rows in the place of their protocols' own; these are of whole gates
abbrev pub with_rows : List Rows → List model.Gate → List model.Gate
with_rows [] gates = gates
with_rows (rows ∷ more) [] = []
with_rows (rows ∷ more) (Joined p n u v ∷ gates) = Joined (rowed rows p) n u v ∷ with_rows more gates
with_rows (rows ∷ more) (Local n f ∷ gates) = Local n f ∷ with_rows more gates

-- one who looks at a value that is handed over to it, at nothing else
abbrev pub row_of : Gate → (mine : Bool) → Rows
row_of (Result ring u) true = handing (ring_of ring)
row_of (Result ring u) false = leaving
row_of gate mine = leaving

-- of those values that are handed over these are its own, by their numbers: those of one recipient, of several together, or all
abbrev pub client_rows : (mine : ℕ → Bool) → (next : ℕ) → List Gate → List Rows
client_rows mine next [] = []
client_rows mine next (gate ∷ gates) = row_of gate (mine next) ∷ client_rows mine (next + made_by gate) gates

-- the gates as the miners run them, as the client looks at them
abbrev pub client_gates : (mine : ℕ → Bool) → (next : ℕ) → (dealt : Number → Values) → (ds sizes : List ℕ) → List Gate → List model.Gate
client_gates mine next dealt ds sizes gates = with_rows (client_rows mine next gates) (run_gates dealt ds sizes gates)

-- the walk of the miners' maps, over these rows: no row asks which miner is named
abbrev pub to_client : (mine : ℕ → Bool) → (dealt : Number → Values) → (ds : List ℕ) → List Gate → Tapes → Tapes
to_client mine dealt ds gates tapes = to_view Three (client_gates mine 0 dealt ds [] gates) (λ i. []) tapes

abbrev pub from_client : (mine : ℕ → Bool) → (dealt : Number → Values) → (ds : List ℕ) → List Gate → Tapes → Tapes
from_client mine dealt ds gates mapped = from_view Three (client_gates mine 0 dealt ds [] gates) (λ i. []) mapped
