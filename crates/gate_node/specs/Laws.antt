-- What is promised of one miner's gates.
use Rattle.std.specs.Prelude.{◌≡◌, ℕ, ◌≤◌, ◌↔◌, IsTrue, List, ◌++◌, length, drop}
use Rattle.proto_core.specs.declared.party.Number.{Number}
use Rattle.proto_core.specs.Strand.{Ends, then_do}
use Rattle.protocol_model.specs.Gates.{sizes_of, needed, gates_strand}
use Rattle.protocol_model.specs.Gates as model
use Rattle.gates.specs.declared.gate.Gate.{Gate}
use Rattle.gates.specs.Clear.{Values}
use Rattle.gate_exchanges.specs.Model.{SizesSuit, AllSizesSuit, run_gates}
use Rattle.gate_node.specs.Suiting.{suits}
use Rattle.gate_node.specs.OwnGates.{Whole, own_gates, then_gates}

-- the test tells whether a gate suits
abbrev pub SuitsWhereTested : Type 0
SuitsWhereTested = (dealt sizes : List ℕ) (gate : Gate) → IsTrue (suits dealt sizes gate) ↔ SizesSuit dealt sizes gate

-- where gates suit and the tape reaches, a miner's gates are its part in the run of them, whatever the others were dealt
abbrev pub AreItsPartOfTheRun :
    Number → (dealt : Values) → (all_dealt : Number → Values) → List Gate → (values : Values) → (tape : List ℕ) → (run : List model.Gate) → Type 0
AreItsPartOfTheRun i dealt all_dealt gates values tape run =
    all_dealt i ≡ dealt → AllSizesSuit (sizes_of dealt) (sizes_of values) gates →
    run ≡ run_gates all_dealt (sizes_of dealt) (sizes_of values) gates → needed run i ≤ length tape →
    own_gates i dealt gates values tape ≡ then_do (gates_strand i run values tape) (λ all. Ends (Whole all (drop (needed run i) tape)))

-- gates after others are run where those came to an end
abbrev pub RunOneAfterAnother : Number → Values → (before behind : List Gate) → (values : Values) → (tape : List ℕ) → Type 0
RunOneAfterAnother i dealt before behind values tape =
    own_gates i dealt (before ++ behind) values tape ≡ then_do (own_gates i dealt before values tape) (then_gates i dealt behind)
