-- What a miner sees of a run of gates, and what the simulator makes of it.
use Rattle.std.specs.Prelude.{ℕ, List, [], take}
use Rattle.proto_core.specs.Strand.{Mail}
use Rattle.proto_core.specs.declared.party.Number.{Number}
use Rattle.protocol_model.specs.Gates as model
use Rattle.protocol_model.specs.Gates.{needed, gates_script}
use Rattle.protocol_model.specs.Runs.{run_messages, run_opened}
use Rattle.protocol_model.specs.Network.{Delivery, order_of}
use Rattle.protocol_model.specs.Views.{made_messages}
use Rattle.gates.specs.declared.gate.Gate.{Gate}
use Rattle.shared_gates.specs.Model.{run_gates}
use Rattle.value_file.specs.declared.inputs.Entry.{Entry}
use Rattle.value_file.specs.declared.public.PublicEntry.{PublicEntry}
use Rattle.input_share.specs.declared.entry.ShareEntry.{ShareEntry}
use Rattle.input_share.specs.Dealing.{dealt_entries}
use Rattle.tape_file.specs.Tapes.{FourTapes}
use Rattle.protocol_model.specs.Arrivals.{Arrival, arrivals}
use Rattle.view_model.specs.Dealing.{private_shares, hidden_sizes, made_entries}
use Rattle.view_model.specs.TapeMaps.{miners_of, no_values, gates_dealt}

-- its input shares, the words that it drew, and the messages that came, in order of arrival
pub record Seen : Type 0 where
  pub inputs : List ShareEntry
  pub drew : List ℕ
  pub got : List Arrival

-- of these gates, with these input shares, where the messages of all links are this mail
abbrev pub seen_with : Number → List ShareEntry → List model.Gate → Mail → FourTapes → Delivery → Seen
seen_with i inputs gates mail t delivery =
    record {
      inputs = inputs;
      drew = take (needed gates i) (miners_of t i);
      got = arrivals i mail (order_of (λ k. gates_script k gates) delivery);
    }

-- of a run in which the inputs are dealt
abbrev pub seen_by : Number → List Entry → List Gate → FourTapes → Delivery → Seen
seen_by i entries gates t delivery =
    seen_with i (dealt_entries i entries t.dealer) (gates_dealt entries t.dealer gates)
    (run_messages (gates_dealt entries t.dealer gates) no_values (miners_of t)) t delivery

-- ---- the simulator: no private word among its arguments

abbrev pub gates_made : Number → List PublicEntry → (dealer : List ℕ) → List Gate → List model.Gate
gates_made i part dealer gates = run_gates (λ k. private_shares (made_entries i part dealer)) (hidden_sizes part) [] gates

abbrev pub made_for : Number → List PublicEntry → List Gate → (opened : List ℕ) → FourTapes → Delivery → Seen
made_for i part gates opened s delivery =
    seen_with i (made_entries i part s.dealer) (gates_made i part s.dealer gates)
    (made_messages i (gates_made i part s.dealer gates) [] opened (miners_of s)) s delivery

-- what the run of gates opens
abbrev pub opened_by_all : List Entry → List Gate → FourTapes → List ℕ
opened_by_all entries gates t = run_opened (gates_dealt entries t.dealer gates) no_values (miners_of t)
