-- The two ways of a map: of one block's words, and of the words of a list of gates, by the rows of one who looks.
use Rattle.std.specs.Prelude.{ℕ, true, List, [], ◌∷◌}
use Rattle.proto_core.specs.declared.party.Number.{Number}
use Rattle.proto_core.specs.declared.party.Number.TheVariants.{Three}
use Rattle.proto_core.specs.Protocol.{Joint, Protocol}
use Rattle.protocol_model.specs.Gates as model
use Rattle.protocol_model.specs.Gates.{Joined, Local}
use Rattle.protocol_model.specs.Runs.{Shares, Tapes}
use Rattle.protocol_model.specs.Views.{to_view, from_view}
use Rattle.gates.specs.declared.gate.Gate.{Gate}
use Rattle.gates.specs.Clear.{Values, ring_of}
use Rattle.shared_gates.specs.Model.{run_gates}
use Rattle.client_model.specs.ClientRows.{Rows, rowed, handing, leaving}
use Rattle.handed_shares.specs.Handed.{all_of}
use Rattle.client_model.specs.ClientMaps.{row_of, to_client, from_client}
use Rattle.gate_exchanges.specs.declared.exchange.Exchange.{Exchange}
use Rattle.gate_exchanges.specs.declared.exchange.Exchange.TheVariants.{Product, Splitting, Conversion, Opening, Resharing}
use Rattle.joint_run.specs.JointRuns.{dealt_sizes}
use Rattle.tape_twin.specs.declared.way.Way.{Way}
use Rattle.tape_twin.specs.declared.way.Way.TheVariants.{ToView, FromView}
use Rattle.tape_twin.specs.declared.way.Looker.{Looker}
use Rattle.tape_twin.specs.declared.way.Looker.TheVariants.{Miner, Client}
use Rattle.tape_twin.specs.declared.way.TapeMap.{TapeMap}

-- a block's words by the protocol's row, or by its way back
abbrev pub block_map : Way → Protocol → ℕ → Number → Joint → Number → List ℕ
block_map ToView p = p.tape
block_map FromView p = p.back

-- ---- WHO LOOKS

abbrev pub row_there : Looker → Gate → Protocol → ℕ → Joint → Number → List ℕ
row_there (Miner i) gate p n j = p.tape n i j
row_there Client gate p n j = (row_of gate true).there n j

abbrev pub row_back : Looker → Gate → Protocol → ℕ → Joint → Number → List ℕ
row_back (Miner i) gate p n j = p.back n i j
row_back Client gate p n j = (row_of gate true).back n j

-- a miner has the protocol's own rows; the client looks at what is handed over alone
abbrev pub looked_protocol : Looker → Gate → Protocol → Protocol
looked_protocol looker gate p = rowed (record { there = row_there looker gate p; back = row_back looker gate p }) p

-- a gate as the miners run it, as it is looked at
abbrev pub looked : Looker → Gate → model.Gate → model.Gate
looked looker gate (Joined p n u v) = Joined (looked_protocol looker gate p) n u v
looked looker gate (Local n f) = Local n f

abbrev pub looked_gates : Looker → List Gate → List model.Gate → List model.Gate
looked_gates looker [] ms = []
looked_gates looker (gate ∷ gates) [] = []
looked_gates looker (gate ∷ gates) (m ∷ ms) = looked looker gate m ∷ looked_gates looker gates ms

-- ---- THE TAPES OF A RUN OF GATES

-- by the rows that these gates have, whoever looks
abbrev pub gates_map : Way → List model.Gate → Shares → Tapes → Tapes
gates_map ToView = to_view Three
gates_map FromView = from_view Three

-- of a run that begins with what was dealt and no values
abbrev pub run_map : TapeMap → (dealt : Number → Values) → List Gate → Tapes → Tapes
run_map map dealt gates = gates_map map.way (looked_gates map.looker gates (run_gates dealt (dealt_sizes dealt) [] gates)) (λ i. [])

-- for the client of all that is handed over
abbrev pub client_map : Way → (dealt : Number → Values) → (ds : List ℕ) → List Gate → Tapes → Tapes
client_map ToView = to_client all_of
client_map FromView = from_client all_of

-- ---- THE CLIENT'S ROWS, BY THE EXCHANGE

abbrev pub exchange_rows : Exchange → Rows
exchange_rows (Product ring) = leaving
exchange_rows (Splitting negated) = leaving
exchange_rows Conversion = leaving
exchange_rows (Opening ring) = leaving
exchange_rows (Resharing ring) = handing (ring_of ring)

abbrev pub rows_map : Way → Rows → ℕ → Joint → Number → List ℕ
rows_map ToView rows = rows.there
rows_map FromView rows = rows.back
