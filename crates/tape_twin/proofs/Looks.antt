-- The rows of one who looks: a miner's are the protocol's own, and the client's those of what is handed over.
use Rattle.std.proofs.Common.{◌≡◌, ℕ, ◌+◌, true, List, [], ◌∷◌, ◌++◌, refl, ◌∙◌, ap}
use Rattle.proto_core.specs.declared.party.Number.{Number}
use Rattle.proto_core.specs.declared.party.Number.TheVariants.{Three}
use Rattle.proto_core.specs.Protocol.{Joint, Protocol}
use Rattle.protocol_model.specs.Gates.{Joined, Local}
use Rattle.protocol_model.specs.Gates as model
use Rattle.protocol_model.specs.Runs.{Shares, Tapes, drawn, left, gate_joint, after, after_local}
use Rattle.protocol_model.specs.Views.{to_view, from_view, found}
use Rattle.gates.specs.declared.gate.Gate.{Gate}
use Rattle.gates.specs.declared.gate.Gate.TheVariants.{Mul, And, Split, Conv, Open, Result}
use Rattle.gates.specs.Clear.{Values}
use Rattle.gates.specs.Counts.{made_by}
use Rattle.shared_gates.specs.Model.{sizes_made, run_gate, run_gates}
use Rattle.handed_shares.specs.Handed.{all_of}
use Rattle.client_model.specs.ClientRows.{Rows, rowed}
use Rattle.client_model.specs.ClientMaps.{row_of, client_rows, client_gates, with_rows}
use Rattle.gate_exchanges.specs.declared.exchanged.Exchanged.{Exchanged}
use Rattle.gate_exchanges.specs.Exchanged.{IsExchanged}
use Rattle.tape_twin.specs.declared.way.Way.{Way}
use Rattle.tape_twin.specs.declared.way.Way.TheVariants.{ToView, FromView}
use Rattle.tape_twin.specs.declared.way.Looker.TheVariants.{Miner, Client}
use Rattle.tape_twin.specs.Maps.{block_map, looked_protocol, looked, looked_gates, gates_map, exchange_rows, rows_map}

-- ---- ONE GATE

pub miner-words :
    (way : Way) (i : Number) (gate : Gate) (p : Protocol) (n : ℕ) (j : Joint) (k : Number) →
    block_map way p n i j k ≡ block_map way (looked_protocol (Miner i) gate p) n Three j k
miner-words ToView i gate p n j k = refl
miner-words FromView i gate p n j k = refl

rows-are : (gate : Gate) (x : Exchanged) → IsExchanged gate x → exchange_rows x.exchange ≡ row_of gate true
rows-are (Mul u v) x is = ap (λ (y : Exchanged). exchange_rows y.exchange) is
rows-are (And u v) x is = ap (λ (y : Exchanged). exchange_rows y.exchange) is
rows-are (Split u negated) x is = ap (λ (y : Exchanged). exchange_rows y.exchange) is
rows-are (Conv u) x is = ap (λ (y : Exchanged). exchange_rows y.exchange) is
rows-are (Open ring u) x is = ap (λ (y : Exchanged). exchange_rows y.exchange) is
rows-are (Result ring u) x is = ap (λ (y : Exchanged). exchange_rows y.exchange) is
rows-are _ x is = absurd is

as-looked :
    (way : Way) (gate : Gate) (p : Protocol) (n : ℕ) (j : Joint) (k : Number) →
    rows_map way (row_of gate true) n j k ≡ block_map way (looked_protocol Client gate p) n Three j k
as-looked ToView gate p n j k = refl
as-looked FromView gate p n j k = refl

pub client-words :
    (way : Way) (gate : Gate) (x : Exchanged) → IsExchanged gate x → (p : Protocol) (n : ℕ) (j : Joint) (k : Number) →
    rows_map way (exchange_rows x.exchange) n j k ≡ block_map way (looked_protocol Client gate p) n Three j k
client-words way gate x is p n j k =
    ap (λ (rows : Rows). rows_map way rows n j k) (rows-are gate x is) ∙ as-looked way gate p n j k

-- ---- A LIST OF GATES, AS A MINER LOOKS AT IT

-- of gates with their protocols' own rows
abbrev pub miner_map : Way → Number → List model.Gate → Shares → Tapes → Tapes
miner_map ToView = to_view
miner_map FromView = from_view

module _ (i : Number) (dealt : Number → Values) (ds : List ℕ) where
  to-one :
      (gate : Gate) (g : model.Gate) (gs bs : List model.Gate) →
      ((shares : Shares) (tapes : Tapes) (k : Number) → to_view Three gs shares tapes k ≡ to_view i bs shares tapes k) →
      (shares : Shares) (tapes : Tapes) (k : Number) → to_view Three (looked (Miner i) gate g ∷ gs) shares tapes k ≡ to_view i (g ∷ bs) shares tapes k
  to-one gate (Joined p n u v) gs bs h shares tapes k =
      ap (λ w. p.tape n i (gate_joint u v shares (drawn p n tapes)) k ++ w) (h (after p n u v shares (drawn p n tapes)) (left p n tapes) k)
  to-one gate (Local n f) gs bs h shares tapes k = h (after_local f shares) tapes k

  from-one :
      (gate : Gate) (g : model.Gate) (gs bs : List model.Gate) →
      ((shares : Shares) (tapes : Tapes) (k : Number) → from_view Three gs shares tapes k ≡ from_view i bs shares tapes k) →
      (shares : Shares) (tapes : Tapes) (k : Number) →
      from_view Three (looked (Miner i) gate g ∷ gs) shares tapes k ≡ from_view i (g ∷ bs) shares tapes k
  from-one gate (Joined p n u v) gs bs h shares tapes k =
      ap (λ w. found i p n u v shares tapes k ++ w) (h (after p n u v shares (found i p n u v shares tapes)) (left p n tapes) k)
  from-one gate (Local n f) gs bs h shares tapes k = h (after_local f shares) tapes k

  to-miner :
      (sizes : List ℕ) (gates : List Gate) (shares : Shares) (tapes : Tapes) (k : Number) →
      to_view Three (looked_gates (Miner i) gates (run_gates dealt ds sizes gates)) shares tapes k ≡ to_view i (run_gates dealt ds sizes gates) shares tapes k
  to-miner sizes [] shares tapes k = refl
  to-miner sizes (gate ∷ gates) shares tapes k =
      let later : List ℕ = sizes ++ sizes_made ds sizes gate in
      to-one gate (run_gate dealt ds sizes gate) (looked_gates (Miner i) gates (run_gates dealt ds later gates)) (run_gates dealt ds later gates)
      (to-miner later gates) shares tapes k

  from-miner :
      (sizes : List ℕ) (gates : List Gate) (shares : Shares) (tapes : Tapes) (k : Number) →
      from_view Three (looked_gates (Miner i) gates (run_gates dealt ds sizes gates)) shares tapes k
      ≡ from_view i (run_gates dealt ds sizes gates) shares tapes k
  from-miner sizes [] shares tapes k = refl
  from-miner sizes (gate ∷ gates) shares tapes k =
      let later : List ℕ = sizes ++ sizes_made ds sizes gate in
      from-one gate (run_gate dealt ds sizes gate) (looked_gates (Miner i) gates (run_gates dealt ds later gates)) (run_gates dealt ds later gates)
      (from-miner later gates) shares tapes k

  pub miner-looks :
      (way : Way) (sizes : List ℕ) (gates : List Gate) (shares : Shares) (tapes : Tapes) (k : Number) →
      gates_map way (looked_gates (Miner i) gates (run_gates dealt ds sizes gates)) shares tapes k
      ≡ miner_map way i (run_gates dealt ds sizes gates) shares tapes k
  miner-looks ToView = to-miner
  miner-looks FromView = from-miner

-- ---- AS THE CLIENT LOOKS AT IT

client-one :
    (gate : Gate) (rows : List Rows) (g : model.Gate) (gs bs : List model.Gate) → gs ≡ with_rows rows bs →
    looked Client gate g ∷ gs ≡ with_rows (row_of gate true ∷ rows) (g ∷ bs)
client-one gate rows (Joined p n u v) gs bs h = ap (λ (ms : List model.Gate). Joined (rowed (row_of gate true) p) n u v ∷ ms) h
client-one gate rows (Local n f) gs bs h = ap (λ (ms : List model.Gate). Local n f ∷ ms) h

pub client-looks :
    (dealt : Number → Values) (ds : List ℕ) (next : ℕ) (sizes : List ℕ) (gates : List Gate) →
    looked_gates Client gates (run_gates dealt ds sizes gates) ≡ client_gates all_of next dealt ds sizes gates
client-looks dealt ds next sizes [] = refl
client-looks dealt ds next sizes (gate ∷ gates) =
    let later : List ℕ = sizes ++ sizes_made ds sizes gate in
    client-one gate (client_rows all_of (next + made_by gate) gates) (run_gate dealt ds sizes gate)
    (looked_gates Client gates (run_gates dealt ds later gates)) (run_gates dealt ds later gates)
    (client-looks dealt ds (next + made_by gate) later gates)
