-- What a gate is in a run: one that sends nothing, or a protocol.
use Rattle.std.proofs.Common.{◌≡◌, ℕ, List, [], ◌∷◌, refl, sym, ap}
use Rattle.proto_core.specs.declared.party.Number.{Number}
use Rattle.protocol_model.specs.Gates.{Joined, Local, needed}
use Rattle.protocol_model.specs.Gates as model
use Rattle.gates.specs.declared.gate.Gate.{Gate}
use Rattle.gates.specs.declared.gate.Gate.TheVariants.{Mul, And, Split, Conv, Open, Result}
use Rattle.gates.specs.Clear.{Values}
use Rattle.gates.specs.Counts.{size_of}
use Rattle.shared_gates.specs.LocalGates.{local_share, IsLocal}
use Rattle.shared_gates.specs.Model.{size_made, run_gate}
use Rattle.gate_exchanges.specs.declared.exchanged.Exchanged.{Exchanged}
use Rattle.gate_exchanges.specs.Exchanged.{IsExchanged, protocol_in}

module _ (dealt : Number → Values) (ds sizes : List ℕ) where
  pub local-gate : (gate : Gate) → IsLocal gate → run_gate dealt ds sizes gate ≡ Local (size_made ds sizes gate) (λ i own. local_share i (dealt i) own gate)
  local-gate (Mul u v) local = absurd local
  local-gate (And u v) local = absurd local
  local-gate (Split u negated) local = absurd local
  local-gate (Conv u) local = absurd local
  local-gate (Open ring u) local = absurd local
  local-gate (Result ring u) local = absurd local
  local-gate _ local = refl

  abbrev joined_gate : Exchanged → model.Gate
  joined_gate x = Joined (protocol_in x) (size_of sizes x.u) x.u x.v

  pub exchanged-gate : (gate : Gate) (x : Exchanged) → IsExchanged gate x → run_gate dealt ds sizes gate ≡ joined_gate x
  exchanged-gate (Mul u v) x is = ap joined_gate (sym is)
  exchanged-gate (And u v) x is = ap joined_gate (sym is)
  exchanged-gate (Split u negated) x is = ap joined_gate (sym is)
  exchanged-gate (Conv u) x is = ap joined_gate (sym is)
  exchanged-gate (Open ring u) x is = ap joined_gate (sym is)
  exchanged-gate (Result ring u) x is = ap joined_gate (sym is)
  exchanged-gate _ x is = absurd is

  pub local-draws : (gate : Gate) (i : Number) → IsLocal gate → needed (run_gate dealt ds sizes gate ∷ []) i ≡ 0
  local-draws gate i local = ap (λ g. needed (g ∷ []) i) (local-gate gate local)
