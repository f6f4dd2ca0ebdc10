-- Where a walk over gates stands: how one gate takes it on.
use Rattle.std.specs.Prelude.{◌≡◌, ℕ, ◌≤◌, List, [], ◌∷◌, ◌++◌, length, drop}
use Rattle.proto_core.specs.declared.party.Number.{Number}
use Rattle.proto_core.specs.declared.party.Number.TheVariants.{One}
use Rattle.proto_core.specs.Protocol.{Joint}
use Rattle.protocol_model.specs.Gates.{needed, sizes_of}
use Rattle.protocol_model.specs.Gates as model
use Rattle.protocol_model.specs.Runs.{Tapes, drawn, run_values}
use Rattle.gates.specs.declared.gate.Gate.{Gate}
use Rattle.gates.specs.Clear.{Values, value}
use Rattle.shared_gates.specs.Model.{SizesSuit, sizes_made, run_gate}
use Rattle.gate_exchanges.specs.declared.exchanged.Exchanged.{Exchanged}
use Rattle.joint_run.specs.declared.shares.SharedValues.{SharedValues}
use Rattle.joint_run.specs.Three.{each_of, values_of}
use Rattle.joint_run.specs.RunState.{RunState}
use Rattle.joint_run.specs.Steps.{operands_of}
use Rattle.gate_exchanges.specs.Exchanged.{IsExchanged, protocol_in}
use Rattle.joint_run.specs.JointRuns.{dealt_sizes, IsEven}
use Rattle.tape_twin.specs.declared.gate.Passing.{Passing}
use Rattle.tape_twin.specs.declared.way.TapeMap.{TapeMap}
use Rattle.tape_twin.specs.Maps.{gates_map, looked}

-- the miners' shares of all values, what is left of the tapes that are mapped, and the words that came of those before
pub record Stand : Type 0 where
  pub shares : Number → Values
  pub rest : Tapes
  pub made : Tapes

abbrev pub stand_of : SharedValues → Passing → Stand
stand_of shares passing = record { shares = values_of shares; rest = each_of passing.rest; made = each_of passing.made }

-- the gate as the miners run it on these shares
abbrev pub gate_on : (dealt shares : Number → Values) → Gate → model.Gate
gate_on dealt shares gate = run_gate dealt (dealt_sizes dealt) (dealt_sizes shares) gate

-- ---- one gate, run

-- with these shares and words, and nothing said yet
abbrev pub begun_with : (Number → Values) → Tapes → RunState
begun_with shares words = record { shares = shares; tapes = words; messages = λ l. []; opened = [] }

pub record RunsWith (dealt : Number → Values) (gate : Gate) (shares : Number → Values) (words : Tapes) (after : Number → Values) : Type 0 where
  pub made : (i : Number) → after i ≡ run_values (gate_on dealt shares gate ∷ []) shares words i
  pub sizes : (i : Number) → sizes_of (after i) ≡ dealt_sizes shares ++ sizes_made (dealt_sizes dealt) (dealt_sizes shares) gate

-- ---- one gate that sends messages

-- its operands are there
pub record TakesOperands (gate : Gate) (x : Exchanged) (shares : Number → Values) : Type 0 where
  pub is : IsExchanged gate x
  pub even : IsEven shares
  pub dealt : List ℕ
  pub suits : SizesSuit dealt (dealt_sizes shares) gate

abbrev pub size_of_operand : Exchanged → (Number → Values) → ℕ
size_of_operand x shares = length (value (shares One) x.u)

-- the operands, and the words at the front of these tapes
abbrev pub drawn_for : Exchanged → (Number → Values) → Tapes → Joint
drawn_for x shares tapes = operands_of x shares (drawn (protocol_in x) (size_of_operand x shares) tapes)

-- ---- one gate, passed

-- the words made so far, and what these gates make of those that are left
abbrev pub whole_with : TapeMap → Stand → List model.Gate → Number → List ℕ
whole_with map s gates k = s.made k ++ gates_map map.way gates s.shares s.rest k

-- whatever gates are after it, all words together are as the map has them
pub record Passes (map : TapeMap) (dealt : Number → Values) (gate : Gate) (before after : Stand) : Type 0 where
  pub whole :
      (gates : List model.Gate) (k : Number) →
      whole_with map before (looked map.looker gate (gate_on dealt before.shares gate) ∷ gates) k ≡ whole_with map after gates k
  pub sizes :
      (k : Number) →
      sizes_of (after.shares k) ≡ dealt_sizes before.shares ++ sizes_made (dealt_sizes dealt) (dealt_sizes before.shares) gate
  pub left : (k : Number) → after.rest k ≡ drop (needed (gate_on dealt before.shares gate ∷ []) k) (before.rest k)

-- the gate suits the values, and the tapes have the words that it draws
pub record CanPass (dealt : Number → Values) (gate : Gate) (before : Stand) : Type 0 where
  pub suits : SizesSuit (dealt_sizes dealt) (dealt_sizes before.shares) gate
  pub reach : (k : Number) → needed (gate_on dealt before.shares gate ∷ []) k ≤ length (before.rest k)
