-- What one gate adds to a joint run.
use Rattle.std.specs.Prelude.{◌≡◌, ℕ, ◌≤◌, List, [], ◌∷◌, ◌++◌, Option, Some, None, length, drop}
use Rattle.proto_core.specs.declared.party.Number.{Number}
use Rattle.proto_core.specs.declared.party.Number.TheVariants.{One, Two, Three}
use Rattle.proto_core.specs.declared.link.Link.{Link}
use Rattle.proto_core.specs.Protocol.{Joint, Protocol}
use Rattle.protocol_model.specs.Runs.{drawn}
use Rattle.gates.specs.declared.ring_kind.RingKind.TheVariants.{Arithmetic, Boolean}
use Rattle.gates.specs.declared.gate.Gate.{Gate}
use Rattle.gates.specs.declared.gate.Gate.TheVariants.{Mul, And, Split, Conv, Open, Result}
use Rattle.gates.specs.Clear.{Values, value}
use Rattle.shared_gates.specs.Blocked.{blocked}
use Rattle.shared_gates.specs.LocalGates.{local_share}
use Rattle.gate_exchanges.specs.declared.exchange.Exchange.TheVariants.{Product, Splitting, Conversion, Opening, Resharing}
use Rattle.gate_exchanges.specs.declared.exchanged.Exchanged.{Exchanged}
use Rattle.gate_exchanges.specs.Exchanges.{protocol_of}
use Rattle.gate_exchanges.specs.Exchanged.{second_value, protocol_in}
use Rattle.joint_run.specs.RunState.{RunState}

-- the operands in the miners' shares, and drawn words
abbrev pub operands_of : Exchanged → (Number → Values) → (words : Number → List ℕ) → Joint
operands_of x shares words = record { u = λ i. value (shares i) x.u; v = λ i. second_value (shares i) x.v; words = words }

abbrev pub size_in : Exchanged → RunState → ℕ
size_in x s = length (value (s.shares One) x.u)

abbrev pub joint_in : Exchanged → RunState → Joint
joint_in x s = operands_of x s.shares (drawn (protocol_in x) (size_in x s) s.tapes)

-- a miner's operands have as many words as the gate takes, and its tape as many as it draws
pub record CanExchangeAt (x : Exchanged) (s : RunState) (i : Number) : Type 0 where
  pub u : length (value (s.shares i) x.u) ≡ size_in x s
  pub v : length (second_value (s.shares i) x.v) ≡ (protocol_of x.exchange).second (size_in x s)
  pub words : (protocol_of x.exchange).draws (size_in x s) i ≤ length (s.tapes i)

pub record CanExchange (x : Exchanged) (s : RunState) : Type 0 where
  pub first : CanExchangeAt x s One
  pub second : CanExchangeAt x s Two
  pub third : CanExchangeAt x s Three

-- a gate that sends nothing
pub record AddsLocal (dealt : Number → Values) (gate : Gate) (before after : RunState) : Type 0 where
  pub shares : (i : Number) → after.shares i ≡ before.shares i ++ local_share i (dealt i) (before.shares i) gate ∷ []
  pub tapes : (i : Number) → after.tapes i ≡ before.tapes i
  pub messages : (l : Link) → after.messages l ≡ before.messages l
  pub opened : after.opened ≡ before.opened

-- one that sends messages
pub record AddsExchange (x : Exchanged) (before after : RunState) : Type 0 where
  pub shares : (i : Number) → after.shares i ≡ before.shares i ++ (protocol_in x).output (size_in x before) (joint_in x before) i
  pub tapes : (i : Number) → after.tapes i ≡ drop ((protocol_in x).draws (size_in x before) i) (before.tapes i)
  pub messages : (l : Link) → after.messages l ≡ before.messages l ++ (protocol_in x).messages (size_in x before) (joint_in x before) l
  pub opened : after.opened ≡ before.opened ++ (protocol_in x).opened (size_in x before) (joint_in x before)
