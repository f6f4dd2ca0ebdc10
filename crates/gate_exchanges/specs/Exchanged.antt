-- Which gates send messages, their operands and their protocol.
use Rattle.std.specs.Prelude.{◌≡◌, ℕ, List, [], Option, Some, None}
use Rattle.proto_core.specs.Protocol.{Protocol}
use Rattle.gates.specs.declared.ring_kind.RingKind.TheVariants.{Arithmetic, Boolean}
use Rattle.gates.specs.declared.gate.Gate.{Gate}
use Rattle.gates.specs.declared.gate.Gate.TheVariants.{Mul, And, Split, Conv, Open, Result}
use Rattle.gates.specs.Clear.{Values, value}
use Rattle.shared_gates.specs.Blocked.{blocked}
use Rattle.gate_exchanges.specs.declared.exchange.Exchange.TheVariants.{Product, Splitting, Conversion, Opening, Resharing}
use Rattle.gate_exchanges.specs.declared.exchanged.Exchanged.{Exchanged}
use Rattle.gate_exchanges.specs.Exchanges.{protocol_of}

-- the gates that send messages, as the exchanges that they are
abbrev pub IsExchanged : Gate → Exchanged → Type 0
IsExchanged (Mul u v) x = x ≡ record { exchange = Product Arithmetic; u = u; v = Some v }
IsExchanged (And u v) x = x ≡ record { exchange = Product Boolean; u = u; v = Some v }
IsExchanged (Split u negated) x = x ≡ record { exchange = Splitting negated; u = u; v = None }
IsExchanged (Conv u) x = x ≡ record { exchange = Conversion; u = u; v = None }
IsExchanged (Open ring u) x = x ≡ record { exchange = Opening ring; u = u; v = None }
IsExchanged (Result ring u) x = x ≡ record { exchange = Resharing ring; u = u; v = None }
IsExchanged _ x = ⊥

-- the words of the second operand, none where there is no such operand
abbrev pub second_value : Values → Option ℕ → List ℕ
second_value values None = []
second_value values (Some v) = value values v

abbrev pub protocol_in : Exchanged → Protocol
protocol_in x = blocked (protocol_of x.exchange)
