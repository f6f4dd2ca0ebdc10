-- The gates that send messages, without their operands, and the protocol of each.
use Rattle.std.specs.Prelude.{◌≡◌, ℕ, ◌≤◌, Bool, true, false, length, take, drop}
use Rattle.proto_core.specs.declared.party.Number.{Number}
use Rattle.proto_core.specs.declared.party.Number.TheVariants.{One, Two, Three}
use Rattle.proto_core.specs.Protocol.{Joint, Protocol}
use Rattle.multiply.specs.Multiplying.{mul_protocol}
use Rattle.open_result.specs.Opening.{open_protocol}
use Rattle.reshare.specs.Resharing.{reshare_protocol}
use Rattle.share_convert.specs.Converting.{conv_protocol}
use Rattle.split_share.specs.Splitting.{split_protocol}
use Rattle.gates.specs.Clear.{ring_of}
use Rattle.gate_exchanges.specs.declared.exchange.Exchange.{Exchange}
use Rattle.gate_exchanges.specs.declared.exchange.Exchange.TheVariants.{Product, Splitting, Conversion, Opening, Resharing}

abbrev pub protocol_of : Exchange → Protocol
protocol_of (Product ring) = mul_protocol (ring_of ring)
protocol_of (Splitting negated) = split_protocol negated
protocol_of Conversion = conv_protocol
protocol_of (Opening ring) = open_protocol (ring_of ring)
protocol_of (Resharing ring) = reshare_protocol (ring_of ring)

-- whether two values are made, and not one
abbrev pub makes_two : Exchange → Bool
makes_two (Product ring) = false
makes_two (Splitting negated) = true
makes_two Conversion = false
makes_two (Opening ring) = false
makes_two (Resharing ring) = false

-- n elements in each operand of a miner, and as many words as it draws
pub record IsSizedAt (p : Protocol) (n : ℕ) (i : Number) (j : Joint) : Type 0 where
  pub u : length (j.u i) ≡ n
  pub v : length (j.v i) ≡ p.second n
  pub words : length (j.words i) ≡ p.draws n i

pub record IsSized (p : Protocol) (n : ℕ) (j : Joint) : Type 0 where
  pub first : IsSizedAt p n One j
  pub second : IsSizedAt p n Two j
  pub third : IsSizedAt p n Three j

-- at least as many of a miner's words as the first m elements take
pub record HasEnoughAt (p : Protocol) (m : ℕ) (i : Number) (j : Joint) : Type 0 where
  pub u : m ≤ length (j.u i)
  pub v : p.second m ≤ length (j.v i)
  pub words : p.draws m i ≤ length (j.words i)

pub record HasEnough (p : Protocol) (m : ℕ) (j : Joint) : Type 0 where
  pub first : HasEnoughAt p m One j
  pub second : HasEnoughAt p m Two j
  pub third : HasEnoughAt p m Three j

-- what the first m elements take, and what is after it
pub record IsFront (p : Protocol) (m : ℕ) (whole some : Joint) : Type 0 where
  pub u : (i : Number) → some.u i ≡ take m (whole.u i)
  pub v : (i : Number) → some.v i ≡ take (p.second m) (whole.v i)
  pub words : (i : Number) → some.words i ≡ take (p.draws m i) (whole.words i)

pub record IsBehind (p : Protocol) (m : ℕ) (whole rest : Joint) : Type 0 where
  pub u : (i : Number) → rest.u i ≡ drop m (whole.u i)
  pub v : (i : Number) → rest.v i ≡ drop (p.second m) (whole.v i)
  pub words : (i : Number) → rest.words i ≡ drop (p.draws m i) (whole.words i)
