-- What each miner does in a gate that sends nothing.
use Rattle.std.specs.Prelude.{ℕ, List, map}
use Rattle.std.specs.Int.{w64, bit_not}
use Rattle.proto_core.specs.declared.party.Number.{Number}
use Rattle.proto_core.specs.declared.party.Number.TheVariants.{One}
use Rattle.gates.specs.declared.gate.Gate.{Gate}
use Rattle.gates.specs.declared.gate.Gate.TheVariants.{Const, Not, Mul, And, Split, Conv, Open, Result}
use Rattle.gates.specs.Clear.{Values, value, clear_value}

-- words that everybody knows: the first miner has them, the others zeros
abbrev pub const_share : Number → List ℕ → List ℕ
const_share One list = list
const_share _ list = map (λ x. 0) list

-- the first miner turns the bits of its share
abbrev pub not_share : Number → List ℕ → List ℕ
not_share One us = map (bit_not w64) us
not_share _ us = us

-- all others do with each miner's shares, and with what it was dealt, what they do with clear values
abbrev pub local_share : Number → (dealt own : Values) → Gate → List ℕ
local_share i dealt own (Const list) = const_share i list
local_share i dealt own (Not u) = not_share i (value own u)
local_share i dealt own gate = clear_value dealt own gate

-- gates that send nothing
abbrev pub IsLocal : Gate → Type 0
IsLocal (Mul u v) = ⊥
IsLocal (And u v) = ⊥
IsLocal (Split u negated) = ⊥
IsLocal (Conv u) = ⊥
IsLocal (Open ring u) = ⊥
IsLocal (Result ring u) = ⊥
IsLocal _ = Unit {0}
