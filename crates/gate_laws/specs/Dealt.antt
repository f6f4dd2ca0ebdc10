-- What is dealt, and the range and number of words.
use Rattle.std.specs.Prelude.{ℕ, ◌<◌, ◌^◌, List}
use Rattle.program_trees.specs.declared.expression.DataType.{DataType}
use Rattle.program_trees.specs.declared.expression.DataType.TheVariants.{Uint64, Int64}
use Rattle.program_trees.specs.declared.expression.DataType.TheVariants as datatype
use Rattle.proto_core.specs.declared.party.Number.{Number}
use Rattle.proto_core.specs.Lists.{at}
use Rattle.gates.specs.Clear.{Values}
use Rattle.gates.specs.Counts.{Miner, Miner1, Miner2, Miner3}
use Rattle.shared_plans.specs.Shares.{Kind}
use Rattle.language_model.specs.Effects.{Words}

-- what is dealt: the private inputs, in which ring each is shared, and each miner's shares of them
pub record Dealt : Type 0 where
  pub inputs : Values
  pub kinds : List Kind
  pub shares : Number → Values

-- numbers are below 2^64, truth values below 2
abbrev pub bound : DataType → ℕ
bound Uint64 = 2 ^ 64
bound Int64 = 2 ^ 64
bound datatype.Bool = 2

abbrev pub InRange : DataType → List ℕ → Type 0
InRange e words = (k : ℕ) → at words k < bound e

abbrev pub drawn_by : Words → Miner → ℕ
drawn_by d Miner1 = d.first
drawn_by d Miner2 = d.second
drawn_by d Miner3 = d.third
