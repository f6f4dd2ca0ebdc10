-- How many values gates make, and how many random words each miner draws for them.
use Rattle.std.specs.Prelude.{ℕ, ◌+◌, ◌*◌, List, [], ◌∷◌, get_or}
use Rattle.gates.specs.declared.gate.Gate.{Gate}
use Rattle.gates.specs.declared.gate.Gate.TheVariants.{Mul, And, Split, Conv, Open, Result}

abbrev pub made_by : Gate → ℕ
made_by (Split u negated) = 2
made_by _ = 1

abbrev pub made_by_all : List Gate → ℕ
made_by_all [] = 0
made_by_all (gate ∷ gates) = made_by gate + made_by_all gates

-- one of the three miners
pub data Miner : Type 0 where
  Miner1 Miner2 Miner3 : Miner

abbrev pub size_of : List ℕ → ℕ → ℕ
size_of sizes u = get_or sizes u 0

abbrev pub words_of_split : Miner → ℕ → ℕ
words_of_split Miner1 n = n
words_of_split _ n = 0

abbrev pub words_of_conversion : Miner → ℕ → ℕ
words_of_conversion Miner1 n = 4 * n
words_of_conversion _ n = n

-- how many words a miner draws for a gate, where sizes tells how many elements the value of each number has
abbrev pub words_of : List ℕ → Miner → Gate → ℕ
words_of sizes miner (Mul u v) = 3 * size_of sizes u
words_of sizes miner (And u v) = 3 * size_of sizes u
words_of sizes miner (Split u negated) = words_of_split miner (size_of sizes u)
words_of sizes miner (Conv u) = words_of_conversion miner (size_of sizes u)
words_of sizes miner (Open ring u) = size_of sizes u
words_of sizes miner (Result ring u) = size_of sizes u
words_of sizes miner _ = 0

abbrev pub words_of_all : List ℕ → Miner → List Gate → ℕ
words_of_all sizes miner [] = 0
words_of_all sizes miner (gate ∷ gates) = words_of sizes miner gate + words_of_all sizes miner gates
