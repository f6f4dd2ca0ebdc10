-- What the gates of a comparison mean, and the random words that they take.
use Rattle.std.specs.Prelude.{◌≡◌, ℕ, ◌+◌, ◌*◌, List, Some, map, length, slice_get}
use Rattle.gates.specs.declared.gate.Gate.{Gate}
use Rattle.gates.specs.Clear.{Values, value, each_two, FitFrom}
use Rattle.gates.specs.WordTests.{less_test}
use Rattle.gates.specs.Counts.{Miner, words_of_all}
use Rattle.gates.specs.Counts.Miner.{Miner1, Miner2, Miner3}

-- whatever values fit the gates, the last of them tells of each two words whether the first is less
abbrev pub TellsLess : ℕ → ℕ → ℕ → ℕ → List Gate → Type 0
TellsLess first left right n gates =
    (inputs values : Values)
    → length (value values left) ≡ n
    → length (value values right) ≡ n
    → FitFrom inputs values first gates
    → slice_get values (first + 109) ≡ Some (each_two less_test (value values left) (value values right))

-- the words that each miner draws for n elements
abbrev pub words_taken : Miner → ℕ → ℕ
words_taken Miner1 n = 119 * n
words_taken Miner2 n = 117 * n
words_taken Miner3 n = 117 * n

abbrev pub TakesWords : ℕ → ℕ → ℕ → ℕ → List Gate → Type 0
TakesWords first left right n gates =
    (inputs values : Values) (miner : Miner)
    → length (value values left) ≡ n
    → length (value values right) ≡ n
    → FitFrom inputs values first gates
    → words_of_all (map length values) miner gates ≡ words_taken miner n
