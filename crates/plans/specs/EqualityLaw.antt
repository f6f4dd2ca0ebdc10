-- What the gates of a test for zero mean, and the random words that they take.
use Rattle.std.specs.Prelude.{◌≡◌, ℕ, ◌+◌, ◌*◌, List, Some, map, length, slice_get}
use Rattle.gates.specs.declared.gate.Gate.{Gate}
use Rattle.gates.specs.Clear.{Values, value, FitFrom}
use Rattle.gates.specs.WordTests.{zero_test}
use Rattle.gates.specs.Counts.{Miner, words_of_all}
use Rattle.gates.specs.Counts.Miner.{Miner1, Miner2, Miner3}

-- whatever values fit the gates, the last of them tests each word for 0
abbrev pub TestsForZero : ℕ → ℕ → List Gate → Type 0
TestsForZero first difference gates =
    (inputs values : Values)
    → FitFrom inputs values first gates
    → slice_get values (first + 16) ≡ Some (map zero_test (value values difference))

-- the words that each miner draws for n elements
abbrev pub words_taken : Miner → ℕ → ℕ
words_taken Miner1 n = 19 * n
words_taken Miner2 n = 18 * n
words_taken Miner3 n = 18 * n

abbrev pub TakesWords : ℕ → ℕ → ℕ → List Gate → Type 0
TakesWords first difference n gates =
    (inputs values : Values) (miner : Miner)
    → length (value values difference) ≡ n
    → FitFrom inputs values first gates
    → words_of_all (map length values) miner gates ≡ words_taken miner n
