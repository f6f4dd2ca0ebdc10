-- What the gates of a lookup mean, and the random words that they take.
use Rattle.std.specs.Prelude.{◌≡◌, ℕ, ◌+◌, ◌*◌, List, Some, map, length, slice_get}
use Rattle.proto_core.specs.Words.{AreWords}
use Rattle.gates.specs.declared.gate.Gate.{Gate}
use Rattle.gates.specs.Clear.{Values, value, FitFrom}
use Rattle.gates.specs.Counts.{Miner, words_of_all}
use Rattle.gates.specs.Counts.Miner.{Miner1, Miner2, Miner3}
use Rattle.oblivious_index.specs.Lookup.{looked}

-- whatever values fit the gates, the last of them has the elements that are looked up
abbrev pub LooksUp : (first array index n m : ℕ) → List Gate → Type 0
LooksUp first array index n m gates =
    (inputs values : Values)
    → length (value values array) ≡ n
    → length (value values index) ≡ m
    → AreWords (value values array)
    → AreWords (value values index)
    → FitFrom inputs values first gates
    → slice_get values (first + 23) ≡ Some (looked (value values array) (value values index))

-- the words that each miner draws for n elements and m places
abbrev pub words_taken : Miner → ℕ → ℕ
words_taken Miner1 n = 26 * n
words_taken Miner2 n = 22 * n
words_taken Miner3 n = 22 * n

abbrev pub TakesWords : (first array index n m : ℕ) → List Gate → Type 0
TakesWords first array index n m gates =
    (inputs values : Values) (miner : Miner)
    → length (value values array) ≡ n
    → length (value values index) ≡ m
    → FitFrom inputs values first gates
    → words_of_all (map length values) miner gates ≡ words_taken miner (n * m)
