-- What the gates of a bit extraction mean, and the random words that they take.
use Rattle.std.specs.Prelude.{◌≡◌, ℕ, ◌+◌, ◌*◌, List, Some, map, length, slice_get}
use Rattle.gates.specs.declared.gate.Gate.{Gate}
use Rattle.gates.specs.Clear.{Values, value, FitFrom}
use Rattle.gates.specs.Counts.{Miner, words_of_all}
use Rattle.gates.specs.Counts.Miner.{Miner1, Miner2, Miner3}

-- whatever values fit the gates, the last of them has the very words of the operand
abbrev pub GivesBits : ℕ → ℕ → ℕ → List Gate → Type 0
GivesBits first word n gates =
    (inputs values : Values)
    → length (value values word) ≡ n
    → FitFrom inputs values first gates
    → slice_get values (first + 53) ≡ Some (value values word)

-- the words that each miner draws for n elements
abbrev pub words_taken : Miner → ℕ → ℕ
words_taken Miner1 n = 40 * n
words_taken Miner2 n = 39 * n
words_taken Miner3 n = 39 * n

abbrev pub TakesWords : ℕ → ℕ → ℕ → List Gate → Type 0
TakesWords first word n gates =
    (inputs values : Values) (miner : Miner)
    → length (value values word) ≡ n
    → FitFrom inputs values first gates
    → words_of_all (map length values) miner gates ≡ words_taken miner n
