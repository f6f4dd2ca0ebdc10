-- The dealer's words of a third miner's view.
use Rattle.std.specs.Prelude.{ℕ, List, [], ◌∷◌, ◌++◌}
use Rattle.gates.specs.Clear.{Values}

-- of each value first the third miner's share, and then the second one's
abbrev pub pairs : (third second : Values) → List ℕ
pairs [] second = []
pairs (x ∷ xs) [] = []
pairs (x ∷ xs) (y ∷ ys) = x ++ (y ++ pairs xs ys)
