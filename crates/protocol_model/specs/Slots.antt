-- Which numbers are those of the values that gates make.
use Rattle.std.specs.Prelude.{ℕ, ◌+◌, ◌≤◌, ◌<◌, List, [], ◌∷◌, length}
use Rattle.protocol_model.specs.Gates.{Gate, Joined, Local}

-- how many values they make
abbrev pub made_by : List Gate → ℕ
made_by [] = 0
made_by (Joined p n u v ∷ gates) = length (p.made n) + made_by gates
made_by (Local n f ∷ gates) = 1 + made_by gates

-- the numbers from the first free one on, as many as values are made
abbrev pub IsOwn : (free : ℕ) → List Gate → (number : ℕ) → Type 0
IsOwn free gates k = (free ≤ k) × (k < free + made_by gates)
