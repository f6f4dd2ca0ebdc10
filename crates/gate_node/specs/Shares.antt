-- A miner's shares of the values that a gate makes.
use Rattle.std.specs.Prelude.{ℕ, Bool, true, false, List, [], ◌∷◌, Option, Some, None, Vec}
use Rattle.std.specs.Global.{Global}

-- of one value, or of two
abbrev pub shares_of : Vec ℕ Global → Option (Vec ℕ Global) → List (List ℕ)
shares_of first None = first.items ∷ []
shares_of first (Some second) = first.items ∷ second.items ∷ []

abbrev pub shares_if : (two : Bool) → (first second : List ℕ) → List (List ℕ)
shares_if false first second = first ∷ []
shares_if true first second = first ∷ second ∷ []
