-- Values of which some were let go: what is held of them, each at its number.
use Rattle.std.specs.Prelude.{◌≡◌, ℕ, zero, suc, ◌≤◌, if◌then◌else◌, List, [], ◌∷◌, ◌++◌}
use Rattle.std.specs.Ordering.{nat_cmp}
use Rattle.std.specs.BTreeSet.{BTreeSet, contains}
use Rattle.gates.specs.Clear.{Values}

-- the first so many values
abbrev pub first_values : (ℕ → List ℕ) → ℕ → Values
first_values at zero = []
first_values at (suc n) = first_values at n ++ at n ∷ []

-- nothing is held from a number on
abbrev pub NothingFrom : ℕ → (ℕ → List ℕ) → Type 0
NothingFrom n at = (k : ℕ) → n ≤ k → at k ≡ []

-- the words of a value where its number is one of these, else none
abbrev pub if_kept : BTreeSet ℕ → ℕ → List ℕ → List ℕ
if_kept numbers k words = if contains nat_cmp numbers k then words else []

-- values from a number on, of which these are kept
abbrev pub kept_from : BTreeSet ℕ → ℕ → Values → Values
kept_from numbers k [] = []
kept_from numbers k (words ∷ values) = if_kept numbers k words ∷ kept_from numbers (suc k) values

abbrev pub kept_only : BTreeSet ℕ → Values → Values
kept_only numbers values = kept_from numbers 0 values
