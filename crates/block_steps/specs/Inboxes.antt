-- The messages that were not taken.
use Rattle.std.specs.Prelude.{◌≡◌, ◌≢◌, ℕ, List, [], ◌∷◌, Option, Some, None}

-- the oldest, if there is one
abbrev pub FrontIs : Option (List ℕ) → List (List ℕ) → Type 0
FrontIs None [] = Unit {0}
FrontIs None (m ∷ ms) = ⊥
FrontIs (Some f) [] = ⊥
FrontIs (Some f) (m ∷ ms) = f ≡ m

-- all that came, and beside it what was not taken: once all was taken, none is held; else it is as before
pub record LetsGo {A : Type 0} (before after : List A × List A) : Type 0 where
  pub all : before.1 ≡ [] → after ≡ ([], [])
  pub some : before.1 ≢ [] → after ≡ before
