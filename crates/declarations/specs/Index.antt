-- A table of names: where each name stands first.
use Rattle.std.specs.Prelude.{ℕ, ◌≡◌, List, map, Option}
use Rattle.std.specs.BTreeMap.{BTreeMap, get_by}
use Rattle.std.specs.Cmp.Lexicographic.{slice_cmp}
use Rattle.std.specs.Ordering.{nat_cmp}
use denote.Ref.{Bor}
use Rattle.declarations.specs.Declarations.{number_in}

-- what a map has at a name
abbrev pub found : {X : Type 0} → BTreeMap (Bor (List ℕ)) X → List ℕ → Option X
found m x = get_by (λ k. slice_cmp nat_cmp x k.now) m

abbrev pub text_of : Bor (List ℕ) → List ℕ
text_of x = x.now

-- the map has the number of each name
pub record IsNumbered (names : List (Bor (List ℕ))) (m : BTreeMap (Bor (List ℕ)) ℕ) : Type 0 where
  pub numbers : (x : List ℕ) → found m x ≡ number_in x (map text_of names)
