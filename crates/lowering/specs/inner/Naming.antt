-- Cited by private functions alone: no contract of another crate rests on it.
-- Names as they are noted.
use Rattle.std.specs.Prelude.{◌≡◌, ℕ, List, map}
use Rattle.lowering.specs.declared.naming.Names.{Names}

abbrev pub texts : Names → List (List ℕ)
texts names = map (λ text. text.now) names.places.keys

-- the list has the names of the places
abbrev pub AreSame : Names → Type 0
AreSame names = names.list.items ≡ texts names
