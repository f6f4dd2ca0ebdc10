-- What everybody may know of the inputs of a run.
use Rattle.std.specs.Prelude.{◌≡◌, ℕ, ◌<◌, ◌^◌, Bool, true, false, List, [], ◌∷◌, length}
use Rattle.proto_core.specs.Lists.{at}
use Rattle.language_model.specs.Effects.{GivenInput}
use Rattle.language_model.specs.Values.{gate_size}
use Rattle.code_model.specs.Kinded.{IsSingle}
use Rattle.gate_laws.specs.Dealt.{InRange}

-- its words are in range, one where it is no array, and zeros where it is private
pub record IsKnown (x : GivenInput) : Type 0 where
  pub range : InRange x.shape.element x.words
  pub small : length x.words < 2 ^ 64
  pub single : IsSingle x
  pub hidden : x.secret ≡ true → (k : ℕ) → at x.words k ≡ 0

abbrev pub AreKnown : List GivenInput → Type 0
AreKnown [] = Unit {0}
AreKnown (x ∷ xs) = IsKnown x × AreKnown xs

-- how many words each private input has in the gates
abbrev pub size_then : Bool → ℕ → List ℕ → List ℕ
size_then true n sizes = n ∷ sizes
size_then false n sizes = sizes

abbrev pub private_sizes : List GivenInput → List ℕ
private_sizes [] = []
private_sizes (x ∷ xs) = size_then x.secret (gate_size x.shape.element (length x.words)) (private_sizes xs)
