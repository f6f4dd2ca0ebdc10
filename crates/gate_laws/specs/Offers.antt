-- What is dealt for the inputs of a run.
use Rattle.std.specs.Prelude.{◌≡◌, ℕ, ◌<◌, ◌^◌, true, List, [], ◌∷◌, length}
use Rattle.gates.specs.Clear.{value}
use Rattle.shared_plans.specs.Shares.{Shared, kind_at}
use Rattle.language_model.specs.Effects.{GivenInput}
use Rattle.language_model.specs.Values.{ring_for, gate_words}
use Rattle.language_model.specs.Evaluation.{behind}
use Rattle.gate_laws.specs.Dealt.{InRange, Dealt}

-- private input number k is dealt with these words, in the ring of its elements
pub record IsDealt (d : Dealt) (x : GivenInput) (k : ℕ) : Type 0 where
  pub there : k < length d.inputs
  pub words : value d.inputs k ≡ gate_words x.shape.element x.words
  pub kind : kind_at d.kinds k ≡ Shared (ring_for x.shape.element)

-- an input's words are in range, and one that is private is dealt
pub record IsOffered (d : Dealt) (x : GivenInput) (k : ℕ) : Type 0 where
  pub range : InRange x.shape.element x.words
  pub small : length x.words < 2 ^ 64
  pub dealt : x.secret ≡ true → IsDealt d x k

-- so many private ones stand before these
abbrev pub AreOffered : Dealt → ℕ → List GivenInput → Type 0
AreOffered d k [] = Unit {0}
AreOffered d k (x ∷ xs) = IsOffered d x k × AreOffered d (behind x k) xs
