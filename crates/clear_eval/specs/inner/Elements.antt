-- Cited by private functions alone: no contract of another crate rests on it.
-- An element of the array in a slot.
use Rattle.std.specs.Prelude.{ℕ}
use Rattle.language_model.specs.Effects.{Effect, ◌>>=◌, done}
use Rattle.language_model.specs.Values.{Value}
use Rattle.language_model.specs.Operations.{with_element}
use Rattle.language_model.specs.Evaluation.{Frame, Flow, goes, put}

-- the array in slot k gets another element
abbrev pub with_element_in : (line k : ℕ) → (index element : Value) → Frame → Effect Flow
with_element_in line k index element fr = do
  v ← with_element line (fr k) index element
  done (goes (put k v fr))
