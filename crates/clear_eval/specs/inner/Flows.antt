-- Cited by private functions alone: no contract of another crate rests on it.
-- How a loop is left.
use Rattle.std.specs.Prelude.{◌≡◌, List, Option, None, Some}
use Rattle.language_model.specs.Effects.{Effect, done}
use Rattle.language_model.specs.Evaluation.{Frame, Flow, turned}
use Rattle.value_steps.specs.declared.value.Value as held
use Rattle.clear_eval.specs.declared.flow.Flow as going
use Rattle.clear_eval.specs.inner.Views.{frame_seen, flow_seen}

-- after a statement of the loop's body it goes on with the frame as it is, or is left
abbrev pub LeavesLoop : List held.Value → going.Flow → Option going.Flow → Type 0
LeavesLoop vs flow None = (next : Frame → Effect Flow) → turned (flow_seen vs flow) next ≡ next (frame_seen vs)
LeavesLoop vs flow (Some out) = (next : Frame → Effect Flow) → turned (flow_seen vs flow) next ≡ done (flow_seen vs out)
