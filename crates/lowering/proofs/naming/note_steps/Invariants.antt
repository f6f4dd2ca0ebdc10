use Rattle.std.proofs.Common.{◌≡◌, take}
use Rattle.std.specs.Prelude.{map}
use Rattle.std.specs.List.{flat_map}
use Rattle.code_model.specs.Instructions.{naming_all, step_names}
use Rattle.lowered_expressions.specs.Views.{step_seen}
use Rattle.lowering.specs.inner.Naming.{AreSame, texts}
use Rattle.lowering.proofs.naming.note_steps.Given as goal

abbrev pub invariant-loop-step : goal.invariant-loop-step
invariant-loop-step l =
    AreSame l.initial.names → (texts l.names ≡ naming_all (texts l.initial.names) (flat_map step_names (map step_seen (take l.step-index l.steps))))
    × AreSame l.names
