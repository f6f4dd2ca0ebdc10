use Rattle.std.proofs.Common.{◌≡◌, take}
use Rattle.std.specs.Prelude.{map}
use Rattle.bytecode.specs.InMemory.{raw_instruction}
use Rattle.code_model.specs.Instructions.{instruction}
use Rattle.lowered_expressions.specs.Views.{step_seen}
use Rattle.lowering.specs.inner.Naming.{texts}
use Rattle.lowering.proofs.instructions.instructions.Given as goal

abbrev pub invariant-loop-step : goal.invariant-loop-step
invariant-loop-step l = map raw_instruction l.body.items ≡ map (instruction (texts l.names)) (map step_seen (take l.step-index l.steps))
