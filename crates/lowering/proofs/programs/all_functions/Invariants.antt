use Rattle.std.proofs.Common.{◌≡◌, take}
use Rattle.std.specs.Prelude.{map}
use Rattle.bytecode.specs.InMemory.{raw_function}
use Rattle.code_model.specs.Instructions.{raw_function as raw_of}
use Rattle.lowering.specs.inner.Naming.{texts}
use Rattle.lowering.specs.inner.Views.{function_seen}
use Rattle.lowering.proofs.programs.all_functions.Given as goal

abbrev pub invariant-loop-steps : goal.invariant-loop-steps
invariant-loop-steps l = map raw_function l.functions.items ≡ map (raw_of (texts l.names)) (map function_seen (take l.steps-index l.all))
