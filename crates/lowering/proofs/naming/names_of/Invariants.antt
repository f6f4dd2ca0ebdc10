use Rattle.std.proofs.Common.{◌≡◌, take}
use Rattle.std.specs.Prelude.{map}
use Rattle.code_model.specs.Instructions.{names_of}
use Rattle.lowering.specs.inner.Naming.{AreSame, texts}
use Rattle.lowering.specs.inner.Views.{function_seen}
use Rattle.lowering.proofs.naming.names_of.Given as goal

abbrev pub invariant-loop-function : goal.invariant-loop-function
invariant-loop-function l =
    (texts l.names ≡ names_of (map function_seen (take l.function-index l.functions))) × AreSame l.names
