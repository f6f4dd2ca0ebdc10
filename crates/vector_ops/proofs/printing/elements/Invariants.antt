use Rattle.std.proofs.Common.{◌≡◌, map, take}
use Rattle.language_model.specs.Values.{element_of}
use Rattle.vector_ops.proofs.printing.elements.Given as goal

abbrev pub invariant-loop-x : goal.invariant-loop-x
invariant-loop-x l = l.elements ≡ map (element_of l.element) (take l.x-index l.xs)
