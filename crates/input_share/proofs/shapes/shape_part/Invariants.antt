use Rattle.std.proofs.Common.{◌≡◌, take}
use Rattle.input_share.specs.Shapes.{shapes_of}
use Rattle.input_share.proofs.shapes.shape_part.Given as goal

abbrev pub invariant-loop-entry : goal.invariant-loop-entry
invariant-loop-entry l = l.entries.items ≡ shapes_of (take l.entry-index l.entry-items)
