use Rattle.std.proofs.Common.{◌≡◌, [], length}
use Rattle.std.specs.Prelude.{map}
use Rattle.program_trees.specs.Programs.{item_tree}
use Rattle.domain_types.specs.ProgramTypes.{items_faults}
use Rattle.declarations.specs.Views.{declared}
use Rattle.domain_types.specs.inner.LeastFault.{least}
use Rattle.domain_types.proofs.items.items.Given as goal

abbrev pub invariant-loop-item : goal.invariant-loop-item
invariant-loop-item l =
    least l.initial.least_fault (items_faults (declared l.declarations) [] [] (map item_tree l.list))
    ≡ least l.least_fault (items_faults (declared l.declarations) l.kinds l.functions (map item_tree l.rest))

abbrev pub decreases-loop-item : goal.decreases-loop-item
decreases-loop-item l = length l.rest
