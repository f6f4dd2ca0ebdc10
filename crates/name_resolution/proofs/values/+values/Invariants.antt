use Rattle.std.proofs.Common.{◌≡◌, Some, take}
use Rattle.std.specs.Prelude.{map}
use Rattle.program_trees.specs.Tree.{expression, trees_of}
use Rattle.declarations.specs.Views.{declared}
use Rattle.name_resolution.specs.Values.{values}
use Rattle.name_resolution.specs.inner.Views.{valued}
use Rattle.name_resolution.proofs.values.+values.Given as goal

abbrev pub invariant-values-loop-each : goal.invariant-values-loop-each
invariant-values-loop-each l =
    values (declared l.declarations) l.variables (trees_of (map expression (take l.each-index l.each-items))) ≡ Some (map valued l.found.items)
