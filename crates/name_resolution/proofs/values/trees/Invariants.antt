use Rattle.std.proofs.Common.{◌≡◌}
use Rattle.std.specs.Prelude.{map}
use Rattle.program_trees.specs.TypedTree.{typed_tree}
use Rattle.name_resolution.specs.Values.{tree_of_value}
use Rattle.name_resolution.specs.inner.Views.{valued}
use Rattle.name_resolution.proofs.values.trees.Given as goal

abbrev pub invariant-loop-value : goal.invariant-loop-value
invariant-loop-value l = map typed_tree l.trees.items ≡ map tree_of_value (map valued l.yielded)
