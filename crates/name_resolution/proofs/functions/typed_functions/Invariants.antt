use Rattle.std.proofs.Common.{◌≡◌, Some, take}
use Rattle.std.specs.Prelude.{map}
use Rattle.declarations.specs.Views.{declared, tree_at}
use Rattle.program_trees.specs.TypedPrograms.{typed_function_tree}
use Rattle.name_resolution.specs.Functions.{typed_functions}
use Rattle.name_resolution.proofs.functions.typed_functions.Given as goal

abbrev pub invariant-loop-each : goal.invariant-loop-each
invariant-loop-each l = typed_functions (declared l.declarations) (map tree_at (take l.each-index l.each-items)) ≡ Some (map typed_function_tree l.made.items)
