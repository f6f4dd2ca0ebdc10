use Rattle.std.proofs.Common.{◌≡◌, take}
use Rattle.std.specs.Prelude.{map}
use Rattle.program_trees.specs.Tree.{expression, trees_of}
use Rattle.declarations.specs.Views.{declared}
use Rattle.name_resolution.specs.Order.{called_in_all}
use Rattle.name_resolution.specs.inner.Views.{found_seen}
use Rattle.name_resolution.proofs.order.+expressions.Given as goal

abbrev pub invariant-in_expressions-loop-each : goal.invariant-in_expressions-loop-each
invariant-in_expressions-loop-each l =
    found_seen l.found ≡ called_in_all (declared l.declarations) (found_seen l.initial.found) (trees_of (map expression (take l.each-index l.each-items)))
