use Rattle.std.proofs.Common.{◌≡◌, take}
use Rattle.std.specs.Prelude.{map}
use Rattle.program_trees.specs.Statements.{statement, statements_of}
use Rattle.declarations.specs.Views.{declared}
use Rattle.name_resolution.specs.Order.{called_by_all}
use Rattle.name_resolution.specs.inner.Views.{found_seen}
use Rattle.name_resolution.proofs.order.+statements.Given as goal

abbrev pub invariant-in_statements-loop-each : goal.invariant-in_statements-loop-each
invariant-in_statements-loop-each l =
    found_seen l.found ≡ called_by_all (declared l.declarations) (found_seen l.initial.found) (statements_of (map statement (take l.each-index l.each-items)))
