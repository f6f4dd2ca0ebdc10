use Rattle.std.proofs.Common.{◌≡◌, take}
use Rattle.std.specs.Prelude.{map}
use Rattle.program_trees.specs.Statements.{statement, statements_of}
use Rattle.name_resolution.specs.Sizes.{statements_nodes, counted}
use Rattle.name_resolution.proofs.sizes.+statements.Given as goal

abbrev pub invariant-statements_nodes-loop-each : goal.invariant-statements_nodes-loop-each
invariant-statements_nodes-loop-each l = l.count ≡ counted (statements_nodes (statements_of (map statement (take l.each-index l.each-items))))
