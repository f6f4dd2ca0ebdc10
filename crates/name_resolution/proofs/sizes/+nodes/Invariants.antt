use Rattle.std.proofs.Common.{◌≡◌, take}
use Rattle.std.specs.Prelude.{map}
use Rattle.program_trees.specs.Tree.{expression, trees_of}
use Rattle.name_resolution.specs.Sizes.{nodes_all, counted}
use Rattle.name_resolution.proofs.sizes.+nodes.Given as goal

abbrev pub invariant-nodes_all-loop-each : goal.invariant-nodes_all-loop-each
invariant-nodes_all-loop-each l = l.count ≡ counted (nodes_all (trees_of (map expression (take l.each-index l.each-items))))
