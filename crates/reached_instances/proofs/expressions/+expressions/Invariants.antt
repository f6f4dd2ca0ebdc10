use Rattle.std.proofs.Common.{◌≡◌, ◌++◌, take}
use Rattle.std.specs.Prelude.{map}
use Rattle.program_trees.specs.TypedTree.{typed_tree, typed_trees_of}
use Rattle.reached_instances.specs.Domains.{domains}
use Rattle.reached_instances.specs.Calls.{calls_of_all}
use Rattle.reached_instances.specs.Views.{setting, instances_seen}
use Rattle.reached_instances.proofs.expressions.+expressions.Given as goal

abbrev pub invariant-expressions-loop-each : goal.invariant-expressions-loop-each
invariant-expressions-loop-each l = record {
  domains : l.domains.items ≡ domains (setting l.here) (typed_trees_of (map typed_tree (take l.each-index l.each-items)));
  calls : instances_seen l.found.items
      ≡ instances_seen l.initial.found.items ++ calls_of_all (setting l.here) (typed_trees_of (map typed_tree (take l.each-index l.each-items)));
}
