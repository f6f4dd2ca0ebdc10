use Rattle.std.proofs.Common.{◌≡◌, take}
use Rattle.std.specs.Prelude.{map}
use Rattle.program_trees.specs.TypedTree.{typed_tree, typed_trees_of}
use Rattle.reached_instances.specs.Domains.{domains}
use Rattle.reached_instances.specs.Views.{setting}
use Rattle.reached_instances.proofs.seeing.+domains.Given as goal

abbrev pub invariant-domains-loop-each : goal.invariant-domains-loop-each
invariant-domains-loop-each l = l.domains.items ≡ domains (setting l.here) (typed_trees_of (map typed_tree (take l.each-index l.each-items)))
