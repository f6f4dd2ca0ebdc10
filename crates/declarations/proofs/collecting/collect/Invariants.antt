use Rattle.std.proofs.Common.{◌≡◌, ◌++◌, length}
use Rattle.std.specs.Prelude.{map}
use Rattle.program_trees.specs.Programs.{item_tree}
use Rattle.declarations.specs.Declarations.{domains_of, functions_of}
use Rattle.declarations.specs.Named.{name_of}
use Rattle.declarations.specs.Views.{tree_at}
use Rattle.declarations.proofs.collecting.collect.Given as goal

abbrev pub invariant-loop-item : goal.invariant-loop-item
invariant-loop-item l = record {
  domains : domains_of (map item_tree l.fn.items) ≡ l.domains ++ domains_of (map item_tree l.rest);
  functions : functions_of (map item_tree l.fn.items) ≡ map tree_at l.functions.items ++ functions_of (map item_tree l.rest);
  names : l.names ≡ map name_of l.functions.items;
}

abbrev pub decreases-loop-item : goal.decreases-loop-item
decreases-loop-item l = length l.rest
