use Rattle.std.proofs.Common.{◌≡◌, drop}
use Rattle.std.specs.Prelude.{map, ◌||◌}
use Rattle.program_trees.specs.Programs.{item_tree}
use Rattle.declarations.specs.Declarations.{is_imported}
use Rattle.declarations.proofs.collecting.imports.Given as goal

abbrev pub invariant-loop-item : goal.invariant-loop-item
invariant-loop-item l = is_imported l.name (map item_tree l.items) ≡ l.found || is_imported l.name (map item_tree (drop l.item-index l.items))
