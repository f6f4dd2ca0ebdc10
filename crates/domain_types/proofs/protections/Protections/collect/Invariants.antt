use Rattle.std.proofs.Common.{◌≡◌, ◌++◌, length}
use Rattle.std.specs.Prelude.{map}
use Rattle.program_trees.specs.Programs.{item_tree}
use Rattle.domain_types.specs.FunctionTypes.{protections_of}
use Rattle.domain_types.proofs.protections.Protections.collect.Given as goal

abbrev pub invariant-loop-item : goal.invariant-loop-item
invariant-loop-item l = protections_of (map item_tree l.fn.items) ≡ l.protections ++ protections_of (map item_tree l.rest)

abbrev pub decreases-loop-item : goal.decreases-loop-item
decreases-loop-item l = length l.rest
