use Rattle.std.proofs.Common.{◌≡◌, take}
use Rattle.std.specs.Prelude.{map}
use Rattle.program_trees.specs.Tree.{expression}
use Rattle.program_trees.proofs.expression.Expression.+copies.Given as goal

abbrev pub invariant-copy-loop-argument : goal.invariant-copy-loop-argument
invariant-copy-loop-argument l = map expression l.copies.items ≡ map expression (take l.argument-index l.argument-items)
