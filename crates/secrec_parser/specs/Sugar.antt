-- What the short forms of assignments stand for.
use Rattle.std.specs.Prelude.{Option, Some, None}
use Rattle.program_trees.specs.declared.expression.Operator.{Operator}
use Rattle.program_trees.specs.declared.statement.Identifier.{Identifier}
use Rattle.program_trees.specs.Tree.{Tree, variable, index, binary}
use Rattle.program_trees.specs.Statements.{TargetTree}

abbrev pub held_in : Identifier → Option Tree → Tree
held_in x None = variable x.place x.text
held_in x (Some e) = index x.place (variable x.place x.text) e

-- a target as an expression
abbrev pub held : TargetTree → Tree
held t = held_in t.variable t.index

-- the operator between what a target holds and this operand
abbrev pub updated : TargetTree → Operator → Tree → Tree
updated t op e = binary t.variable.place op (held t) e
