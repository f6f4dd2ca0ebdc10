-- How many nodes a function's tree has, as the height of a program counts them, and its parameters.
use Rattle.std.specs.Prelude.{ℕ, ◌+◌, length, min, Option, Some, None}
use Rattle.program_trees.specs.Tree.{Tree, Trees, number, truth, variable, call, index, parentheses, negation, cast, binary, declassify, argument, publish}
use Rattle.program_trees.specs.Tree as Tree'
use Rattle.program_trees.specs.Statements.{DeclarationTree, TargetTree, AssignmentTree, StartTree, starts_with_nothing, starts_with_declaration}
use Rattle.program_trees.specs.Statements.{starts_with_assignment, StepTree, steps_by_nothing, steps_by_assignment, steps_by_expression, StatementTree}
use Rattle.program_trees.specs.Statements.{block, empty, branch, choice, while_loop, do_loop, for_loop, breaks, continues, returns, assertion}
use Rattle.program_trees.specs.Statements.{declaration, assignment, evaluation, StatementTrees}
use Rattle.program_trees.specs.Statements as Statements'
use Rattle.program_trees.specs.Programs.{FunctionTree}

abbrev mutual
  pub nodes : Tree → ℕ
  nodes (number p n) = 1
  nodes (truth p b) = 1
  nodes (variable p x) = 1
  nodes (call p x es) = 1 + nodes_all es
  nodes (index p a i) = 1 + (nodes a + nodes i)
  nodes (parentheses p e) = 1 + nodes e
  nodes (negation p e) = 1 + nodes e
  nodes (cast p t e) = 1 + nodes e
  nodes (binary p op a b) = 1 + (nodes a + nodes b)
  nodes (declassify p e) = 1 + nodes e
  nodes (argument p x) = 1
  nodes (publish p x e) = 1 + nodes e

  pub nodes_all : Trees → ℕ
  nodes_all Tree'.none = 0
  nodes_all (Tree'.also e es) = nodes e + nodes_all es

abbrev pub optional_nodes : Option Tree → ℕ
optional_nodes None = 0
optional_nodes (Some e) = nodes e

abbrev pub declaration_nodes : DeclarationTree → ℕ
declaration_nodes d = 1 + (optional_nodes d.size + optional_nodes d.value)

-- what is assigned to is a node
abbrev pub assignment_nodes : AssignmentTree → ℕ
assignment_nodes a = 1 + (1 + optional_nodes a.target.index + nodes a.value)

abbrev pub start_nodes : StartTree → ℕ
start_nodes starts_with_nothing = 0
start_nodes (starts_with_declaration d) = declaration_nodes d
start_nodes (starts_with_assignment a) = assignment_nodes a

abbrev pub step_nodes : StepTree → ℕ
step_nodes steps_by_nothing = 0
step_nodes (steps_by_assignment a) = assignment_nodes a
step_nodes (steps_by_expression e) = nodes e

abbrev mutual
  pub statement_nodes : StatementTree → ℕ
  statement_nodes (block p ss) = 1 + statements_nodes ss
  statement_nodes (empty p) = 1
  statement_nodes (branch p e s) = 1 + (nodes e + statement_nodes s)
  statement_nodes (choice p e s t) = 1 + (nodes e + (statement_nodes s + statement_nodes t))
  statement_nodes (while_loop p e s) = 1 + (nodes e + statement_nodes s)
  statement_nodes (do_loop p s e) = 1 + (statement_nodes s + nodes e)
  statement_nodes (for_loop p a e b s) = 1 + (start_nodes a + (optional_nodes e + (step_nodes b + statement_nodes s)))
  statement_nodes (breaks p) = 1
  statement_nodes (continues p) = 1
  statement_nodes (returns p e) = 1 + optional_nodes e
  statement_nodes (assertion p e) = 1 + nodes e
  statement_nodes (declaration d) = declaration_nodes d
  statement_nodes (assignment a) = assignment_nodes a
  statement_nodes (evaluation e) = 1 + nodes e

  pub statements_nodes : StatementTrees → ℕ
  statements_nodes Statements'.none = 0
  statements_nodes (Statements'.also s ss) = statement_nodes s + statements_nodes ss

-- the function itself, its body's block, what stands in it, and the parameters
abbrev pub function_nodes : FunctionTree → ℕ
function_nodes f = 2 + (statements_nodes f.body.statements + length f.parameters)

-- counted up to the largest number of 32 bits
abbrev pub counted : ℕ → ℕ
counted n = min n 4294967295

abbrev pub size_of : FunctionTree → ℕ
size_of f = counted (function_nodes f)
