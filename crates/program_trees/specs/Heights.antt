-- How high a tree is: its nodes from the program down to a leaf. And where a part begins.
use Rattle.std.specs.Prelude.{ℕ, ◌+◌, max, List, [], ◌∷◌, Option, Some, None}
use Rattle.sc_text.specs.declared.span.Span.{Span}
use Rattle.program_trees.specs.Tree.{Tree, number, truth, variable, call, index, parentheses, negation, cast, binary, declassify, argument, publish, Trees}
use Rattle.program_trees.specs.Tree as Tree'
use Rattle.program_trees.specs.Statements.{DeclarationTree, TargetTree, AssignmentTree, StartTree, starts_with_nothing, starts_with_declaration}
use Rattle.program_trees.specs.Statements.{starts_with_assignment, StepTree, steps_by_nothing, steps_by_assignment, steps_by_expression, StatementTree}
use Rattle.program_trees.specs.Statements.{block, branch, choice, while_loop, do_loop, for_loop, returns, assertion}
use Rattle.program_trees.specs.Statements.{declaration, assignment, evaluation, StatementTrees}
use Rattle.program_trees.specs.Statements as Statements'
use Rattle.program_trees.specs.Programs.{FunctionTree, ItemTree, defines, ProgramTree}

abbrev mutual
  pub height : Tree → ℕ
  height (call p x es) = 1 + heights es
  height (index p a i) = 1 + max (height a) (height i)
  height (parentheses p e) = 1 + height e
  height (negation p e) = 1 + height e
  height (cast p t e) = 1 + height e
  height (binary p op a b) = 1 + max (height a) (height b)
  height (declassify p e) = 1 + height e
  height (publish p x e) = 1 + height e
  height _ = 1

  -- that of the highest, 0 where there is none
  pub heights : Trees → ℕ
  heights Tree'.none = 0
  heights (Tree'.also e es) = max (height e) (heights es)

abbrev pub optional_height : Option Tree → ℕ
optional_height None = 0
optional_height (Some e) = height e

abbrev pub declaration_height : DeclarationTree → ℕ
declaration_height d = 1 + max (optional_height d.size) (optional_height d.value)

abbrev pub target_height : TargetTree → ℕ
target_height t = 1 + optional_height t.index

abbrev pub assignment_height : AssignmentTree → ℕ
assignment_height a = 1 + max (target_height a.target) (height a.value)

abbrev pub start_height : StartTree → ℕ
start_height starts_with_nothing = 0
start_height (starts_with_declaration d) = declaration_height d
start_height (starts_with_assignment a) = assignment_height a

abbrev pub step_height : StepTree → ℕ
step_height steps_by_nothing = 0
step_height (steps_by_assignment a) = assignment_height a
step_height (steps_by_expression e) = height e

abbrev mutual
  pub statement_height : StatementTree → ℕ
  statement_height (block p ss) = 1 + statement_heights ss
  statement_height (branch p e s) = 1 + max (height e) (statement_height s)
  statement_height (choice p e s t) = 1 + max (height e) (max (statement_height s) (statement_height t))
  statement_height (while_loop p e s) = 1 + max (height e) (statement_height s)
  statement_height (do_loop p s e) = 1 + max (statement_height s) (height e)
  statement_height (for_loop p a e b s) =
      1 + max (max (start_height a) (optional_height e)) (max (step_height b) (statement_height s))
  statement_height (returns p e) = 1 + optional_height e
  statement_height (assertion p e) = 1 + height e
  statement_height (declaration d) = declaration_height d
  statement_height (assignment a) = assignment_height a
  statement_height (evaluation e) = 1 + height e
  statement_height _ = 1

  pub statement_heights : StatementTrees → ℕ
  statement_heights Statements'.none = 0
  statement_heights (Statements'.also s ss) = max (statement_height s) (statement_heights ss)

abbrev pub function_height : FunctionTree → ℕ
function_height f = 2 + statement_heights f.body.statements

abbrev pub items_height : List ItemTree → ℕ
items_height [] = 0
items_height (defines f ∷ items) = max (function_height f) (items_height items)
items_height (_ ∷ items) = items_height items

abbrev pub program_height : ProgramTree → ℕ
program_height p = 1 + items_height p.items

-- where a part begins
abbrev pub place_of : Tree → Span
place_of (number p n) = p
place_of (truth p b) = p
place_of (variable p x) = p
place_of (call p x es) = p
place_of (index p a i) = p
place_of (parentheses p e) = p
place_of (negation p e) = p
place_of (cast p t e) = p
place_of (binary p op a b) = p
place_of (declassify p e) = p
place_of (argument p x) = p
place_of (publish p x e) = p
