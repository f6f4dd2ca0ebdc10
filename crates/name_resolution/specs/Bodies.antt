-- A statement of the program as a typed one.
use Rattle.std.specs.Prelude.{ℕ, true, false, List, Option, Some, None, option_map}
use Rattle.program_trees.specs.declared.expression.DataType.{DataType}
use Rattle.program_trees.specs.declared.expression.DataType.TheVariants.{Uint64, Int64}
use Rattle.program_trees.specs.declared.expression.DataType.TheVariants as datatype
use Rattle.program_trees.specs.Tree.{Tree, Trees, call, argument, publish}
use Rattle.program_trees.specs.Statements.{DeclarationTree, TargetTree, AssignmentTree, StartTree, starts_with_nothing, starts_with_declaration}
use Rattle.program_trees.specs.Statements.{starts_with_assignment, StepTree, steps_by_nothing, steps_by_assignment, steps_by_expression, StatementTree}
use Rattle.program_trees.specs.Statements.{block, empty, branch, choice, while_loop, do_loop, for_loop, breaks, continues, returns, assertion}
use Rattle.program_trees.specs.Statements.{declaration, assignment, evaluation, StatementTrees}
use Rattle.program_trees.specs.Statements as Statements'
use Rattle.declarations.specs.Declarations.{Declared}
use Rattle.program_trees.specs.TypedTree.{TypedTree, word_node, truth_node, zero_node}
use Rattle.program_trees.specs.TypedStatements.{TypedStatementTree, TypedStatementTrees, none, also, empty_statement, block_statement, if_statement, loop_statement}
use Rattle.program_trees.specs.TypedStatements.{do_statement, break_statement, continue_statement, return_statement, assert_statement, store_statement}
use Rattle.program_trees.specs.TypedStatements.{default_statement, fill_statement, input_statement, element_statement, publish_statement, evaluate_statement}
use Rattle.name_resolution.specs.Scopes.{FunctionScope}
use Rattle.name_resolution.specs.Values.{call_made}
use Rattle.name_resolution.specs.Resolving.{Resolving, ◌>>=◌, done, into, both, reading, next_slot, declare, in_block, expression, named}

-- EXPRESSIONS FOR WHAT THEY DO

abbrev pub calling : Declared → ℕ → List ℕ → Trees → FunctionScope → Option TypedTree
calling d line x es s = option_map (λ c. c.tree) (call_made d s.scope line x es)

-- what is published is told by its name; a call may give nothing
abbrev pub evaluated : Declared → Tree → Resolving TypedStatementTree
evaluated d (publish p x e) = into (publish_statement x) (expression d e)
evaluated d (call p x es) = into evaluate_statement (reading (calling d p.line x es))
evaluated d e = into evaluate_statement (expression d e)

-- DECLARATIONS

-- what fills an array where no value is given
abbrev pub default_of : DataType → TypedTree
default_of Uint64 = word_node 0
default_of Int64 = zero_node
default_of datatype.Bool = truth_node false

-- an input has the declared type
abbrev pub from_value : Declared → ℕ → Tree → Resolving TypedStatementTree
from_value d k (argument p x) = done (input_statement p.line k x)
from_value d k e = into (store_statement k) (expression d e)

-- the slot is the next one, after the size and the value
abbrev pub initial : Declared → ℕ → ℕ → DataType → (size value : Option Tree) → Resolving TypedStatementTree
initial d line k element None None = done (default_statement k)
initial d line k element None (Some e) = from_value d k e
initial d line k element (Some n) None = into (λ m. fill_statement line k m (default_of element)) (expression d n)
initial d line k element (Some n) (Some e) = both (fill_statement line k) (expression d n) (expression d e)

abbrev pub declared : Declared → DeclarationTree → Resolving TypedStatementTree
declared d t = do
  k ← next_slot
  c ← initial d t.declared.place.line k t.declared.element t.size t.value
  _ ← declare t.variable t.declared
  done c

-- ASSIGNMENTS

abbrev pub assigned_to : Declared → ℕ → ℕ → Option Tree → Tree → Resolving TypedStatementTree
assigned_to d line k None e = into (store_statement k) (expression d e)
assigned_to d line k (Some i) e = both (element_statement line k) (expression d i) (expression d e)

abbrev pub assigned : Declared → AssignmentTree → Resolving TypedStatementTree
assigned d a = do
  x ← named a.target.variable.text
  assigned_to d a.target.variable.place.line x.slot a.target.index a.value

-- THE PARTS OF A `for`

abbrev pub started : Declared → StartTree → Resolving TypedStatementTree
started d starts_with_nothing = done empty_statement
started d (starts_with_declaration t) = declared d t
started d (starts_with_assignment a) = assigned d a

abbrev pub stepped : Declared → StepTree → Resolving TypedStatementTree
stepped d steps_by_nothing = done empty_statement
stepped d (steps_by_assignment a) = assigned d a
stepped d (steps_by_expression e) = evaluated d e

-- a condition that is left out is true
abbrev pub condition_of : Declared → Option Tree → Resolving TypedTree
condition_of d None = done (truth_node true)
condition_of d (Some e) = expression d e

abbrev pub returned : Declared → Option Tree → Resolving TypedStatementTree
returned d None = done (return_statement None)
returned d (Some e) = into (λ v. return_statement (Some v)) (expression d e)

-- the parts of a `for`, whose body is a block
abbrev pub looped : Declared → StartTree → Option Tree → StepTree → Resolving TypedStatementTree → Resolving TypedStatementTree
looped d start e step body = do
  a ← started d start
  v ← condition_of d e
  c ← stepped d step
  b ← in_block body
  done (block_statement (also a (also (loop_statement v c b) none)))

-- STATEMENTS: a `for`, and each branch or body, is a block

abbrev mutual
  pub resolved : Declared → StatementTree → Resolving TypedStatementTree
  resolved d (block p ss) = into block_statement (in_block (resolved_all d ss))
  resolved d (empty p) = done empty_statement
  resolved d (branch p e body) = both (λ v c. if_statement v c empty_statement) (expression d e) (in_block (resolved d body))
  resolved d (choice p e body otherwise) = do
    v ← expression d e
    b ← in_block (resolved d body)
    c ← in_block (resolved d otherwise)
    done (if_statement v b c)
  resolved d (while_loop p e body) = both (λ v b. loop_statement v empty_statement b) (expression d e) (in_block (resolved d body))
  resolved d (do_loop p body e) = both do_statement (in_block (resolved d body)) (expression d e)
  resolved d (for_loop p start e step body) = in_block (looped d start e step (resolved d body))
  resolved d (breaks p) = done break_statement
  resolved d (continues p) = done continue_statement
  resolved d (returns p e) = returned d e
  resolved d (assertion p e) = into (assert_statement p.line) (expression d e)
  resolved d (declaration t) = declared d t
  resolved d (assignment a) = assigned d a
  resolved d (evaluation e) = evaluated d e

  pub resolved_all : Declared → StatementTrees → Resolving TypedStatementTrees
  resolved_all d Statements'.none = done none
  resolved_all d (Statements'.also t ts) = both also (resolved d t) (resolved_all d ts)
