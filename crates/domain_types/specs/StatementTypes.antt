-- The faults of a statement, and what is known after it.
use Rattle.std.specs.Prelude.{Bool, true, false, not, ◌&&◌, ◌||◌, if◌then◌else◌, is_some, is_none, List, [], ◌++◌, Option, Some, None}
use Rattle.sc_text.specs.declared.span.Span.{Span}
use Rattle.program_trees.specs.declared.expression.DataType.TheVariants as datatype
use Rattle.program_trees.specs.declared.statement.Domain.{Domain}
use Rattle.program_trees.specs.declared.statement.Domain.TheVariants as domain
use Rattle.program_trees.specs.declared.function.ResultType.{ResultType}
use Rattle.program_trees.specs.declared.function.ResultType.TheVariants as returned
use Rattle.program_trees.specs.Tree.{Tree, argument}
use Rattle.program_trees.specs.Statements.{DeclarationTree, TargetTree, AssignmentTree, StartTree, starts_with_nothing, starts_with_declaration}
use Rattle.program_trees.specs.Statements.{starts_with_assignment, StepTree, steps_by_nothing, steps_by_assignment, steps_by_expression, StatementTree}
use Rattle.program_trees.specs.Statements.{block, branch, choice, while_loop, do_loop, for_loop, returns, assertion}
use Rattle.program_trees.specs.Statements.{declaration, assignment, evaluation, StatementTrees, none, also}
use Rattle.program_trees.specs.Heights.{place_of}
use Rattle.domain_types.specs.declared.fault.TypeProblem.{TypeProblem}
use Rattle.domain_types.specs.declared.fault.TypeProblem.TheVariants.{UnknownName, TypeMismatch, PrivateCondition, PrivateSize, PrivateAssert}
use Rattle.domain_types.specs.declared.fault.TypeFault.{TypeFault}
use Rattle.domain_types.specs.declared.value_type.ValueType.{ValueType}
use Rattle.domain_types.specs.Types.{fault_at, fault_if, of_typed, scalar_faults, store_faults, scalar_of}
use Rattle.domain_types.specs.Settings.{Setting, domain_of, type_written}
use Rattle.domain_types.specs.Scopes.{Variable, Scope, inner, with_variable, variable_named, twice_faults}
use Rattle.domain_types.specs.ExpressionTypes.{variable_type, variable_faults, index_faults, index_type, of_two, type_of, value_type, faults, value_faults}

-- CONDITIONS AND ASSERTIONS

-- a public scalar of type bool is wanted, where a private one is this problem; the part's own faults stand before
abbrev pub test_own : Setting → Scope → TypeProblem → Tree → List TypeFault
test_own w s problem e = of_typed (value_type w s e) (scalar_faults datatype.Bool problem (place_of e))

abbrev pub test_faults : Setting → Scope → TypeProblem → Tree → List TypeFault
test_faults w s problem e = value_faults w s e ++ test_own w s problem e

-- DECLARATIONS

-- the name of a domain that is not known
abbrev pub domain_faults : Setting → Domain → List TypeFault
domain_faults w domain.Public = []
domain_faults w (domain.Named x) = fault_if (is_none (domain_of w (domain.Named x))) x.place UnknownName

abbrev pub is_argument : Tree → Bool
is_argument (argument p x) = true
is_argument _ = false

-- a size, beginning at q, of a variable of the type t: only arrays have one
unfoldable pub sized_faults : Span → ValueType → ValueType → List TypeFault
sized_faults q t size = fault_if (not t.array) q TypeMismatch ++ scalar_faults datatype.Uint64 PrivateSize q size

-- a size and then an initialiser, which fills the array and so is a scalar
unfoldable pub filled_faults : Span → Span → ValueType → ValueType → ValueType → List TypeFault
filled_faults q p t size value = sized_faults q t size ++ store_faults p (scalar_of t) value

-- the faults of the size and of the initialiser; `argument` may be the whole initialiser where there is no size
abbrev pub initial_faults : Setting → Scope → (size value : Option Tree) → List TypeFault
initial_faults w s None None = []
initial_faults w s None (Some e) = if is_argument e then [] else value_faults w s e
initial_faults w s (Some n) None = value_faults w s n
initial_faults w s (Some n) (Some e) = value_faults w s n ++ value_faults w s e

-- the declaration's own, where its type, its size and its initialiser have types; an argument has the declared type
abbrev pub declared_faults : Setting → Scope → ValueType → (size value : Option Tree) → List TypeFault
declared_faults w s t None None = []
declared_faults w s t None (Some e) = of_typed (value_type w s e) (store_faults (place_of e) t)
declared_faults w s t (Some n) None = of_typed (value_type w s n) (sized_faults (place_of n) t)
declared_faults w s t (Some n) (Some e) =
    of_typed (value_type w s n) (λ size. of_typed (value_type w s e) (filled_faults (place_of n) (place_of e) t size))

-- that a name is unknown or declared twice is said whatever else is wrong
abbrev pub declaration_faults : Setting → Scope → DeclarationTree → List TypeFault
declaration_faults w s d =
    domain_faults w d.declared.domain
    ++ twice_faults s d.variable
    ++ initial_faults w s d.size d.value
    ++ of_typed (type_written w d.declared) (λ t. declared_faults w s t d.size d.value)

abbrev pub variable_declared : Setting → DeclarationTree → Variable
variable_declared w d = record { name = d.variable.text; held = type_written w d.declared }

-- ASSIGNMENTS

-- what is assigned to: a variable, or an element of one
abbrev pub target_type : Setting → Scope → TargetTree → Option ValueType
target_type w s t = indexed t.variable.place (variable_type (variable_named s t.variable.text)) t.index
  where
    indexed : Span → Option ValueType → Option Tree → Option ValueType
    indexed p v None = v
    indexed p v (Some i) = of_two (index_type p (place_of i)) v (value_type w s i)

abbrev pub target_faults : Setting → Scope → TargetTree → List TypeFault
target_faults w s t =
    variable_faults t.variable.place (variable_named s t.variable.text)
    ++ indexed t.variable.place (variable_type (variable_named s t.variable.text)) t.index
  where
    indexed : Span → Option ValueType → Option Tree → List TypeFault
    indexed p v None = []
    indexed p v (Some i) =
        value_faults w s i ++ of_typed v (λ a. of_typed (value_type w s i) (index_faults p (place_of i) a))

abbrev pub assignment_faults : Setting → Scope → AssignmentTree → List TypeFault
assignment_faults w s a =
    (target_faults w s a.target ++ value_faults w s a.value)
    ++ of_typed (target_type w s a.target) (λ t. of_typed (value_type w s a.value) (store_faults (place_of a.value) t))

-- THE PARTS OF A `for`

abbrev pub start_faults : Setting → Scope → StartTree → List TypeFault
start_faults w s starts_with_nothing = []
start_faults w s (starts_with_declaration d) = declaration_faults w s d
start_faults w s (starts_with_assignment a) = assignment_faults w s a

abbrev pub after_start : Setting → Scope → StartTree → Scope
after_start w s (starts_with_declaration d) = with_variable (variable_declared w d) s
after_start w s _ = s

abbrev pub step_faults : Setting → Scope → StepTree → List TypeFault
step_faults w s steps_by_nothing = []
step_faults w s (steps_by_assignment a) = assignment_faults w s a
step_faults w s (steps_by_expression e) = faults w s e

-- of the parts of a `for` only its condition and an expression as its third part have types
abbrev pub is_step_typed : Setting → Scope → StepTree → Bool
is_step_typed w s (steps_by_expression e) = is_some (type_of w s e)
is_step_typed w s _ = true

abbrev pub optional_faults : Setting → Scope → Option Tree → List TypeFault
optional_faults w s e = of_typed e (value_faults w s)

-- the condition of a `for`: nothing is said of it where the third part has no type
abbrev pub for_own : Setting → Scope → Option Tree → (step_typed : Bool) → List TypeFault
for_own w s (Some e) true = test_own w s PrivateCondition e
for_own w s _ _ = []

-- RETURNS

-- a `return` at p
abbrev pub return_own : Setting → Scope → Span → ResultType → Option Tree → List TypeFault
return_own w s p returned.Void None = []
return_own w s p returned.Void (Some e) = of_typed (value_type w s e) (λ t. fault_at p TypeMismatch)
return_own w s p (returned.Value t) None = fault_at p TypeMismatch
return_own w s p (returned.Value t) (Some e) =
    of_typed (type_written w t) (λ wanted. of_typed (value_type w s e) (store_faults (place_of e) wanted))

-- STATEMENTS

-- what is known after a statement
abbrev pub after : Setting → Scope → StatementTree → Scope
after w s (declaration d) = with_variable (variable_declared w d) s
after w s _ = s

abbrev pub after_all : Setting → Scope → StatementTrees → Scope
after_all w s none = s
after_all w s (also t ts) = after_all w (after w s t) ts

-- the faults of a statement in a function with this result; a `for` and each branch or body is a block
abbrev mutual
  pub statement_faults : Setting → ResultType → Scope → StatementTree → List TypeFault
  statement_faults w r s (block p ss) = block_faults w r (inner s) ss
  statement_faults w r s (branch p e body) = test_faults w s PrivateCondition e ++ statement_faults w r (inner s) body
  statement_faults w r s (choice p e body otherwise) =
      test_faults w s PrivateCondition e ++ statement_faults w r (inner s) body ++ statement_faults w r (inner s) otherwise
  statement_faults w r s (while_loop p e body) = test_faults w s PrivateCondition e ++ statement_faults w r (inner s) body
  statement_faults w r s (do_loop p body e) = statement_faults w r (inner s) body ++ test_faults w s PrivateCondition e
  statement_faults w r s (for_loop p start e step body) =
      start_faults w (inner s) start
      ++ optional_faults w (after_start w (inner s) start) e
      ++ step_faults w (after_start w (inner s) start) step
      ++ for_own w (after_start w (inner s) start) e (is_step_typed w (after_start w (inner s) start) step)
      ++ statement_faults w r (inner (after_start w (inner s) start)) body
  statement_faults w r s (returns p e) = optional_faults w s e ++ return_own w s p r e
  statement_faults w r s (assertion p e) = test_faults w s PrivateAssert e
  statement_faults w r s (declaration d) = declaration_faults w s d
  statement_faults w r s (assignment a) = assignment_faults w s a
  statement_faults w r s (evaluation e) = faults w s e
  statement_faults w r s _ = []

  -- statements in order, each in what is known there
  pub block_faults : Setting → ResultType → Scope → StatementTrees → List TypeFault
  block_faults w r s none = []
  block_faults w r s (also t ts) = statement_faults w r s t ++ block_faults w r (after w s t) ts

-- ALWAYS RETURNS

-- a `return`, a block with a statement that always returns, an `if` whose both branches do; a loop never counts
abbrev mutual
  pub always_returns : StatementTree → Bool
  always_returns (block p ss) = one_returns ss
  always_returns (choice p e body otherwise) = always_returns body && always_returns otherwise
  always_returns (returns p e) = true
  always_returns _ = false

  pub one_returns : StatementTrees → Bool
  one_returns none = false
  one_returns (also t ts) = always_returns t || one_returns ts
