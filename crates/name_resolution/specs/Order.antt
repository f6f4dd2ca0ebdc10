-- Which functions a program reaches, in the order in which they are first called.
use Rattle.std.specs.Prelude.{ℕ, zero, suc, Bool, if◌then◌else◌, List, [], ◌∷◌, ◌++◌, length, Option, Some, None, codes, map, is_some}
use Rattle.std.specs.List.{slice_get}
use Rattle.program_trees.specs.Tree.{Tree, Trees, call, index, parentheses, negation, cast, binary, declassify, publish}
use Rattle.program_trees.specs.Tree as Tree'
use Rattle.program_trees.specs.Statements.{DeclarationTree, AssignmentTree, StartTree, starts_with_nothing, starts_with_declaration}
use Rattle.program_trees.specs.Statements.{starts_with_assignment, StepTree, steps_by_nothing, steps_by_assignment, steps_by_expression, StatementTree}
use Rattle.program_trees.specs.Statements.{block, branch, choice, while_loop, do_loop, for_loop, returns, assertion}
use Rattle.program_trees.specs.Statements.{declaration, assignment, evaluation, StatementTrees}
use Rattle.program_trees.specs.Statements as Statements'
use Rattle.program_trees.specs.Programs.{FunctionTree}
use Rattle.declarations.specs.Declarations.{Declared, Callee, defined, callee, number_in}

abbrev pub function_name : FunctionTree → List ℕ
function_name f = f.function.text

abbrev pub is_found : List ℕ → List FunctionTree → Bool
is_found x fs = is_some (number_in x (map function_name fs))

-- a function that is called, after those that were called before it: a built-in one isn't of the program, and one that is there
-- stays where it is
abbrev pub with_callee : List FunctionTree → List ℕ → Option Callee → List FunctionTree
with_callee fs x (Some (defined k f)) = if is_found x fs then fs else fs ++ f ∷ []
with_callee fs x _ = fs

-- the functions known after an expression, where these are known before it: arguments are read before the call
abbrev mutual
  pub called_in : Declared → List FunctionTree → Tree → List FunctionTree
  called_in d fs (call p x es) = with_callee (called_in_all d fs es) x (callee d x)
  called_in d fs (index p a i) = called_in d (called_in d fs a) i
  called_in d fs (parentheses p e) = called_in d fs e
  called_in d fs (negation p e) = called_in d fs e
  called_in d fs (cast p t e) = called_in d fs e
  called_in d fs (binary p op a b) = called_in d (called_in d fs a) b
  called_in d fs (declassify p e) = called_in d fs e
  called_in d fs (publish p x e) = called_in d fs e
  called_in d fs _ = fs

  pub called_in_all : Declared → List FunctionTree → Trees → List FunctionTree
  called_in_all d fs Tree'.none = fs
  called_in_all d fs (Tree'.also e es) = called_in_all d (called_in d fs e) es

abbrev pub called_in_optional : Declared → List FunctionTree → Option Tree → List FunctionTree
called_in_optional d fs None = fs
called_in_optional d fs (Some e) = called_in d fs e

abbrev pub called_in_declaration : Declared → List FunctionTree → DeclarationTree → List FunctionTree
called_in_declaration d fs t = called_in_optional d (called_in_optional d fs t.size) t.value

abbrev pub called_in_assignment : Declared → List FunctionTree → AssignmentTree → List FunctionTree
called_in_assignment d fs a = called_in d (called_in_optional d fs a.target.index) a.value

abbrev pub called_in_start : Declared → List FunctionTree → StartTree → List FunctionTree
called_in_start d fs starts_with_nothing = fs
called_in_start d fs (starts_with_declaration t) = called_in_declaration d fs t
called_in_start d fs (starts_with_assignment a) = called_in_assignment d fs a

abbrev pub called_in_step : Declared → List FunctionTree → StepTree → List FunctionTree
called_in_step d fs steps_by_nothing = fs
called_in_step d fs (steps_by_assignment a) = called_in_assignment d fs a
called_in_step d fs (steps_by_expression e) = called_in d fs e

-- and those after a statement, read in the order of the code: of a loop the body, then the step, then the condition
abbrev mutual
  pub called_by : Declared → List FunctionTree → StatementTree → List FunctionTree
  called_by d fs (block p ss) = called_by_all d fs ss
  called_by d fs (branch p e body) = called_by d (called_in d fs e) body
  called_by d fs (choice p e body otherwise) = called_by d (called_by d (called_in d fs e) body) otherwise
  called_by d fs (while_loop p e body) = called_in d (called_by d fs body) e
  called_by d fs (do_loop p body e) = called_in d (called_by d fs body) e
  called_by d fs (for_loop p start e step body) =
      called_in_optional d (called_in_step d (called_by d (called_in_start d fs start) body) step) e
  called_by d fs (returns p e) = called_in_optional d fs e
  called_by d fs (assertion p e) = called_in d fs e
  called_by d fs (declaration t) = called_in_declaration d fs t
  called_by d fs (assignment a) = called_in_assignment d fs a
  called_by d fs (evaluation e) = called_in d fs e
  called_by d fs _ = fs

  pub called_by_all : Declared → List FunctionTree → StatementTrees → List FunctionTree
  called_by_all d fs Statements'.none = fs
  called_by_all d fs (Statements'.also t ts) = called_by_all d (called_by d fs t) ts

-- the functions that are known once n of them have been read; where there is no further one all have been read
abbrev pub read_one : Declared → List FunctionTree → Option FunctionTree → List FunctionTree
read_one d fs None = fs
read_one d fs (Some f) = called_by_all d fs f.body.statements

abbrev pub known_after : Declared → ℕ → List FunctionTree
known_after d zero = with_callee [] (codes "main") (callee d (codes "main"))
known_after d (suc n) = read_one d (known_after d n) (slice_get (known_after d n) n)

-- there are no more than the program has
abbrev pub reached : Declared → List FunctionTree
reached d = known_after d (length d.functions)
