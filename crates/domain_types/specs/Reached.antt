-- Which functions are checked, and with which domains: each plain function, and each template with each binding that a call in a
-- checked function gives it.
use Rattle.std.specs.Prelude.{ℕ, ◌≡◌, List, [], ◌∷◌, ◌++◌, Option, Some, None, option_and_then}
use Rattle.std.specs.List.{slice_get}
use Rattle.program_trees.specs.Tree.{Tree, Trees, call, index, parentheses, negation, cast, binary, declassify, publish}
use Rattle.program_trees.specs.Tree as Tree'
use Rattle.program_trees.specs.Statements.{DeclarationTree, TargetTree, AssignmentTree, StartTree, starts_with_nothing, starts_with_declaration}
use Rattle.program_trees.specs.Statements.{starts_with_assignment, StepTree, steps_by_nothing, steps_by_assignment, steps_by_expression, StatementTree}
use Rattle.program_trees.specs.Statements.{block, branch, choice, while_loop, do_loop, for_loop, returns, assertion}
use Rattle.program_trees.specs.Statements.{declaration, assignment, evaluation, StatementTrees}
use Rattle.program_trees.specs.Statements as Statements'
use Rattle.program_trees.specs.Programs.{FunctionTree, ProgramTree}
use Rattle.sc_text.specs.declared.span.Span.{Span}
use Rattle.domain_types.specs.declared.value_type.Argument.{Argument}
use Rattle.domain_types.specs.declared.value_type.Protection.{Protection}
use Rattle.domain_types.specs.Types.{unless_refused}
use Rattle.declarations.specs.Declarations.{Declared, declared_by, functions_of, Callee, defined, callee}
use Rattle.domain_types.specs.Settings.{Setting}
use Rattle.domain_types.specs.Scopes.{Scope, inner, nothing_known}
use Rattle.domain_types.specs.ExpressionTypes.{arguments_of, binding_by, defined_faults, within}
use Rattle.domain_types.specs.StatementTypes.{after, after_start}
use Rattle.domain_types.specs.FunctionTypes.{with_parameters}
use Rattle.sc_text.specs.Lists.{Among}

-- a call of a function of the program: its number, and what its domain variables are bound to, where the call is not refused
pub record Call : Type 0 where
  pub function : ℕ
  pub binding : Option (List Protection)

abbrev pub binding_of : Declared → Span → FunctionTree → Option (List Argument) → Option (List Protection)
binding_of d p f gs = option_and_then (λ (xs : List Argument). unless_refused (defined_faults d p f xs) (binding_by f.variables f.parameters xs)) gs

-- a built-in function isn't one of the program
abbrev pub call_of : Declared → Span → Option Callee → Option (List Argument) → List Call
call_of d p (Some (defined k f)) gs = record { function = k; binding = binding_of d p f gs } ∷ []
call_of d p _ gs = []

-- the calls of an expression, in the order of their evaluation
abbrev mutual
  pub calls_of : Setting → Scope → Tree → List Call
  calls_of w s (call p x es) = calls_of_all w s es ++ call_of w.declared p (callee w.declared x) (arguments_of w s es)
  calls_of w s (index p a i) = calls_of w s a ++ calls_of w s i
  calls_of w s (parentheses p e) = calls_of w s e
  calls_of w s (negation p e) = calls_of w s e
  calls_of w s (cast p t e) = calls_of w s e
  calls_of w s (binary p op a b) = calls_of w s a ++ calls_of w s b
  calls_of w s (declassify p e) = calls_of w s e
  calls_of w s (publish p x e) = calls_of w s e
  calls_of w s _ = []

  pub calls_of_all : Setting → Scope → Trees → List Call
  calls_of_all w s Tree'.none = []
  calls_of_all w s (Tree'.also e es) = calls_of w s e ++ calls_of_all w s es

abbrev pub optional_calls : Setting → Scope → Option Tree → List Call
optional_calls w s None = []
optional_calls w s (Some e) = calls_of w s e

abbrev pub declaration_calls : Setting → Scope → DeclarationTree → List Call
declaration_calls w s d = optional_calls w s d.size ++ optional_calls w s d.value

abbrev pub assignment_calls : Setting → Scope → AssignmentTree → List Call
assignment_calls w s a = optional_calls w s a.target.index ++ calls_of w s a.value

abbrev pub start_calls : Setting → Scope → StartTree → List Call
start_calls w s starts_with_nothing = []
start_calls w s (starts_with_declaration d) = declaration_calls w s d
start_calls w s (starts_with_assignment a) = assignment_calls w s a

abbrev pub step_calls : Setting → Scope → StepTree → List Call
step_calls w s steps_by_nothing = []
step_calls w s (steps_by_assignment a) = assignment_calls w s a
step_calls w s (steps_by_expression e) = calls_of w s e

-- the calls of a statement, in the order of the text
abbrev mutual
  pub statement_calls : Setting → Scope → StatementTree → List Call
  statement_calls w s (block p ss) = block_calls w (inner s) ss
  statement_calls w s (branch p e body) = calls_of w s e ++ statement_calls w (inner s) body
  statement_calls w s (choice p e body otherwise) =
      calls_of w s e ++ statement_calls w (inner s) body ++ statement_calls w (inner s) otherwise
  statement_calls w s (while_loop p e body) = calls_of w s e ++ statement_calls w (inner s) body
  statement_calls w s (do_loop p body e) = statement_calls w (inner s) body ++ calls_of w s e
  statement_calls w s (for_loop p start e step body) =
      start_calls w (inner s) start
      ++ optional_calls w (after_start w (inner s) start) e
      ++ step_calls w (after_start w (inner s) start) step
      ++ statement_calls w (inner (after_start w (inner s) start)) body
  statement_calls w s (returns p e) = optional_calls w s e
  statement_calls w s (assertion p e) = calls_of w s e
  statement_calls w s (declaration d) = declaration_calls w s d
  statement_calls w s (assignment a) = assignment_calls w s a
  statement_calls w s (evaluation e) = calls_of w s e
  statement_calls w s _ = []

  pub block_calls : Setting → Scope → StatementTrees → List Call
  block_calls w s Statements'.none = []
  block_calls w s (Statements'.also t ts) = statement_calls w s t ++ block_calls w (after w s t) ts

abbrev pub function_calls : Setting → FunctionTree → List Call
function_calls w f = block_calls w (with_parameters w f.parameters nothing_known) f.body.statements

-- a function by its number with the domains of its domain variables: a plain function has none
pub record Instance : Type 0 where
  pub function : ℕ
  pub binding : List Protection

-- whether this instance of a function of the program makes this call
pub record Calls (p : ProgramTree) (i : Instance) (c : Call) : Type 0 where
  pub called_in : FunctionTree
  pub there : slice_get (functions_of p.items) i.function ≡ Some called_in
  pub calls : Among c (function_calls (within (declared_by p) called_in i.binding) called_in)

-- the least set with all plain functions that is closed under calls
pub data IsChecked (p : ProgramTree) : Instance → Type 0 where
  plain : (k : ℕ) (f : FunctionTree) → slice_get (functions_of p.items) k ≡ Some f → f.variables ≡ [] → IsChecked p (record { function = k; binding = [] })
  reached : (i : Instance) (k : ℕ) (ds : List Protection) → IsChecked p i → Calls p i (record { function = k; binding = Some ds })
      → IsChecked p (record { function = k; binding = ds })
