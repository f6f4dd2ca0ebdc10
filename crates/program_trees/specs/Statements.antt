-- Statements as values: the same trees without pointers.
use Rattle.std.specs.Prelude.{List, [], ◌∷◌, Option, Some, None}
use Rattle.std.proofs.Common.{Box, Global}
use Rattle.sc_text.specs.declared.span.Span.{Span}
use Rattle.program_trees.specs.declared.expression.Expression.{Expression}
use Rattle.program_trees.specs.declared.statement.Identifier.{Identifier}
use Rattle.program_trees.specs.declared.statement.DeclaredType.{DeclaredType}
use Rattle.program_trees.specs.declared.statement.Declaration.{Declaration}
use Rattle.program_trees.specs.declared.statement.Target.{Target}
use Rattle.program_trees.specs.declared.statement.Assignment.{Assignment}
use Rattle.program_trees.specs.declared.statement.ForStart.{ForStart}
use Rattle.program_trees.specs.declared.statement.ForStart.TheVariants as ForStart'
use Rattle.program_trees.specs.declared.statement.ForStep.{ForStep}
use Rattle.program_trees.specs.declared.statement.ForStep.TheVariants as ForStep'
use Rattle.program_trees.specs.declared.statement.Statement.{Statement}
use Rattle.program_trees.specs.declared.statement.Statement.TheOpen.{Statement-F, Block, Empty, If, While, DoWhile, For, Break, Continue, Return, Assert}
use Rattle.program_trees.specs.declared.statement.Statement.TheOpen.{Declaration as Declares, Assignment as Assigns, Expression as Evaluates}
use Rattle.program_trees.specs.declared.statement.Statement.TheFolds.{fold-Statement}
use Rattle.program_trees.specs.Tree.{Tree, variable, index, expression}

abbrev pub optional : Option Expression → Option Tree
optional None = None
optional (Some e) = Some (expression e)

pub record DeclarationTree : Type 0 where
  pub declared : DeclaredType
  pub variable : Identifier
  pub size : Option Tree
  pub value : Option Tree

pub record TargetTree : Type 0 where
  pub variable : Identifier
  pub index : Option Tree

pub record AssignmentTree : Type 0 where
  pub target : TargetTree
  pub value : Tree

pub data StartTree : Type 0 where
  starts_with_nothing : StartTree
  starts_with_declaration : DeclarationTree → StartTree
  starts_with_assignment : AssignmentTree → StartTree

pub data StepTree : Type 0 where
  steps_by_nothing : StepTree
  steps_by_assignment : AssignmentTree → StepTree
  steps_by_expression : Tree → StepTree

mutual
  pub data StatementTree : Type 0 where
    block : (place : Span) → StatementTrees → StatementTree
    empty : (place : Span) → StatementTree
    -- an `if` without `else`, and one with it
    branch : (place : Span) → (condition : Tree) → (body : StatementTree) → StatementTree
    choice : (place : Span) → (condition : Tree) → (body otherwise : StatementTree) → StatementTree
    while_loop : (place : Span) → (condition : Tree) → (body : StatementTree) → StatementTree
    do_loop : (place : Span) → (body : StatementTree) → (condition : Tree) → StatementTree
    for_loop :
        (place : Span) → (start : StartTree) → (condition : Option Tree) → (step : StepTree) → (body : StatementTree) →
        StatementTree
    breaks : (place : Span) → StatementTree
    continues : (place : Span) → StatementTree
    returns : (place : Span) → (value : Option Tree) → StatementTree
    assertion : (place : Span) → Tree → StatementTree
    declaration : DeclarationTree → StatementTree
    assignment : AssignmentTree → StatementTree
    evaluation : Tree → StatementTree

  pub data StatementTrees : Type 0 where
    none : StatementTrees
    also : StatementTree → StatementTrees → StatementTrees

abbrev pub statements_of : List StatementTree → StatementTrees
statements_of [] = none
statements_of (s ∷ ss) = also s (statements_of ss)

abbrev pub declaration_tree : Declaration → DeclarationTree
declaration_tree d = record { declared = d.declared; variable = d.variable; size = optional d.size; value = optional d.value }

abbrev pub target_tree : Target → TargetTree
target_tree t = record { variable = t.variable; index = optional t.index }

-- an expression as what is assigned to, where it may be: a variable, or an element of one
abbrev pub element_target : Tree → Tree → Option TargetTree
element_target (variable p x) i = Some (record { variable = record { place = p; text = x }; index = Some i })
element_target other i = None

abbrev pub target_of : Tree → Option TargetTree
target_of (variable p x) = Some (record { variable = record { place = p; text = x }; index = None })
target_of (index p a i) = element_target a i
target_of other = None

abbrev pub assignment_tree : Assignment → AssignmentTree
assignment_tree a = record { target = target_tree a.target; value = expression a.value }

abbrev pub start_tree : ForStart → StartTree
start_tree ForStart'.Nothing = starts_with_nothing
start_tree (ForStart'.Declaration d) = starts_with_declaration (declaration_tree d)
start_tree (ForStart'.Assignment a) = starts_with_assignment (assignment_tree a)

abbrev pub step_tree : ForStep → StepTree
step_tree ForStep'.Nothing = steps_by_nothing
step_tree (ForStep'.Assignment a) = steps_by_assignment (assignment_tree a)
step_tree (ForStep'.Expression e) = steps_by_expression (expression e)

abbrev pub conditional : Span → Tree → StatementTree → Option (Box StatementTree Global) → StatementTree
conditional place test body None = branch place test body
conditional place test body (Some otherwise) = choice place test body otherwise.value

-- one node, with the trees of its children in their places
abbrev pub statement_layer : Statement-F StatementTree → StatementTree
statement_layer (Block place ss) = block place (statements_of ss.items)
statement_layer (Empty place) = empty place
statement_layer (If place test body otherwise) = conditional place (expression test) body.value otherwise
statement_layer (While place test body) = while_loop place (expression test) body.value
statement_layer (DoWhile place body test) = do_loop place body.value (expression test)
statement_layer (For place start test step body) = for_loop place (start_tree start) (optional test) (step_tree step) body.value
statement_layer (Break place) = breaks place
statement_layer (Continue place) = continues place
statement_layer (Return place value) = returns place (optional value)
statement_layer (Assert place e) = assertion place (expression e)
statement_layer (Declares d) = declaration (declaration_tree d)
statement_layer (Assigns a) = assignment (assignment_tree a)
statement_layer (Evaluates e) = evaluation (expression e)

abbrev pub statement : Statement → StatementTree
statement = fold-Statement StatementTree statement_layer
