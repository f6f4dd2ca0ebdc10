-- What each node in memory is as a value: an equation for every variant of an expression and of a statement.
use Rattle.std.proofs.Common.{◌≡◌, ℕ, Bool, List, Box, Vec, Global, Option, None, Some, sym, ap, ◌∙◌}
use Rattle.std.specs.Prelude.{map}
use Rattle.sc_text.specs.declared.span.Span.{Span}
use Rattle.program_trees.specs.declared.expression.DataType.{DataType}
use Rattle.program_trees.specs.declared.expression.Operator.{Operator}
use Rattle.program_trees.specs.declared.expression.Expression.{Expression}
use Rattle.program_trees.specs.declared.expression.Expression.TheVariants as Variant
use Rattle.program_trees.specs.declared.expression.Expression.TheOpen as Open
use Rattle.program_trees.specs.declared.expression.Expression.TheFolds.{fold-roll-Expression}
use Rattle.program_trees.specs.declared.statement.Declaration.{Declaration}
use Rattle.program_trees.specs.declared.statement.Assignment.{Assignment}
use Rattle.program_trees.specs.declared.statement.ForStart.{ForStart}
use Rattle.program_trees.specs.declared.statement.ForStep.{ForStep}
use Rattle.program_trees.specs.declared.statement.Statement.{Statement}
use Rattle.program_trees.specs.declared.statement.Statement.TheVariants as StatementVariant
use Rattle.program_trees.specs.declared.statement.Statement.TheOpen as StatementOpen
use Rattle.program_trees.specs.declared.statement.Statement.TheFolds.{fold-roll-Statement}
use Rattle.program_trees.specs.Tree.{Tree, number, truth, variable, call, index, parentheses, negation, cast, binary, declassify, argument, publish}
use Rattle.program_trees.specs.Tree.{trees_of, layer, expression}
use Rattle.program_trees.specs.Statements.{StatementTree, block, empty, branch, choice, while_loop, do_loop, for_loop, breaks, continues, returns}
use Rattle.program_trees.specs.Statements.{assertion, declaration, assignment, evaluation, statements_of, optional, declaration_tree, assignment_tree}
use Rattle.program_trees.specs.Statements.{start_tree, step_tree, statement_layer, statement}

pub number_is : (place : Span) (word : ℕ) → expression (Variant.Number place word) ≡ number place word
number_is place word = ap expression (sym (Variant.rolls-Number place word)) ∙ fold-roll-Expression Tree layer (Open.Number place word)

pub truth_is : (place : Span) (b : Bool) → expression (Variant.Truth place b) ≡ truth place b
truth_is place b = ap expression (sym (Variant.rolls-Truth place b)) ∙ fold-roll-Expression Tree layer (Open.Truth place b)

pub variable_is : (place : Span) (text : List ℕ) → expression (Variant.Variable place text) ≡ variable place text
variable_is place text = ap expression (sym (Variant.rolls-Variable place text)) ∙ fold-roll-Expression Tree layer (Open.Variable place text)

pub call_is : (place : Span) (text : List ℕ) (es : Vec Expression Global)
    → expression (Variant.Call place text es) ≡ call place text (trees_of (map expression es.items))
call_is place text es = ap expression (sym (Variant.rolls-Call place text es)) ∙ fold-roll-Expression Tree layer (Open.Call place text es)

pub index_is : (place : Span) (a i : Box Expression Global) → expression (Variant.Index place a i) ≡ index place (expression a.value) (expression i.value)
index_is place a i = ap expression (sym (Variant.rolls-Index place a i)) ∙ fold-roll-Expression Tree layer (Open.Index place a i)

pub parentheses_is : (place : Span) (e : Box Expression Global) → expression (Variant.Parentheses place e) ≡ parentheses place (expression e.value)
parentheses_is place e = ap expression (sym (Variant.rolls-Parentheses place e)) ∙ fold-roll-Expression Tree layer (Open.Parentheses place e)

pub negation_is : (place : Span) (e : Box Expression Global) → expression (Variant.Not place e) ≡ negation place (expression e.value)
negation_is place e = ap expression (sym (Variant.rolls-Not place e)) ∙ fold-roll-Expression Tree layer (Open.Not place e)

pub cast_is : (place : Span) (t : DataType) (e : Box Expression Global) → expression (Variant.Cast place t e) ≡ cast place t (expression e.value)
cast_is place t e = ap expression (sym (Variant.rolls-Cast place t e)) ∙ fold-roll-Expression Tree layer (Open.Cast place t e)

pub binary_is : (place : Span) (op : Operator) (a b : Box Expression Global)
    → expression (Variant.Binary place op a b) ≡ binary place op (expression a.value) (expression b.value)
binary_is place op a b = ap expression (sym (Variant.rolls-Binary place op a b)) ∙ fold-roll-Expression Tree layer (Open.Binary place op a b)

pub declassify_is : (place : Span) (e : Box Expression Global) → expression (Variant.Declassify place e) ≡ declassify place (expression e.value)
declassify_is place e = ap expression (sym (Variant.rolls-Declassify place e)) ∙ fold-roll-Expression Tree layer (Open.Declassify place e)

pub argument_is : (place : Span) (text : List ℕ) → expression (Variant.Argument place text) ≡ argument place text
argument_is place text = ap expression (sym (Variant.rolls-Argument place text)) ∙ fold-roll-Expression Tree layer (Open.Argument place text)

pub publish_is : (place : Span) (text : List ℕ) (e : Box Expression Global)
    → expression (Variant.Publish place text e) ≡ publish place text (expression e.value)
publish_is place text e = ap expression (sym (Variant.rolls-Publish place text e)) ∙ fold-roll-Expression Tree layer (Open.Publish place text e)

pub block_statement_is : (place : Span) (ss : Vec Statement Global)
    → statement (StatementVariant.Block place ss) ≡ block place (statements_of (map statement ss.items))
block_statement_is place ss =
    ap statement (sym (StatementVariant.rolls-Block place ss)) ∙ fold-roll-Statement StatementTree statement_layer (StatementOpen.Block place ss)

pub empty_statement_is : (place : Span) → statement (StatementVariant.Empty place) ≡ empty place
empty_statement_is place = ap statement (sym (StatementVariant.rolls-Empty place))
    ∙ fold-roll-Statement StatementTree statement_layer (StatementOpen.Empty place)

pub branch_statement_is : (place : Span) (e : Expression) (s : Box Statement Global)
    → statement (StatementVariant.If place e s None) ≡ branch place (expression e) (statement s.value)
branch_statement_is place e s = ap statement (sym (StatementVariant.rolls-If place e s None))
    ∙ fold-roll-Statement StatementTree statement_layer (StatementOpen.If place e s None)

pub choice_statement_is : (place : Span) (e : Expression) (s t : Box Statement Global)
    → statement (StatementVariant.If place e s (Some t)) ≡ choice place (expression e) (statement s.value) (statement t.value)
choice_statement_is place e s t = ap statement (sym (StatementVariant.rolls-If place e s (Some t)))
    ∙ fold-roll-Statement StatementTree statement_layer (StatementOpen.If place e s (Some t))

pub while_statement_is : (place : Span) (e : Expression) (s : Box Statement Global)
    → statement (StatementVariant.While place e s) ≡ while_loop place (expression e) (statement s.value)
while_statement_is place e s =
    ap statement (sym (StatementVariant.rolls-While place e s)) ∙ fold-roll-Statement StatementTree statement_layer (StatementOpen.While place e s)

pub do_statement_is : (place : Span) (s : Box Statement Global) (e : Expression)
    → statement (StatementVariant.DoWhile place s e) ≡ do_loop place (statement s.value) (expression e)
do_statement_is place s e = ap statement (sym (StatementVariant.rolls-DoWhile place s e))
    ∙ fold-roll-Statement StatementTree statement_layer (StatementOpen.DoWhile place s e)

pub for_statement_is : (place : Span) (a : ForStart) (e : Option Expression) (b : ForStep) (s : Box Statement Global)
    → statement (StatementVariant.For place a e b s) ≡ for_loop place (start_tree a) (optional e) (step_tree b) (statement s.value)
for_statement_is place a e b s = ap statement (sym (StatementVariant.rolls-For place a e b s))
    ∙ fold-roll-Statement StatementTree statement_layer (StatementOpen.For place a e b s)

pub break_statement_is : (place : Span) → statement (StatementVariant.Break place) ≡ breaks place
break_statement_is place = ap statement (sym (StatementVariant.rolls-Break place))
    ∙ fold-roll-Statement StatementTree statement_layer (StatementOpen.Break place)

pub continue_statement_is : (place : Span) → statement (StatementVariant.Continue place) ≡ continues place
continue_statement_is place =
    ap statement (sym (StatementVariant.rolls-Continue place)) ∙ fold-roll-Statement StatementTree statement_layer (StatementOpen.Continue place)

pub return_statement_is : (place : Span) (e : Option Expression) → statement (StatementVariant.Return place e) ≡ returns place (optional e)
return_statement_is place e =
    ap statement (sym (StatementVariant.rolls-Return place e)) ∙ fold-roll-Statement StatementTree statement_layer (StatementOpen.Return place e)

pub assert_statement_is : (place : Span) (e : Expression) → statement (StatementVariant.Assert place e) ≡ assertion place (expression e)
assert_statement_is place e =
    ap statement (sym (StatementVariant.rolls-Assert place e)) ∙ fold-roll-Statement StatementTree statement_layer (StatementOpen.Assert place e)

pub declaration_statement_is : (d : Declaration) → statement (StatementVariant.Declaration d) ≡ declaration (declaration_tree d)
declaration_statement_is d =
    ap statement (sym (StatementVariant.rolls-Declaration d)) ∙ fold-roll-Statement StatementTree statement_layer (StatementOpen.Declaration d)

pub assignment_statement_is : (a : Assignment) → statement (StatementVariant.Assignment a) ≡ assignment (assignment_tree a)
assignment_statement_is a = ap statement (sym (StatementVariant.rolls-Assignment a))
    ∙ fold-roll-Statement StatementTree statement_layer (StatementOpen.Assignment a)

pub evaluation_statement_is : (e : Expression) → statement (StatementVariant.Expression e) ≡ evaluation (expression e)
evaluation_statement_is e = ap statement (sym (StatementVariant.rolls-Expression e))
    ∙ fold-roll-Statement StatementTree statement_layer (StatementOpen.Expression e)
