-- What each typed node in memory is as a value: an equation for every variant.
use Rattle.std.proofs.Common.{◌≡◌, ℕ, Bool, List, Box, Vec, Global, Option, sym, ap, ◌∙◌}
use Rattle.std.specs.Prelude.{map}
use Rattle.program_trees.specs.declared.operators.BinaryOperator.{BinaryOperator}
use Rattle.program_trees.specs.declared.operators.Connective.{Connective}
use Rattle.program_trees.specs.declared.operators.Operands.{Operands}
use Rattle.program_trees.specs.declared.operators.Cast.{Cast}
use Rattle.program_trees.specs.declared.typed_expression.TypedExpression.{TypedExpression}
use Rattle.program_trees.specs.declared.typed_expression.TypedExpression.TheVariants as Variant
use Rattle.program_trees.specs.declared.typed_expression.TypedExpression.TheOpen as Open
use Rattle.program_trees.specs.declared.typed_expression.TypedExpression.TheFolds.{fold-roll-TypedExpression}
use Rattle.program_trees.specs.declared.typed_statement.TypedStatement.{TypedStatement}
use Rattle.program_trees.specs.declared.typed_statement.TypedStatement.TheVariants as StatementVariant
use Rattle.program_trees.specs.declared.typed_statement.TypedStatement.TheOpen as StatementOpen
use Rattle.program_trees.specs.declared.typed_statement.TypedStatement.TheFolds.{fold-roll-TypedStatement}
use Rattle.program_trees.specs.TypedTree.{TypedTree, word_node, truth_node, zero_node, slot_node, call_node, size_node, cat_node, sum_node, bits_node, lookup_node}
use Rattle.program_trees.specs.TypedTree.{element_node, not_node, cast_node, binary_node, cut_node, declassify_node, typed_trees_of, typed_layer, typed_tree}
use Rattle.program_trees.specs.TypedStatements.{TypedStatementTree, empty_statement, block_statement, if_statement, loop_statement, do_statement, break_statement}
use Rattle.program_trees.specs.TypedStatements.{continue_statement, return_statement, assert_statement, store_statement, default_statement, fill_statement}
use Rattle.program_trees.specs.TypedStatements.{input_statement, element_statement, publish_statement, evaluate_statement, typed_statements_of, optional_tree}
use Rattle.program_trees.specs.TypedStatements.{typed_statement_layer, typed_statement}

pub word_node_is : (n : ℕ) → typed_tree (Variant.Word n) ≡ word_node n
word_node_is n = ap typed_tree (sym (Variant.rolls-Word n)) ∙ fold-roll-TypedExpression TypedTree typed_layer (Open.Word n)

pub truth_node_is : (b : Bool) → typed_tree (Variant.Truth b) ≡ truth_node b
truth_node_is b = ap typed_tree (sym (Variant.rolls-Truth b)) ∙ fold-roll-TypedExpression TypedTree typed_layer (Open.Truth b)

pub zero_node_is : typed_tree Variant.Zero ≡ zero_node
zero_node_is = ap typed_tree (sym Variant.rolls-Zero) ∙ fold-roll-TypedExpression TypedTree typed_layer Open.Zero

pub slot_node_is : (k : ℕ) → typed_tree (Variant.Variable k) ≡ slot_node k
slot_node_is k = ap typed_tree (sym (Variant.rolls-Variable k)) ∙ fold-roll-TypedExpression TypedTree typed_layer (Open.Variable k)

pub call_node_is : (line : ℕ) (k : ℕ) (es : Vec TypedExpression Global)
    → typed_tree (Variant.Call line k es) ≡ call_node line k (typed_trees_of (map typed_tree es.items))
call_node_is line k es = ap typed_tree (sym (Variant.rolls-Call line k es)) ∙ fold-roll-TypedExpression TypedTree typed_layer (Open.Call line k es)

pub size_node_is : (e : Box TypedExpression Global) → typed_tree (Variant.Size e) ≡ size_node (typed_tree e.value)
size_node_is e = ap typed_tree (sym (Variant.rolls-Size e)) ∙ fold-roll-TypedExpression TypedTree typed_layer (Open.Size e)

pub cat_node_is : (line : ℕ) (a : Box TypedExpression Global) (b : Box TypedExpression Global)
    → typed_tree (Variant.Cat line a b) ≡ cat_node line (typed_tree a.value) (typed_tree b.value)
cat_node_is line a b = ap typed_tree (sym (Variant.rolls-Cat line a b)) ∙ fold-roll-TypedExpression TypedTree typed_layer (Open.Cat line a b)

pub sum_node_is : (e : Box TypedExpression Global) → typed_tree (Variant.Sum e) ≡ sum_node (typed_tree e.value)
sum_node_is e = ap typed_tree (sym (Variant.rolls-Sum e)) ∙ fold-roll-TypedExpression TypedTree typed_layer (Open.Sum e)

pub bits_node_is : (line : ℕ) (e : Box TypedExpression Global) → typed_tree (Variant.BitExtract line e) ≡ bits_node line (typed_tree e.value)
bits_node_is line e = ap typed_tree (sym (Variant.rolls-BitExtract line e)) ∙ fold-roll-TypedExpression TypedTree typed_layer (Open.BitExtract line e)

pub lookup_node_is : (line : ℕ) (a : Box TypedExpression Global) (i : Box TypedExpression Global)
    → typed_tree (Variant.Lookup line a i) ≡ lookup_node line (typed_tree a.value) (typed_tree i.value)
lookup_node_is line a i = ap typed_tree (sym (Variant.rolls-Lookup line a i)) ∙ fold-roll-TypedExpression TypedTree typed_layer (Open.Lookup line a i)

pub element_node_is : (line : ℕ) (a : Box TypedExpression Global) (i : Box TypedExpression Global)
    → typed_tree (Variant.Element line a i) ≡ element_node line (typed_tree a.value) (typed_tree i.value)
element_node_is line a i = ap typed_tree (sym (Variant.rolls-Element line a i)) ∙ fold-roll-TypedExpression TypedTree typed_layer (Open.Element line a i)

pub not_node_is : (e : Box TypedExpression Global) → typed_tree (Variant.Not e) ≡ not_node (typed_tree e.value)
not_node_is e = ap typed_tree (sym (Variant.rolls-Not e)) ∙ fold-roll-TypedExpression TypedTree typed_layer (Open.Not e)

pub cast_node_is : (c : Cast) (e : Box TypedExpression Global) → typed_tree (Variant.Cast c e) ≡ cast_node c (typed_tree e.value)
cast_node_is c e = ap typed_tree (sym (Variant.rolls-Cast c e)) ∙ fold-roll-TypedExpression TypedTree typed_layer (Open.Cast c e)

pub binary_node_is : (line : ℕ) (op : BinaryOperator) (ds : Operands) (a : Box TypedExpression Global) (b : Box TypedExpression Global)
    → typed_tree (Variant.Binary line op ds a b) ≡ binary_node line op ds (typed_tree a.value) (typed_tree b.value)
binary_node_is line op ds a b =
    ap typed_tree (sym (Variant.rolls-Binary line op ds a b)) ∙ fold-roll-TypedExpression TypedTree typed_layer (Open.Binary line op ds a b)

pub cut_node_is : (c : Connective) (a : Box TypedExpression Global) (b : Box TypedExpression Global)
    → typed_tree (Variant.CutShort c a b) ≡ cut_node c (typed_tree a.value) (typed_tree b.value)
cut_node_is c a b = ap typed_tree (sym (Variant.rolls-CutShort c a b)) ∙ fold-roll-TypedExpression TypedTree typed_layer (Open.CutShort c a b)

pub declassify_node_is : (e : Box TypedExpression Global) → typed_tree (Variant.Declassify e) ≡ declassify_node (typed_tree e.value)
declassify_node_is e = ap typed_tree (sym (Variant.rolls-Declassify e)) ∙ fold-roll-TypedExpression TypedTree typed_layer (Open.Declassify e)

pub typed_empty_statement_is : typed_statement StatementVariant.Empty ≡ empty_statement
typed_empty_statement_is =
    ap typed_statement (sym (StatementVariant.rolls-Empty)) ∙ fold-roll-TypedStatement TypedStatementTree typed_statement_layer StatementOpen.Empty

pub typed_block_statement_is : (cs : Vec TypedStatement Global)
    → typed_statement (StatementVariant.Block cs) ≡ block_statement (typed_statements_of (map typed_statement cs.items))
typed_block_statement_is cs =
    ap typed_statement (sym (StatementVariant.rolls-Block cs)) ∙ fold-roll-TypedStatement TypedStatementTree typed_statement_layer (StatementOpen.Block cs)

pub typed_if_statement_is : (e : TypedExpression) (a : Box TypedStatement Global) (b : Box TypedStatement Global)
    → typed_statement (StatementVariant.If e a b) ≡ if_statement (typed_tree e) (typed_statement a.value) (typed_statement b.value)
typed_if_statement_is e a b =
    ap typed_statement (sym (StatementVariant.rolls-If e a b)) ∙ fold-roll-TypedStatement TypedStatementTree typed_statement_layer (StatementOpen.If e a b)

pub typed_loop_statement_is : (e : TypedExpression) (step : Box TypedStatement Global) (body : Box TypedStatement Global)
    → typed_statement (StatementVariant.Loop e step body) ≡ loop_statement (typed_tree e) (typed_statement step.value) (typed_statement body.value)
typed_loop_statement_is e step body =
    ap typed_statement (sym (StatementVariant.rolls-Loop e step body))
    ∙ fold-roll-TypedStatement TypedStatementTree typed_statement_layer (StatementOpen.Loop e step body)

pub typed_do_statement_is : (body : Box TypedStatement Global) (e : TypedExpression)
    → typed_statement (StatementVariant.DoWhile body e) ≡ do_statement (typed_statement body.value) (typed_tree e)
typed_do_statement_is body e =
    ap typed_statement (sym (StatementVariant.rolls-DoWhile body e))
    ∙ fold-roll-TypedStatement TypedStatementTree typed_statement_layer (StatementOpen.DoWhile body e)

pub typed_break_statement_is : typed_statement StatementVariant.Break ≡ break_statement
typed_break_statement_is =
    ap typed_statement (sym (StatementVariant.rolls-Break)) ∙ fold-roll-TypedStatement TypedStatementTree typed_statement_layer StatementOpen.Break

pub typed_continue_statement_is : typed_statement StatementVariant.Continue ≡ continue_statement
typed_continue_statement_is =
    ap typed_statement (sym (StatementVariant.rolls-Continue)) ∙ fold-roll-TypedStatement TypedStatementTree typed_statement_layer StatementOpen.Continue

pub typed_return_statement_is : (e : Option TypedExpression) → typed_statement (StatementVariant.Return e) ≡ return_statement (optional_tree e)
typed_return_statement_is e =
    ap typed_statement (sym (StatementVariant.rolls-Return e)) ∙ fold-roll-TypedStatement TypedStatementTree typed_statement_layer (StatementOpen.Return e)

pub typed_assert_statement_is : (line : ℕ) (e : TypedExpression) → typed_statement (StatementVariant.Assert line e) ≡ assert_statement line (typed_tree e)
typed_assert_statement_is line e = ap typed_statement (sym (StatementVariant.rolls-Assert line e))
    ∙ fold-roll-TypedStatement TypedStatementTree typed_statement_layer (StatementOpen.Assert line e)

pub typed_store_statement_is : (k : ℕ) (e : TypedExpression) → typed_statement (StatementVariant.Store k e) ≡ store_statement k (typed_tree e)
typed_store_statement_is k e =
    ap typed_statement (sym (StatementVariant.rolls-Store k e)) ∙ fold-roll-TypedStatement TypedStatementTree typed_statement_layer (StatementOpen.Store k e)

pub typed_default_statement_is : (k : ℕ) → typed_statement (StatementVariant.StoreDefault k) ≡ default_statement k
typed_default_statement_is k =
    ap typed_statement (sym (StatementVariant.rolls-StoreDefault k))
    ∙ fold-roll-TypedStatement TypedStatementTree typed_statement_layer (StatementOpen.StoreDefault k)

pub typed_fill_statement_is : (line : ℕ) (k : ℕ) (n : TypedExpression) (e : TypedExpression)
    → typed_statement (StatementVariant.Fill line k n e) ≡ fill_statement line k (typed_tree n) (typed_tree e)
typed_fill_statement_is line k n e =
    ap typed_statement (sym (StatementVariant.rolls-Fill line k n e))
    ∙ fold-roll-TypedStatement TypedStatementTree typed_statement_layer (StatementOpen.Fill line k n e)

pub typed_input_statement_is : (line : ℕ) (k : ℕ) (text : List ℕ) → typed_statement (StatementVariant.Input line k text) ≡ input_statement line k text
typed_input_statement_is line k text =
    ap typed_statement (sym (StatementVariant.rolls-Input line k text))
    ∙ fold-roll-TypedStatement TypedStatementTree typed_statement_layer (StatementOpen.Input line k text)

pub typed_element_statement_is : (line : ℕ) (k : ℕ) (i : TypedExpression) (e : TypedExpression)
    → typed_statement (StatementVariant.StoreElement line k i e) ≡ element_statement line k (typed_tree i) (typed_tree e)
typed_element_statement_is line k i e = ap typed_statement (sym (StatementVariant.rolls-StoreElement line k i e))
    ∙ fold-roll-TypedStatement TypedStatementTree typed_statement_layer (StatementOpen.StoreElement line k i e)

pub typed_publish_statement_is : (text : List ℕ) (e : TypedExpression)
    → typed_statement (StatementVariant.Publish text e) ≡ publish_statement text (typed_tree e)
typed_publish_statement_is text e = ap typed_statement (sym (StatementVariant.rolls-Publish text e))
    ∙ fold-roll-TypedStatement TypedStatementTree typed_statement_layer (StatementOpen.Publish text e)

pub typed_evaluate_statement_is : (e : TypedExpression) → typed_statement (StatementVariant.Evaluate e) ≡ evaluate_statement (typed_tree e)
typed_evaluate_statement_is e =
    ap typed_statement (sym (StatementVariant.rolls-Evaluate e)) ∙ fold-roll-TypedStatement TypedStatementTree typed_statement_layer (StatementOpen.Evaluate e)
