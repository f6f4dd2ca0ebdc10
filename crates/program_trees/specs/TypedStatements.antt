-- Typed statements as values: the same trees without pointers.
use Rattle.std.specs.Prelude.{ℕ, List, [], ◌∷◌, Option, Some, None}
use Rattle.program_trees.specs.declared.typed_expression.TypedExpression.{TypedExpression}
use Rattle.program_trees.specs.declared.typed_statement.TypedStatement.{TypedStatement}
use Rattle.program_trees.specs.declared.typed_statement.TypedStatement.TheOpen as Open
use Rattle.program_trees.specs.declared.typed_statement.TypedStatement.TheOpen.{TypedStatement-F}
use Rattle.program_trees.specs.declared.typed_statement.TypedStatement.TheFolds.{fold-TypedStatement}
use Rattle.program_trees.specs.TypedTree.{TypedTree, typed_tree}

mutual
  pub data TypedStatementTree : Type 0 where
    empty_statement : TypedStatementTree
    block_statement : TypedStatementTrees → TypedStatementTree
    if_statement : (condition : TypedTree) → (body otherwise : TypedStatementTree) → TypedStatementTree
    loop_statement : (condition : TypedTree) → (step body : TypedStatementTree) → TypedStatementTree
    do_statement : (body : TypedStatementTree) → (condition : TypedTree) → TypedStatementTree
    break_statement : TypedStatementTree
    continue_statement : TypedStatementTree
    return_statement : Option TypedTree → TypedStatementTree
    assert_statement : (line : ℕ) → TypedTree → TypedStatementTree
    store_statement : (slot : ℕ) → TypedTree → TypedStatementTree
    default_statement : (slot : ℕ) → TypedStatementTree
    fill_statement : (line slot : ℕ) → (size value : TypedTree) → TypedStatementTree
    input_statement : (line slot : ℕ) → (text : List ℕ) → TypedStatementTree
    element_statement : (line slot : ℕ) → (position value : TypedTree) → TypedStatementTree
    publish_statement : (text : List ℕ) → TypedTree → TypedStatementTree
    evaluate_statement : TypedTree → TypedStatementTree

  pub data TypedStatementTrees : Type 0 where
    none : TypedStatementTrees
    also : TypedStatementTree → TypedStatementTrees → TypedStatementTrees

abbrev pub typed_statements_of : List TypedStatementTree → TypedStatementTrees
typed_statements_of [] = none
typed_statements_of (c ∷ cs) = also c (typed_statements_of cs)

abbrev pub optional_tree : Option TypedExpression → Option TypedTree
optional_tree None = None
optional_tree (Some e) = Some (typed_tree e)

-- one node, with the trees of its children in their places
abbrev pub typed_statement_layer : TypedStatement-F TypedStatementTree → TypedStatementTree
typed_statement_layer Open.Empty = empty_statement
typed_statement_layer (Open.Block cs) = block_statement (typed_statements_of cs.items)
typed_statement_layer (Open.If e a b) = if_statement (typed_tree e) a.value b.value
typed_statement_layer (Open.Loop e step body) = loop_statement (typed_tree e) step.value body.value
typed_statement_layer (Open.DoWhile body e) = do_statement body.value (typed_tree e)
typed_statement_layer Open.Break = break_statement
typed_statement_layer Open.Continue = continue_statement
typed_statement_layer (Open.Return e) = return_statement (optional_tree e)
typed_statement_layer (Open.Assert line e) = assert_statement line (typed_tree e)
typed_statement_layer (Open.Store k e) = store_statement k (typed_tree e)
typed_statement_layer (Open.StoreDefault k) = default_statement k
typed_statement_layer (Open.Fill line k n e) = fill_statement line k (typed_tree n) (typed_tree e)
typed_statement_layer (Open.Input line k text) = input_statement line k text
typed_statement_layer (Open.StoreElement line k i e) = element_statement line k (typed_tree i) (typed_tree e)
typed_statement_layer (Open.Publish text e) = publish_statement text (typed_tree e)
typed_statement_layer (Open.Evaluate e) = evaluate_statement (typed_tree e)

abbrev pub typed_statement : TypedStatement → TypedStatementTree
typed_statement = fold-TypedStatement TypedStatementTree typed_statement_layer
