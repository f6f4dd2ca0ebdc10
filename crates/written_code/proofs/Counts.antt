-- How many statements of a typed statement make steps.
use Rattle.std.specs.Prelude.{ℕ, ◌+◌}
use Rattle.program_trees.specs.TypedStatements.{TypedStatementTree, TypedStatementTrees, none, also, empty_statement, block_statement, if_statement, loop_statement}
use Rattle.program_trees.specs.TypedStatements.{do_statement, break_statement, continue_statement, return_statement, assert_statement, store_statement}
use Rattle.program_trees.specs.TypedStatements.{default_statement, fill_statement, input_statement, element_statement, publish_statement, evaluate_statement}

abbrev mutual
  pub count : TypedStatementTree → ℕ
  count empty_statement = 0
  count (block_statement cs) = counts cs
  count (if_statement e a b) = 1 + count a + count b
  count (loop_statement e step body) = 1 + count step + count body
  count (do_statement body e) = 1 + count body
  count break_statement = 1
  count continue_statement = 1
  count (return_statement e) = 1
  count (assert_statement line e) = 1
  count (store_statement k e) = 1
  count (default_statement k) = 1
  count (fill_statement line k n e) = 1
  count (input_statement line k text) = 1
  count (element_statement line k i e) = 1
  count (publish_statement text e) = 1
  count (evaluate_statement e) = 1

  pub counts : TypedStatementTrees → ℕ
  counts none = 0
  counts (also c cs) = count c + counts cs
