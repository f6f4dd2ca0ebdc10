-- Cited by private functions alone: no contract of another crate rests on it.
-- How much of a tree is left to evaluate: four for each node with others in it, and fewer where no function stands between it and its parts.
use Rattle.std.specs.Prelude.{ℕ, ◌+◌, ◌*◌, List, map, sum, Option, Some, None}
use Rattle.program_trees.specs.TypedTree.{TypedTree, TypedTrees, word_node, truth_node, zero_node, slot_node, call_node, size_node, cat_node, sum_node, bits_node}
use Rattle.program_trees.specs.TypedTree.{lookup_node, element_node, not_node, cast_node, binary_node, cut_node, declassify_node}
use Rattle.program_trees.specs.TypedTree as Tree'
use Rattle.program_trees.specs.TypedStatements.{TypedStatementTree, TypedStatementTrees, empty_statement, block_statement, if_statement, loop_statement, do_statement}
use Rattle.program_trees.specs.TypedStatements.{break_statement, continue_statement, return_statement, assert_statement, store_statement, default_statement}
use Rattle.program_trees.specs.TypedStatements.{fill_statement, input_statement, element_statement, publish_statement, evaluate_statement}
use Rattle.program_trees.specs.TypedStatements as Statements'
use Rattle.program_trees.specs.TypedPrograms.{TypedFunctionTree}

abbrev mutual
  pub weight : TypedTree → ℕ
  weight (word_node n) = 2
  weight (truth_node b) = 2
  weight zero_node = 2
  weight (slot_node k) = 2
  weight (call_node line k es) = weight_of_all es + 4
  weight (size_node e) = weight e + 4
  weight (cat_node line a b) = weight a + weight b + 4
  weight (sum_node e) = weight e + 4
  weight (bits_node line e) = weight e + 4
  weight (lookup_node line a i) = weight a + weight i + 4
  weight (element_node line a i) = weight a + weight i + 4
  weight (not_node e) = weight e + 4
  weight (cast_node c e) = weight e + 4
  weight (binary_node line op ds a b) = weight a + weight b + 4
  weight (cut_node c a b) = weight a + weight b + 4
  weight (declassify_node e) = weight e + 4

  pub weight_of_all : TypedTrees → ℕ
  weight_of_all Tree'.none = 2
  weight_of_all (Tree'.also e es) = weight e + weight_of_all es + 2

abbrev pub weight_of_option : Option TypedTree → ℕ
weight_of_option None = 0
weight_of_option (Some e) = weight e

abbrev mutual
  pub statement_weight : TypedStatementTree → ℕ
  statement_weight empty_statement = 2
  statement_weight (block_statement cs) = statements_weight cs + 2
  statement_weight (if_statement e a b) = weight e + statement_weight a + statement_weight b + 4
  statement_weight (loop_statement e step body) = weight e + statement_weight step + statement_weight body + 4
  statement_weight (do_statement body e) = statement_weight body + weight e + 4
  statement_weight break_statement = 2
  statement_weight continue_statement = 2
  statement_weight (return_statement e) = weight_of_option e + 4
  statement_weight (assert_statement line e) = weight e + 4
  statement_weight (store_statement k e) = weight e + 4
  statement_weight (default_statement k) = 4
  statement_weight (fill_statement line k n e) = weight n + weight e + 4
  statement_weight (input_statement line k text) = 4
  statement_weight (element_statement line k i e) = weight i + weight e + 4
  statement_weight (publish_statement text e) = weight e + 4
  statement_weight (evaluate_statement e) = weight e + 4

  pub statements_weight : TypedStatementTrees → ℕ
  statements_weight Statements'.none = 2
  statements_weight (Statements'.also c cs) = statement_weight c + statements_weight cs + 2

abbrev pub body_weight : TypedFunctionTree → ℕ
body_weight f = statements_weight f.body

-- a call falls by one in the room for calls, and begins a body
unfoldable pub work : List TypedFunctionTree → (depth weight : ℕ) → ℕ
work fs depth n = depth * (sum (map body_weight fs) + 2) + n
