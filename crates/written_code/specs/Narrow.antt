-- How many registers a function needs: they hang on its largest statement, and not on how many statements there are.
use Rattle.std.specs.Prelude.{◌≡◌, ℕ, ◌+◌, ◌*◌, ◌≤◌, max, List, length, Some, None}
use Rattle.std.specs.List.{slice_get}
use Rattle.program_trees.specs.TypedTree.{TypedTree, TypedTrees, word_node, truth_node, zero_node, slot_node, call_node, size_node, cat_node, sum_node, bits_node}
use Rattle.program_trees.specs.TypedTree.{lookup_node, element_node, not_node, cast_node, binary_node, cut_node, declassify_node}
use Rattle.program_trees.specs.TypedTree as Tree'
use Rattle.program_trees.specs.TypedStatements.{TypedStatementTree, TypedStatementTrees, empty_statement, block_statement, if_statement, loop_statement, do_statement}
use Rattle.program_trees.specs.TypedStatements.{break_statement, continue_statement, return_statement, assert_statement, store_statement, default_statement}
use Rattle.program_trees.specs.TypedStatements.{fill_statement, input_statement, element_statement, publish_statement, evaluate_statement}
use Rattle.program_trees.specs.TypedStatements as Statements'
use Rattle.program_trees.specs.TypedPrograms.{TypedFunctionTree, TypedProgramTree}
use Rattle.reached_instances.specs.Instances.{Instance}
use Rattle.bytecode.specs.Raw.{RawFunction}
use Rattle.lowered_code.specs.RawCodes.{raw_code_of_program}

abbrev mutual
  pub nodes : TypedTree → ℕ
  nodes (word_node n) = 1
  nodes (truth_node b) = 1
  nodes zero_node = 1
  nodes (slot_node k) = 1
  nodes (call_node line k es) = 1 + nodes_of_all es
  nodes (size_node e) = 1 + nodes e
  nodes (cat_node line a b) = 1 + nodes a + nodes b
  nodes (sum_node e) = 1 + nodes e
  nodes (bits_node line e) = 1 + nodes e
  nodes (lookup_node line a i) = 1 + nodes a + nodes i
  nodes (element_node line a i) = 1 + nodes a + nodes i
  nodes (not_node e) = 1 + nodes e
  nodes (cast_node c e) = 1 + nodes e
  nodes (binary_node line op ds a b) = 1 + nodes a + nodes b
  nodes (cut_node c a b) = 1 + nodes a + nodes b
  nodes (declassify_node e) = 1 + nodes e

  pub nodes_of_all : TypedTrees → ℕ
  nodes_of_all Tree'.none = 0
  nodes_of_all (Tree'.also e es) = nodes e + nodes_of_all es

-- the most nodes that the expressions of one statement have together, with the place that it stores in. A statement in another counts for
-- itself.
abbrev mutual
  pub most_nodes : TypedStatementTree → ℕ
  most_nodes empty_statement = 0
  most_nodes (block_statement cs) = most_nodes_of_all cs
  most_nodes (if_statement e a b) = max (nodes e) (max (most_nodes a) (most_nodes b))
  most_nodes (loop_statement e step body) = max (nodes e) (max (most_nodes step) (most_nodes body))
  most_nodes (do_statement body e) = max (nodes e) (most_nodes body)
  most_nodes break_statement = 0
  most_nodes continue_statement = 0
  most_nodes (return_statement None) = 0
  most_nodes (return_statement (Some e)) = nodes e
  most_nodes (assert_statement line e) = nodes e
  most_nodes (store_statement k e) = 1 + nodes e
  most_nodes (default_statement k) = 1
  most_nodes (fill_statement line k n e) = 1 + nodes n + nodes e
  most_nodes (input_statement line k text) = 1
  most_nodes (element_statement line k i e) = 1 + nodes i + nodes e
  most_nodes (publish_statement text e) = nodes e
  most_nodes (evaluate_statement e) = nodes e

  pub most_nodes_of_all : TypedStatementTrees → ℕ
  most_nodes_of_all Statements'.none = 0
  most_nodes_of_all (Statements'.also c cs) = max (most_nodes c) (most_nodes_of_all cs)

-- its parameters and declared variables together, and 128 for each node of its largest statement
abbrev pub narrow : TypedFunctionTree → ℕ
narrow f = length f.slots + 128 * max 1 (most_nodes_of_all f.body)

-- the function of each instance in the raw code of a program
abbrev pub HasNarrowFunctions : TypedProgramTree → List Instance → Type 0
HasNarrowFunctions p is =
    (g : ℕ) (i : Instance) (f : TypedFunctionTree) (h : RawFunction) → slice_get is g ≡ Some i → slice_get p.functions i.function ≡ Some f
    → slice_get (raw_code_of_program p is).functions g ≡ Some h → length h.registers ≤ narrow f
