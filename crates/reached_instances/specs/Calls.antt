-- The instances that a piece of a function calls, in the order in which it is read.
use Rattle.std.specs.Prelude.{ℕ, List, [], ◌∷◌, ◌++◌, Option, Some, None}
use Rattle.std.specs.List.{slice_get}
use Rattle.program_trees.specs.TypedTree.{TypedTree, TypedTrees, call_node, size_node, cat_node, sum_node, bits_node, lookup_node}
use Rattle.program_trees.specs.TypedTree.{element_node, not_node, cast_node, binary_node, cut_node, declassify_node}
use Rattle.program_trees.specs.TypedTree as Tree'
use Rattle.program_trees.specs.TypedStatements.{TypedStatementTree, TypedStatementTrees, block_statement, if_statement, loop_statement, do_statement}
use Rattle.program_trees.specs.TypedStatements.{return_statement, assert_statement, store_statement}
use Rattle.program_trees.specs.TypedStatements.{fill_statement, element_statement, publish_statement, evaluate_statement}
use Rattle.program_trees.specs.TypedStatements as Statements'
use Rattle.program_trees.specs.TypedPrograms.{TypedFunctionTree, TypedProgramTree}
use Rattle.reached_instances.specs.declared.instance.BoundDomain.{BoundDomain}
use Rattle.reached_instances.specs.Domains.{binding_of, Setting, domains}
use Rattle.reached_instances.specs.Instances.{Instance}

-- the instance of the function number k that a call with arguments of these domains names, if that function is there
abbrev pub called : ℕ → Option TypedFunctionTree → List BoundDomain → List Instance
called k None ds = []
called k (Some f) ds = record { function = k; binding = binding_of f ds } ∷ []

-- arguments are read before the call
abbrev mutual
  pub calls : Setting → TypedTree → List Instance
  calls w (call_node line k es) = calls_of_all w es ++ called k (slice_get w.functions k) (domains w es)
  calls w (size_node e) = calls w e
  calls w (cat_node line a b) = calls w a ++ calls w b
  calls w (sum_node e) = calls w e
  calls w (bits_node line e) = calls w e
  calls w (lookup_node line a i) = calls w a ++ calls w i
  calls w (element_node line a i) = calls w a ++ calls w i
  calls w (not_node e) = calls w e
  calls w (cast_node c e) = calls w e
  calls w (binary_node line op ds a b) = calls w a ++ calls w b
  calls w (cut_node c a b) = calls w a ++ calls w b
  calls w (declassify_node e) = calls w e
  calls w _ = []

  pub calls_of_all : Setting → TypedTrees → List Instance
  calls_of_all w Tree'.none = []
  calls_of_all w (Tree'.also e es) = calls w e ++ calls_of_all w es

abbrev pub optional_calls : Setting → Option TypedTree → List Instance
optional_calls w None = []
optional_calls w (Some e) = calls w e

-- of a loop the body is read first, then the step, then the condition, as they stand in its code
abbrev mutual
  pub typed_statement_calls : Setting → TypedStatementTree → List Instance
  typed_statement_calls w (block_statement cs) = typed_statements_calls w cs
  typed_statement_calls w (if_statement e a b) = calls w e ++ (typed_statement_calls w a ++ typed_statement_calls w b)
  typed_statement_calls w (loop_statement e step body) = typed_statement_calls w body ++ (typed_statement_calls w step ++ calls w e)
  typed_statement_calls w (do_statement body e) = typed_statement_calls w body ++ calls w e
  typed_statement_calls w (return_statement e) = optional_calls w e
  typed_statement_calls w (assert_statement line e) = calls w e
  typed_statement_calls w (store_statement k e) = calls w e
  typed_statement_calls w (fill_statement line k n e) = calls w n ++ calls w e
  typed_statement_calls w (element_statement line k i e) = calls w i ++ calls w e
  typed_statement_calls w (publish_statement x e) = calls w e
  typed_statement_calls w (evaluate_statement e) = calls w e
  typed_statement_calls w _ = []

  pub typed_statements_calls : Setting → TypedStatementTrees → List Instance
  typed_statements_calls w Statements'.none = []
  typed_statements_calls w (Statements'.also c cs) = typed_statement_calls w c ++ typed_statements_calls w cs

abbrev pub function_calls : List TypedFunctionTree → List BoundDomain → Option TypedFunctionTree → List Instance
function_calls fs b None = []
function_calls fs b (Some f) = typed_statements_calls (record { functions = fs; slots = f.slots; binding = b }) f.body

-- what an instance calls
abbrev pub called_by : TypedProgramTree → Instance → List Instance
called_by p i = function_calls p.functions i.binding (slice_get p.functions i.function)

-- `main` is number 0, and is called without arguments
abbrev pub main_of : TypedProgramTree → List Instance
main_of p = called 0 (slice_get p.functions 0) []
