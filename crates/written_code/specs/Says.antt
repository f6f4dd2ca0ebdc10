-- What stands written in typed trees and in steps: words of literals, lines of constructs, names of inputs and results.
use Rattle.std.specs.Prelude.{◌≡◌, ℕ, Bool, IsTrue, List, Option, Some, None}
use Rattle.std.specs.List.{slice_get}
use Rattle.sc_text.specs.Lists.{Among}
use Rattle.program_trees.specs.TypedTree.{TypedTree, TypedTrees, word_node, truth_node, zero_node, slot_node, call_node, size_node, cat_node, sum_node, bits_node}
use Rattle.program_trees.specs.TypedTree.{lookup_node, element_node, not_node, cast_node, binary_node, cut_node, declassify_node}
use Rattle.program_trees.specs.TypedTree as Tree'
use Rattle.program_trees.specs.TypedStatements.{TypedStatementTree, TypedStatementTrees, empty_statement, block_statement, if_statement, loop_statement, do_statement}
use Rattle.program_trees.specs.TypedStatements.{break_statement, continue_statement, return_statement, assert_statement, store_statement, default_statement}
use Rattle.program_trees.specs.TypedStatements.{fill_statement, input_statement, element_statement, publish_statement, evaluate_statement}
use Rattle.program_trees.specs.TypedStatements as Statements'
use Rattle.program_trees.specs.TypedPrograms.{TypedFunctionTree, TypedProgramTree}
use Rattle.reached_instances.specs.Instances.{Instance}
use Rattle.verified_code.specs.Steps.{Step, Literal, Move, Store, Binary, Not, Cast, Classify, Fill, At, Put, Size, Cat, Sum, Bits, Lookup}
use Rattle.verified_code.specs.Steps.{Declassify, Argument, Publish, Assert, Branch, Jump, Call, Return, ReturnNone}

-- each of them passes
module _ (is_word is_line : ℕ → Bool) (is_text : List ℕ → Bool) where
  abbrev mutual
    pub TreeSays : TypedTree → Type 0
    TreeSays (word_node n) = IsTrue (is_word n)
    TreeSays (truth_node b) = Unit {0}
    TreeSays zero_node = Unit {0}
    TreeSays (slot_node k) = Unit {0}
    TreeSays (call_node line k es) = IsTrue (is_line line) × TreesSay es
    TreeSays (size_node e) = TreeSays e
    TreeSays (cat_node line a b) = IsTrue (is_line line) × TreeSays a × TreeSays b
    TreeSays (sum_node e) = TreeSays e
    TreeSays (bits_node line e) = IsTrue (is_line line) × TreeSays e
    TreeSays (lookup_node line a i) = IsTrue (is_line line) × TreeSays a × TreeSays i
    TreeSays (element_node line a i) = IsTrue (is_line line) × TreeSays a × TreeSays i
    TreeSays (not_node e) = TreeSays e
    TreeSays (cast_node c e) = TreeSays e
    TreeSays (binary_node line op ds a b) = IsTrue (is_line line) × TreeSays a × TreeSays b
    TreeSays (cut_node c a b) = TreeSays a × TreeSays b
    TreeSays (declassify_node e) = TreeSays e

    pub TreesSay : TypedTrees → Type 0
    TreesSay Tree'.none = Unit {0}
    TreesSay (Tree'.also e es) = TreeSays e × TreesSay es

  abbrev pub OptionSays : Option TypedTree → Type 0
  OptionSays None = Unit {0}
  OptionSays (Some e) = TreeSays e

  abbrev mutual
    pub StatementSays : TypedStatementTree → Type 0
    StatementSays empty_statement = Unit {0}
    StatementSays (block_statement cs) = StatementsSay cs
    StatementSays (if_statement e a b) = TreeSays e × StatementSays a × StatementSays b
    StatementSays (loop_statement e step body) = TreeSays e × StatementSays step × StatementSays body
    StatementSays (do_statement body e) = StatementSays body × TreeSays e
    StatementSays break_statement = Unit {0}
    StatementSays continue_statement = Unit {0}
    StatementSays (return_statement e) = OptionSays e
    StatementSays (assert_statement line e) = IsTrue (is_line line) × TreeSays e
    StatementSays (store_statement k e) = TreeSays e
    StatementSays (default_statement k) = Unit {0}
    StatementSays (fill_statement line k n e) = IsTrue (is_line line) × TreeSays n × TreeSays e
    StatementSays (input_statement line k text) = IsTrue (is_line line) × IsTrue (is_text text)
    StatementSays (element_statement line k i e) = IsTrue (is_line line) × TreeSays i × TreeSays e
    StatementSays (publish_statement text e) = IsTrue (is_text text) × TreeSays e
    StatementSays (evaluate_statement e) = TreeSays e

    pub StatementsSay : TypedStatementTrees → Type 0
    StatementsSay Statements'.none = Unit {0}
    StatementsSay (Statements'.also c cs) = StatementSays c × StatementsSay cs

  -- the trees of these instances
  abbrev pub InstancesSay : TypedProgramTree → List Instance → Type 0
  InstancesSay p is =
      (i : Instance) → Among i is → (f : TypedFunctionTree) → slice_get p.functions i.function ≡ Some f → StatementsSay f.body

  abbrev pub StepSays : Step → Type 0
  StepSays (Literal d e n) = IsTrue (is_word n)
  StepSays (Move d r) = Unit {0}
  StepSays (Store d r) = Unit {0}
  StepSays (Binary line op ds d a b) = IsTrue (is_line line)
  StepSays (Not d r) = Unit {0}
  StepSays (Cast c d r) = Unit {0}
  StepSays (Classify d r) = Unit {0}
  StepSays (Fill line d n x) = IsTrue (is_line line)
  StepSays (At line d a i) = IsTrue (is_line line)
  StepSays (Put line a i x) = IsTrue (is_line line)
  StepSays (Size d r) = Unit {0}
  StepSays (Cat line d a b) = IsTrue (is_line line)
  StepSays (Sum d r) = Unit {0}
  StepSays (Bits line d r) = IsTrue (is_line line)
  StepSays (Lookup line d a i) = IsTrue (is_line line)
  StepSays (Declassify d r) = Unit {0}
  StepSays (Argument line k text d) = IsTrue (is_line line) × IsTrue (is_text text)
  StepSays (Publish text r) = IsTrue (is_text text)
  StepSays (Assert line r) = IsTrue (is_line line)
  StepSays (Branch r b target) = Unit {0}
  StepSays (Jump target) = Unit {0}
  StepSays (Call line g d arguments) = IsTrue (is_line line)
  StepSays (Return r) = Unit {0}
  StepSays ReturnNone = Unit {0}
