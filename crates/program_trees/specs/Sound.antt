-- Which typed trees name only what is there: the slots of their function, and the functions of the program, with as many arguments
-- as each has parameters.
use Rattle.std.specs.Prelude.{ℕ, ◌≡◌, ◌+◌, ◌<◌, ◌≤◌, List, [], ◌∷◌, length, map, Option, Some, None}
use Rattle.std.specs.List.{slice_get}
use Rattle.program_trees.specs.TypedTree.{TypedTree, TypedTrees, word_node, truth_node, zero_node, slot_node, call_node, size_node, cat_node, sum_node, bits_node}
use Rattle.program_trees.specs.TypedTree.{lookup_node, element_node, not_node, cast_node, binary_node, cut_node, declassify_node}
use Rattle.program_trees.specs.TypedTree as Tree'
use Rattle.program_trees.specs.TypedStatements.{TypedStatementTree, TypedStatementTrees, empty_statement, block_statement, if_statement, loop_statement, do_statement}
use Rattle.program_trees.specs.TypedStatements.{break_statement, continue_statement, return_statement, assert_statement, store_statement, default_statement}
use Rattle.program_trees.specs.TypedStatements.{fill_statement, input_statement, element_statement, publish_statement, evaluate_statement}
use Rattle.program_trees.specs.TypedStatements as Statements'
use Rattle.program_trees.specs.TypedPrograms.{TypedFunctionTree, TypedProgramTree}

abbrev pub count_of : TypedTrees → ℕ
count_of Tree'.none = 0
count_of (Tree'.also e es) = count_of es + 1

-- in a function with n slots, where the functions have these numbers of parameters
abbrev mutual
  pub IsSoundTree : ℕ → List ℕ → TypedTree → Type 0
  IsSoundTree n ps (word_node w) = Unit {0}
  IsSoundTree n ps (truth_node b) = Unit {0}
  IsSoundTree n ps zero_node = Unit {0}
  IsSoundTree n ps (slot_node k) = k < n
  IsSoundTree n ps (call_node line k es) = (slice_get ps k ≡ Some (count_of es)) × AreSoundTrees n ps es
  IsSoundTree n ps (size_node e) = IsSoundTree n ps e
  IsSoundTree n ps (cat_node line a b) = IsSoundTree n ps a × IsSoundTree n ps b
  IsSoundTree n ps (sum_node e) = IsSoundTree n ps e
  IsSoundTree n ps (bits_node line e) = IsSoundTree n ps e
  IsSoundTree n ps (lookup_node line a i) = IsSoundTree n ps a × IsSoundTree n ps i
  IsSoundTree n ps (element_node line a i) = IsSoundTree n ps a × IsSoundTree n ps i
  IsSoundTree n ps (not_node e) = IsSoundTree n ps e
  IsSoundTree n ps (cast_node c e) = IsSoundTree n ps e
  IsSoundTree n ps (binary_node line op ds a b) = IsSoundTree n ps a × IsSoundTree n ps b
  IsSoundTree n ps (cut_node c a b) = IsSoundTree n ps a × IsSoundTree n ps b
  IsSoundTree n ps (declassify_node e) = IsSoundTree n ps e

  pub AreSoundTrees : ℕ → List ℕ → TypedTrees → Type 0
  AreSoundTrees n ps Tree'.none = Unit {0}
  AreSoundTrees n ps (Tree'.also e es) = IsSoundTree n ps e × AreSoundTrees n ps es

abbrev pub IsSoundOption : ℕ → List ℕ → Option TypedTree → Type 0
IsSoundOption n ps None = Unit {0}
IsSoundOption n ps (Some e) = IsSoundTree n ps e

abbrev mutual
  pub IsSoundStatementTree : ℕ → List ℕ → TypedStatementTree → Type 0
  IsSoundStatementTree n ps empty_statement = Unit {0}
  IsSoundStatementTree n ps (block_statement cs) = AreSoundStatementTrees n ps cs
  IsSoundStatementTree n ps (if_statement e a b) = IsSoundTree n ps e × IsSoundStatementTree n ps a × IsSoundStatementTree n ps b
  IsSoundStatementTree n ps (loop_statement e step body) = IsSoundTree n ps e × IsSoundStatementTree n ps step × IsSoundStatementTree n ps body
  IsSoundStatementTree n ps (do_statement body e) = IsSoundStatementTree n ps body × IsSoundTree n ps e
  IsSoundStatementTree n ps break_statement = Unit {0}
  IsSoundStatementTree n ps continue_statement = Unit {0}
  IsSoundStatementTree n ps (return_statement e) = IsSoundOption n ps e
  IsSoundStatementTree n ps (assert_statement line e) = IsSoundTree n ps e
  IsSoundStatementTree n ps (store_statement k e) = (k < n) × IsSoundTree n ps e
  IsSoundStatementTree n ps (default_statement k) = k < n
  IsSoundStatementTree n ps (fill_statement line k m e) = (k < n) × IsSoundTree n ps m × IsSoundTree n ps e
  IsSoundStatementTree n ps (input_statement line k x) = k < n
  IsSoundStatementTree n ps (element_statement line k i e) = (k < n) × IsSoundTree n ps i × IsSoundTree n ps e
  IsSoundStatementTree n ps (publish_statement x e) = IsSoundTree n ps e
  IsSoundStatementTree n ps (evaluate_statement e) = IsSoundTree n ps e

  pub AreSoundStatementTrees : ℕ → List ℕ → TypedStatementTrees → Type 0
  AreSoundStatementTrees n ps Statements'.none = Unit {0}
  AreSoundStatementTrees n ps (Statements'.also c cs) = IsSoundStatementTree n ps c × AreSoundStatementTrees n ps cs

abbrev pub parameters_of : TypedFunctionTree → ℕ
parameters_of f = f.parameters

-- a function among functions with these numbers of parameters
pub record IsSoundFunction (ps : List ℕ) (f : TypedFunctionTree) : Type 0 where
  pub parameters : f.parameters ≤ length f.slots
  pub body : AreSoundStatementTrees (length f.slots) ps f.body

abbrev pub AreSoundFunctions : List ℕ → List TypedFunctionTree → Type 0
AreSoundFunctions ps [] = Unit {0}
AreSoundFunctions ps (f ∷ fs) = IsSoundFunction ps f × AreSoundFunctions ps fs

abbrev pub IsSound : TypedProgramTree → Type 0
IsSound p = AreSoundFunctions (map parameters_of p.functions) p.functions
