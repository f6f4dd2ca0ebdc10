-- What a written program is by its grammar alone: its numbers are words, and `break` and `continue` stand inside of loops.
use Rattle.std.specs.Prelude.{◌≡◌, ◌<◌, ◌^◌, Bool, true, false, List, [], ◌∷◌, Option, Some, None}
use Rattle.program_trees.specs.Tree.{Tree, Trees, number, truth, variable, call, index, parentheses, negation, cast, binary, declassify, argument, publish}
use Rattle.program_trees.specs.Tree as Tree'
use Rattle.program_trees.specs.Statements.{DeclarationTree, AssignmentTree, StartTree, starts_with_nothing, starts_with_declaration}
use Rattle.program_trees.specs.Statements.{starts_with_assignment, StepTree, steps_by_nothing, steps_by_assignment, steps_by_expression, StatementTree}
use Rattle.program_trees.specs.Statements.{block, empty, branch, choice, while_loop, do_loop, for_loop, breaks, continues, returns, assertion}
use Rattle.program_trees.specs.Statements.{declaration, assignment, evaluation, StatementTrees}
use Rattle.program_trees.specs.Statements as Statements'
use Rattle.program_trees.specs.Programs.{FunctionTree, ProgramTree}
use Rattle.domain_types.specs.Declarations.{functions_of}

-- each number is a word
abbrev mutual
  pub HasWords : Tree → Type 0
  HasWords (number p n) = n < 2 ^ 64
  HasWords (truth p b) = Unit {0}
  HasWords (variable p x) = Unit {0}
  HasWords (call p x es) = HaveWords es
  HasWords (index p a i) = HasWords a × HasWords i
  HasWords (parentheses p e) = HasWords e
  HasWords (negation p e) = HasWords e
  HasWords (cast p t e) = HasWords e
  HasWords (binary p op a b) = HasWords a × HasWords b
  HasWords (declassify p e) = HasWords e
  HasWords (argument p x) = Unit {0}
  HasWords (publish p x e) = HasWords e

  pub HaveWords : Trees → Type 0
  HaveWords Tree'.none = Unit {0}
  HaveWords (Tree'.also e es) = HasWords e × HaveWords es

abbrev pub HasWordsIf : Option Tree → Type 0
HasWordsIf None = Unit {0}
HasWordsIf (Some e) = HasWords e

abbrev pub DeclaresWords : DeclarationTree → Type 0
DeclaresWords d = HasWordsIf d.size × HasWordsIf d.value

abbrev pub AssignsWords : AssignmentTree → Type 0
AssignsWords a = HasWordsIf a.target.index × HasWords a.value

abbrev pub StartsWithWords : StartTree → Type 0
StartsWithWords starts_with_nothing = Unit {0}
StartsWithWords (starts_with_declaration d) = DeclaresWords d
StartsWithWords (starts_with_assignment a) = AssignsWords a

abbrev pub StepsByWords : StepTree → Type 0
StepsByWords steps_by_nothing = Unit {0}
StepsByWords (steps_by_assignment a) = AssignsWords a
StepsByWords (steps_by_expression e) = HasWords e

-- a statement may stand inside of a loop, or outside
abbrev mutual
  pub MayStand : (inside : Bool) → StatementTree → Type 0
  MayStand inside (block p ss) = MayStandAll inside ss
  MayStand inside (empty p) = Unit {0}
  MayStand inside (branch p e body) = HasWords e × MayStand inside body
  MayStand inside (choice p e body otherwise) = HasWords e × MayStand inside body × MayStand inside otherwise
  MayStand inside (while_loop p e body) = HasWords e × MayStand true body
  MayStand inside (do_loop p body e) = MayStand true body × HasWords e
  MayStand inside (for_loop p start e step body) = StartsWithWords start × HasWordsIf e × StepsByWords step × MayStand true body
  MayStand inside (breaks p) = inside ≡ true
  MayStand inside (continues p) = inside ≡ true
  MayStand inside (returns p e) = HasWordsIf e
  MayStand inside (assertion p e) = HasWords e
  MayStand inside (declaration d) = DeclaresWords d
  MayStand inside (assignment a) = AssignsWords a
  MayStand inside (evaluation e) = HasWords e

  pub MayStandAll : (inside : Bool) → StatementTrees → Type 0
  MayStandAll inside Statements'.none = Unit {0}
  MayStandAll inside (Statements'.also t ts) = MayStand inside t × MayStandAll inside ts

abbrev pub AreWellWritten : List FunctionTree → Type 0
AreWellWritten [] = Unit {0}
AreWellWritten (f ∷ fs) = MayStandAll false f.body.statements × AreWellWritten fs

-- what the parser accepts is written so
abbrev pub IsWellWritten : ProgramTree → Type 0
IsWellWritten p = AreWellWritten (functions_of p.items)
