-- Written programs whose places have lines of 32 bits, and whose inputs and results have names.
use Rattle.std.specs.Prelude.{ℕ, ◌^◌, Bool, IsTrue, nat_lt, List, [], ◌∷◌, Option, Some, None}
use Rattle.sc_text.specs.declared.span.Span.{Span}
use Rattle.sc_text.specs.Name.{IsName}
use Rattle.program_trees.specs.Tree.{Tree, Trees, number, truth, variable, call, index, parentheses, negation, cast, binary, declassify, argument, publish}
use Rattle.program_trees.specs.Tree as Tree'
use Rattle.program_trees.specs.Statements.{DeclarationTree, AssignmentTree, StartTree, starts_with_nothing, starts_with_declaration, starts_with_assignment}
use Rattle.program_trees.specs.Statements.{StepTree, steps_by_nothing, steps_by_assignment, steps_by_expression, StatementTree, block, empty, branch, choice}
use Rattle.program_trees.specs.Statements.{while_loop, do_loop, for_loop, breaks, continues, returns, assertion, declaration, assignment, evaluation}
use Rattle.program_trees.specs.Statements.{StatementTrees}
use Rattle.program_trees.specs.Statements as Statements'
use Rattle.program_trees.specs.Programs.{FunctionTree, ProgramTree}
use Rattle.domain_types.specs.Declarations.{functions_of}

abbrev pub is_line : ℕ → Bool
is_line n = nat_lt n (2 ^ 32)

abbrev pub IsLine : ℕ → Type 0
IsLine n = IsTrue (is_line n)

-- a place on such a line
abbrev pub IsPlace : Span → Type 0
IsPlace p = IsLine p.line

-- the place of each node is such a one, and the name of each input and result is a name
abbrev mutual
  pub IsPlaced : Tree → Type 0
  IsPlaced (number p n) = IsPlace p
  IsPlaced (truth p b) = IsPlace p
  IsPlaced (variable p x) = IsPlace p
  IsPlaced (call p x es) = IsPlace p × ArePlaced es
  IsPlaced (index p a i) = IsPlace p × IsPlaced a × IsPlaced i
  IsPlaced (parentheses p e) = IsPlace p × IsPlaced e
  IsPlaced (negation p e) = IsPlace p × IsPlaced e
  IsPlaced (cast p t e) = IsPlace p × IsPlaced e
  IsPlaced (binary p op a b) = IsPlace p × IsPlaced a × IsPlaced b
  IsPlaced (declassify p e) = IsPlace p × IsPlaced e
  IsPlaced (argument p x) = IsPlace p × IsName x
  IsPlaced (publish p x e) = IsPlace p × IsName x × IsPlaced e

  pub ArePlaced : Trees → Type 0
  ArePlaced Tree'.none = Unit {0}
  ArePlaced (Tree'.also e es) = IsPlaced e × ArePlaced es

abbrev pub IsPlacedIf : Option Tree → Type 0
IsPlacedIf None = Unit {0}
IsPlacedIf (Some e) = IsPlaced e

abbrev pub DeclaresPlaced : DeclarationTree → Type 0
DeclaresPlaced d = IsPlace d.declared.place × IsPlacedIf d.size × IsPlacedIf d.value

abbrev pub AssignsPlaced : AssignmentTree → Type 0
AssignsPlaced a = IsPlace a.target.variable.place × IsPlacedIf a.target.index × IsPlaced a.value

abbrev pub StartsPlaced : StartTree → Type 0
StartsPlaced starts_with_nothing = Unit {0}
StartsPlaced (starts_with_declaration d) = DeclaresPlaced d
StartsPlaced (starts_with_assignment a) = AssignsPlaced a

abbrev pub StepsPlaced : StepTree → Type 0
StepsPlaced steps_by_nothing = Unit {0}
StepsPlaced (steps_by_assignment a) = AssignsPlaced a
StepsPlaced (steps_by_expression e) = IsPlaced e

abbrev mutual
  pub StandsPlaced : StatementTree → Type 0
  StandsPlaced (block p ss) = StandPlaced ss
  StandsPlaced (empty p) = Unit {0}
  StandsPlaced (branch p e body) = IsPlaced e × StandsPlaced body
  StandsPlaced (choice p e body otherwise) = IsPlaced e × StandsPlaced body × StandsPlaced otherwise
  StandsPlaced (while_loop p e body) = IsPlaced e × StandsPlaced body
  StandsPlaced (do_loop p body e) = StandsPlaced body × IsPlaced e
  StandsPlaced (for_loop p start e step body) = StartsPlaced start × IsPlacedIf e × StepsPlaced step × StandsPlaced body
  StandsPlaced (breaks p) = Unit {0}
  StandsPlaced (continues p) = Unit {0}
  StandsPlaced (returns p e) = IsPlacedIf e
  StandsPlaced (assertion p e) = IsPlace p × IsPlaced e
  StandsPlaced (declaration d) = DeclaresPlaced d
  StandsPlaced (assignment a) = AssignsPlaced a
  StandsPlaced (evaluation e) = IsPlaced e

  pub StandPlaced : StatementTrees → Type 0
  StandPlaced Statements'.none = Unit {0}
  StandPlaced (Statements'.also t ts) = StandsPlaced t × StandPlaced ts

abbrev pub AreAllPlaced : List FunctionTree → Type 0
AreAllPlaced [] = Unit {0}
AreAllPlaced (f ∷ fs) = StandPlaced f.body.statements × AreAllPlaced fs

-- what a text spells is placed so, since no text is longer than 2^20 bytes
abbrev pub IsPlacedProgram : ProgramTree → Type 0
IsPlacedProgram p = AreAllPlaced (functions_of p.items)
