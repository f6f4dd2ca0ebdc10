-- What reading an expression from the front of the tokens answers, in the words of the grammar.
use Rattle.std.specs.Prelude.{◌≡◌, ℕ, ◌≤◌, false, List, [], ◌∷◌, ◌++◌, ◌⊎◌, Result, Ok, Err}
use Rattle.secrec_lexer.specs.declared.token.Token.{Token}
use Rattle.program_trees.specs.Tree.{Tree}
use Rattle.program_trees.specs.Heights.{height}
use Rattle.expression_parser.specs.declared.problem.ParseProblem.{ParseProblem}
use Rattle.expression_parser.specs.declared.problem.ParseProblem.TheVariants.{Unexpected, TooHigh}
use Rattle.expression_parser.specs.declared.stopped.Stopped.{Stopped}
use Rattle.expression_parser.specs.declared.stopped.Stopped.TheVariants.{Memory, At}
use Rattle.expression_parser.specs.Grammar.{IsExpression, loosest}
use Rattle.expression_parser.specs.Follow.{goes_on}

-- the next token is one that no expression goes on with
abbrev pub Ends : List Token → Type 0
Ends [] = ⊥
Ends (x ∷ m) = goes_on loosest x.kind ≡ false

-- The front of the tokens spells this tree, and it is low enough. No other is spelled there with such a token after it.
pub record IsRead (max_height : ℕ) (ts : List Token) (e : Tree) (rest : List Token) : Type 0 where
  pub front : List Token
  pub split : ts ≡ front ++ rest
  pub spelled : IsExpression loosest e front
  pub low : height e ≤ max_height
  pub only : (other : Tree) (s m : List Token) → IsExpression loosest other s → Ends m → s ++ m ≡ ts → other ≡ e

-- an expression that is low enough begins with these tokens
abbrev pub BeginsLow : ℕ → List Token → Type 0
BeginsLow max_height ts = (e : Tree) × (more : List Token) × IsExpression loosest e (ts ++ more) × (height e ≤ max_height)

-- where trees are too high only low ones are ruled out, and else all
abbrev pub RulesOut : ParseProblem → ℕ → Tree → Type 0
RulesOut Unexpected max_height e = Unit {0}
RulesOut TooHigh max_height e = height e ≤ max_height

-- trees are too high where a tree of another height begins with these tokens
abbrev pub IsCause : ParseProblem → List Token → Type 0
IsCause Unexpected ts = Unit {0}
IsCause TooHigh ts = (e : Tree) × (more : List Token) × IsExpression loosest e (ts ++ more)

-- The rest begins with the first token such that no expression begins with the tokens up to it, nor stands before it.
pub record IsStopped (max_height : ℕ) (ts : List Token) (problem : ParseProblem) (rest : List Token) : Type 0 where
  pub front : List Token
  pub next : Token
  pub behind : List Token
  pub split : ts ≡ front ++ rest
  pub from : rest ≡ next ∷ behind
  pub before : (front ≡ []) ⊎ BeginsLow max_height front
  pub here :
      (e : Tree) (s m more : List Token) → IsExpression loosest e s → RulesOut problem max_height e → Ends m → s ++ m ≡ front ++ next ∷ more → ⊥
  pub cause : IsCause problem (front ++ next ∷ [])

abbrev pub Answers : {X : Type 0} → (X → Tree × List Token) → ℕ → List Token → Result X Stopped → Type 0
Answers view max_height ts (Ok x) = IsRead max_height ts (view x).0 (view x).1
Answers view max_height ts (Err Memory) = Unit {0}
Answers view max_height ts (Err (At problem rest)) = IsStopped max_height ts problem rest.now
