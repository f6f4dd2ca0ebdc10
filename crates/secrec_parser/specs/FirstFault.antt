-- Where a list of tokens that spells no program is at fault first, and why.
use Rattle.std.specs.Prelude.{◌≡◌, ℕ, ◌≤◌, List, [], ◌∷◌, ◌++◌}
use Rattle.sc_text.specs.declared.span.Span.{Span}
use Rattle.secrec_lexer.specs.declared.token.Token.{Token}
use Rattle.program_trees.specs.Programs.{ProgramTree}
use Rattle.program_trees.specs.Heights.{program_height}
use Rattle.expression_parser.specs.declared.problem.ParseProblem.{ParseProblem}
use Rattle.expression_parser.specs.declared.problem.ParseProblem.TheVariants.{Unexpected, TooHigh}
use Rattle.secrec_parser.specs.Grammar.{IsProgram}

abbrev pub height_limit : ℕ
height_limit = 128

-- a program of at most this height begins with these tokens
abbrev pub Begins : ℕ → List Token → Type 0
Begins limit ts = (p : ProgramTree) × (more : List Token) × IsProgram p (ts ++ more) × (program_height p ≤ limit)

-- a program of any height begins with them
abbrev pub BeginsAny : List Token → Type 0
BeginsAny ts = (p : ProgramTree) × (more : List Token) × IsProgram p (ts ++ more)

-- whether it is the height alone that is at fault
abbrev pub IsCause : ParseProblem → List Token → Type 0
IsCause Unexpected ts = ¬ BeginsAny ts
IsCause TooHigh ts = BeginsAny ts

-- The first token such that no program within the limit begins with the tokens up to it stands at this place.
pub record IsFirstFault (limit : ℕ) (ts : List Token) (problem : ParseProblem) (place : Span) : Type 0 where
  pub before : List Token
  pub fault : Token
  pub behind : List Token
  pub split : ts ≡ before ++ fault ∷ behind
  pub placed : fault.place ≡ place
  pub begins : Begins limit before
  pub here : ¬ Begins limit (before ++ fault ∷ [])
  pub cause : IsCause problem (before ++ fault ∷ [])
