-- What a text is as a program: the tree of an accepted one, or its first fault.
use Rattle.std.specs.Prelude.{ℕ, ◌≤◌, List, Result, Ok, Err}
use Rattle.sc_text.specs.declared.code.PlacedFault.{PlacedFault}
use Rattle.sc_text.specs.declared.code.PlacedFault.TheVariants as placed
use Rattle.sc_text.specs.declared.span.Span.{Span}
use Rattle.secrec_lexer.specs.declared.token.Token.{Token}
use Rattle.secrec_lexer.specs.declared.lex_err.LexFault.{LexFault}
use Rattle.secrec_lexer.specs.Faults.{placed_fault}
use Rattle.secrec_lexer.specs.Lexis.{HasTokens}
use Rattle.secrec_lexer.specs.Lexis as lexis
use Rattle.program_trees.specs.Programs.{ProgramTree}
use Rattle.program_trees.specs.Heights.{program_height}
use Rattle.expression_parser.specs.declared.problem.ParseProblem as syntax
use Rattle.expression_parser.specs.declared.problem.ParseProblem.TheVariants.{Unexpected, TooHigh}
use Rattle.secrec_parser.specs.Grammar.{IsProgram}
use Rattle.secrec_parser.specs.FirstFault.{height_limit, IsFirstFault}
use Rattle.domain_types.specs.declared.fault.TypeProblem as rule
use Rattle.domain_types.specs.declared.fault.TypeProblem.TheVariants as rules
use Rattle.domain_types.specs.declared.fault.TypeFault.{TypeFault}
use Rattle.domain_types.specs.ProgramTypes as types
use Rattle.front_end.specs.declared.program_fault.ProgramFault.{ProgramFault}

-- the faults of the grammar and of the type rules, by the names that they are printed for
abbrev pub syntax_fault : syntax.ParseProblem → PlacedFault
syntax_fault Unexpected = placed.Unexpected
syntax_fault TooHigh = placed.TooDeep

abbrev pub rule_fault : rule.TypeProblem → PlacedFault
rule_fault rules.UnknownName = placed.UnknownName
rule_fault rules.Twice = placed.Twice
rule_fault rules.TypeMismatch = placed.TypeMismatch
rule_fault rules.PrivateCondition = placed.PrivateCondition
rule_fault rules.PrivateIndex = placed.PrivateIndex
rule_fault rules.PrivateSize = placed.PrivateSize
rule_fault rules.PrivateToPublic = placed.PrivateToPublic
rule_fault rules.PrivateDivision = placed.PrivateDivision
rule_fault rules.PrivateAssert = placed.PrivateAssert
rule_fault rules.DomainMix = placed.DomainMix
rule_fault rules.NoMain = placed.NoMain
rule_fault rules.BadImport = placed.BadImport
rule_fault rules.BadArity = placed.BadArity
rule_fault rules.MissingReturn = placed.MissingReturn
rule_fault rules.ArgumentPlace = placed.ArgumentPlace

-- the tokens of a text spell a tree that is low enough
pub record Spells (bytes : List ℕ) (tree : ProgramTree) : Type 0 where
  pub tokens : List Token
  pub lexed : HasTokens bytes tokens
  pub spelled : IsProgram tree tokens
  pub low : program_height tree ≤ height_limit

-- a text is the program of this tree: spelled so, and accepted by the type rules
pub record IsProgramText (bytes : List ℕ) (tree : ProgramTree) : Type 0 where
  pub spells : Spells bytes tree
  pub typed : types.IsAccepted tree

-- a text is refused for its first fault: of its tokens, else of the grammar, else of the type rules
pub data IsRefusedText (bytes : List ℕ) : ProgramFault → Type 0 where
  of_tokens : (fault : LexFault) (place : Span) → lexis.IsRefused bytes fault place → IsRefusedText bytes (record { fault = placed_fault fault; place = place })
  of_grammar : (tokens : List Token) (problem : syntax.ParseProblem) (place : Span) → HasTokens bytes tokens → IsFirstFault height_limit tokens problem place
      → IsRefusedText bytes (record { fault = syntax_fault problem; place = place })
  of_types : (tree : ProgramTree) (fault : TypeFault) → Spells bytes tree → types.IsRefused tree fault
      → IsRefusedText bytes (record { fault = rule_fault fault.problem; place = fault.place })

abbrev pub Judged : Type 0
Judged = Result ProgramTree ProgramFault

abbrev pub IsJudged : List ℕ → Judged → Type 0
IsJudged bytes (Ok tree) = IsProgramText bytes tree
IsJudged bytes (Err fault) = IsRefusedText bytes fault
