-- What is true of the tree that the tokens of a text spell.
use Rattle.std.specs.Prelude.{ℕ, List}
use Rattle.secrec_lexer.specs.declared.token.Token.{Token}
use Rattle.secrec_lexer.specs.Lexis.{HasTokens}
use Rattle.program_trees.specs.Programs.{ProgramTree}
use Rattle.secrec_parser.specs.Grammar.{IsProgram}
use Rattle.well_typed.specs.Sources.{IsWellWritten}

abbrev pub IsWellWrittenWhereSpelled : List ℕ → ProgramTree → Type 0
IsWellWrittenWhereSpelled bytes tree = (tokens : List Token) → HasTokens bytes tokens → IsProgram tree tokens → IsWellWritten tree
