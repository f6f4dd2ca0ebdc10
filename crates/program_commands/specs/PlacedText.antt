-- What is true of the tree that the tokens of a text spell.
use Rattle.std.specs.Prelude.{ℕ, List}
use Rattle.secrec_lexer.specs.declared.token.Token.{Token}
use Rattle.secrec_lexer.specs.Lexis.{HasTokens}
use Rattle.program_trees.specs.Programs.{ProgramTree}
use Rattle.secrec_parser.specs.Grammar.{IsProgram}
use Rattle.program_run.specs.WrittenSources.{IsPlacedProgram}

-- its lines have 32 bits, since no text is longer than 2^20 bytes, and its inputs and results have names
abbrev pub IsPlacedWhereSpelled : List ℕ → ProgramTree → Type 0
IsPlacedWhereSpelled bytes tree = (tokens : List Token) → HasTokens bytes tokens → IsProgram tree tokens → IsPlacedProgram tree
