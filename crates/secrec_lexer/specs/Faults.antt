-- What is said of a text that is refused.
use Rattle.sc_text.specs.declared.code.PlacedFault.{PlacedFault}
use Rattle.sc_text.specs.declared.code.PlacedFault.TheVariants as placed
use Rattle.secrec_lexer.specs.declared.lex_err.LexFault.{LexFault}
use Rattle.secrec_lexer.specs.declared.lex_err.LexFault.TheVariants as faults

-- the fault by the name that it is printed for
abbrev pub placed_fault : LexFault → PlacedFault
placed_fault faults.BadByte = placed.BadByte
placed_fault faults.BadNumber = placed.BadNumber
placed_fault faults.OpenText = placed.OpenText
placed_fault faults.OpenComment = placed.OpenComment
placed_fault faults.BadName = placed.BadName
placed_fault faults.TooLong = placed.TooLong
