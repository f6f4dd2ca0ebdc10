-- What the error of each layer is for the whole front end, and what a command says of it.
use Rattle.sc_text.specs.declared.code.PlacedFault.{PlacedFault}
use Rattle.sc_text.specs.declared.span.Span.{Span}
use Rattle.sc_text.specs.declared.fault.Fault.{Fault}
use Rattle.sc_text.specs.declared.fault.Fault.TheVariants as said
use Rattle.secrec_lexer.specs.declared.lex_err.LexErr.{LexErr}
use Rattle.secrec_lexer.specs.declared.lex_err.LexErr.TheVariants as lexing
use Rattle.secrec_lexer.specs.Faults.{placed_fault}
use Rattle.secrec_parser.specs.declared.parse_err.ParseErr.{ParseErr}
use Rattle.secrec_parser.specs.declared.parse_err.ParseErr.TheVariants as parsing
use Rattle.domain_types.specs.declared.fault.TypeFault as types
use Rattle.domain_types.specs.declared.type_err.TypeErr.{TypeErr}
use Rattle.domain_types.specs.declared.type_err.TypeErr.TheVariants as typing
use Rattle.front_end.specs.declared.program_fault.ProgramFault.{ProgramFault}
use Rattle.front_end.specs.declared.program_err.ProgramErr.{ProgramErr}
use Rattle.front_end.specs.declared.program_err.ProgramErr.TheVariants.{Memory, Refused}
use Rattle.front_end.specs.Judgement.{syntax_fault, rule_fault}

abbrev pub refused : PlacedFault → Span → ProgramErr
refused fault place = Refused (record { fault = fault; place = place })

-- of the lexer
abbrev pub lexer_error : LexErr → ProgramErr
lexer_error lexing.Memory = Memory
lexer_error (lexing.Refused fault place) = refused (placed_fault fault) place

-- of the parser
abbrev pub parser_error : ParseErr → ProgramErr
parser_error parsing.Memory = Memory
parser_error (parsing.Refused problem place) = refused (syntax_fault problem) place

-- of the checker of types
abbrev pub type_fault : types.TypeFault → ProgramFault
type_fault f = record { fault = rule_fault f.problem; place = f.place }

abbrev pub type_err : TypeErr → ProgramErr
type_err typing.Memory = Memory
type_err (typing.Refused fault) = Refused (type_fault fault)

-- the fault whose line a command says
abbrev pub fault_said : ProgramErr → Fault
fault_said Memory = said.Memory
fault_said (Refused f) = said.Placed f.fault f.place
