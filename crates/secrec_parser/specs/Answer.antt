-- What the parser answers.
use Rattle.std.specs.Prelude.{◌≡◌, ℕ, List, [], ◌∷◌, Result, Ok, Err}
use Rattle.secrec_lexer.specs.declared.token.Token.{Token}
use Rattle.expression_parser.specs.declared.problem.ParseProblem.{ParseProblem}
use Rattle.program_trees.specs.declared.program.Program.{Program}
use Rattle.program_trees.specs.Programs.{ProgramTree, program_tree}
use Rattle.secrec_parser.specs.declared.parse_err.ParseErr.{ParseErr}
use Rattle.secrec_parser.specs.declared.parse_err.ParseErr.TheVariants.{Memory, Refused}
use Rattle.secrec_parser.specs.FirstFault.{IsFirstFault}

-- this program, unless memory ran out
abbrev pub IsTree : Result Program ParseErr → ProgramTree → Type 0
IsTree (Ok p) tree = program_tree p ≡ tree
IsTree (Err Memory) tree = Unit {0}
IsTree (Err (Refused problem place)) tree = ⊥

-- a refusal stands at the first fault, with its cause
abbrev pub RefusesAtFault : ℕ → List Token → Result Program ParseErr → Type 0
RefusesAtFault limit ts (Ok p) = Unit {0}
RefusesAtFault limit ts (Err Memory) = Unit {0}
RefusesAtFault limit ts (Err (Refused problem place)) = IsFirstFault limit ts problem place

-- the refusal at the first of these tokens
abbrev pub refusal_at : ParseProblem → List Token → ParseErr → Type 0
refusal_at problem [] refusal = ⊥
refusal_at problem (x ∷ more) refusal = refusal ≡ Refused problem x.place
