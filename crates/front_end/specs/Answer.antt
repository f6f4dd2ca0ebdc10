-- What is answered of a text.
use Rattle.std.specs.Prelude.{◌≡◌, ℕ, List, Result, Ok, Err}
use Rattle.program_trees.specs.declared.program.Program.{Program}
use Rattle.program_trees.specs.Programs.{program_tree}
use Rattle.front_end.specs.declared.program_err.ProgramErr.{ProgramErr}
use Rattle.front_end.specs.declared.program_err.ProgramErr.TheVariants.{Memory, Refused}
use Rattle.front_end.specs.Judgement.{Judged, IsJudged}

-- the judgement of the text, unless memory ran out
abbrev pub IsAnswer : List ℕ → Result Program ProgramErr → Type 0
IsAnswer bytes (Ok program) = IsJudged bytes (Ok (program_tree program))
IsAnswer bytes (Err (Refused fault)) = IsJudged bytes (Err fault)
IsAnswer bytes (Err Memory) = Unit {0}

-- this one, unless memory ran out
abbrev pub IsJust : Result Program ProgramErr → Judged → Type 0
IsJust (Ok program) judged = judged ≡ Ok (program_tree program)
IsJust (Err (Refused fault)) judged = judged ≡ Err fault
IsJust (Err Memory) judged = Unit {0}
