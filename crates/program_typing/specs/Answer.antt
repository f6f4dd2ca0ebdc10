-- What `type_program` answers.
use Rattle.std.specs.Prelude.{◌≡◌, Some, Result, Ok, Err}
use Rattle.program_trees.specs.Programs.{ProgramTree}
use Rattle.domain_types.specs.declared.type_err.TypeErr.{TypeErr}
use Rattle.domain_types.specs.declared.type_err.TypeErr.TheVariants.{Refused, Memory}
use Rattle.domain_types.specs.ProgramTypes.{IsRefused}
use Rattle.domain_types.specs.Typing.{IsTypedProgram}
use Rattle.program_trees.specs.declared.typed_function.TypedProgram.{TypedProgram}
use Rattle.program_trees.specs.TypedPrograms.{typed_program_tree}
use Rattle.name_resolution.specs.Functions.{typed_of}
use Rattle.program_trees.specs.Sound.{IsSound}

-- the typed tree of a program that is typed, which names only what is there; else the first fault
abbrev pub IsTypedAnswer : Result TypedProgram TypeErr → ProgramTree → Type 0
IsTypedAnswer (Ok t) p = IsTypedProgram p × (typed_of p ≡ Some (typed_program_tree t)) × IsSound (typed_program_tree t)
IsTypedAnswer (Err (Refused f)) p = IsRefused p f
IsTypedAnswer (Err Memory) p = Unit {0}
