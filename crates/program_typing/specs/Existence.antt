-- Which programs have a typed tree.
use Rattle.std.specs.Prelude.{◌≡◌, Some}
use Rattle.program_trees.specs.Programs.{ProgramTree}
use Rattle.program_trees.specs.TypedPrograms.{TypedProgramTree}
use Rattle.name_resolution.specs.Functions.{typed_of}

-- each name in it means something, and each operator is one for its operands
abbrev pub HasTree : ProgramTree → Type 0
HasTree p = (t : TypedProgramTree) × (typed_of p ≡ Some t)
