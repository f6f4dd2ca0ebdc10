-- The typed tree of an accepted program that is small enough to be run.
use Rattle.std.specs.Prelude.{◌≡◌, Some}
use Rattle.program_trees.specs.Programs.{ProgramTree}
use Rattle.domain_types.specs.ProgramTypes as types
use Rattle.code_inputs.specs.Sources.{IsWellWritten}
use Rattle.written_code.specs.WrittenSources.{IsPlacedProgram}
use Rattle.program_trees.specs.TypedPrograms.{TypedProgramTree}
use Rattle.name_resolution.specs.Functions.{typed_of}
use Rattle.reached_instances.specs.Limits.{IsWithinLimits}

pub record IsAccepted (p : TypedProgramTree) : Type 0 where
  pub source : ProgramTree
  pub typed : types.IsAccepted source
  pub written : IsWellWritten source
  pub placed : IsPlacedProgram source
  pub of : typed_of source ≡ Some p
  pub within : IsWithinLimits p
