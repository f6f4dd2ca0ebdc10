-- Programs whose runs have views.
use Rattle.std.specs.Prelude.{List}
use Rattle.program_trees.specs.Programs.{ProgramTree}
use Rattle.program_trees.specs.TypedPrograms.{TypedProgramTree}
use Rattle.reached_instances.specs.Instances.{Instance}
use Rattle.code_inputs.specs.Laws.{IsAccepted}

-- the typed tree of an accepted program
pub record IsAcceptedProgram (p : TypedProgramTree) : Type 0 where
  pub source : ProgramTree
  pub instances : List Instance
  pub accepted : IsAccepted source p instances
