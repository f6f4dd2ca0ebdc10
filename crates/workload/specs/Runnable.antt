-- A text that is a program which can be run.
use Rattle.std.specs.Prelude.{◌≡◌, ℕ, List, Some}
use Rattle.program_trees.specs.Programs.{ProgramTree}
use Rattle.program_trees.specs.TypedPrograms.{TypedProgramTree}
use Rattle.front_end.specs.Judgement.{IsProgramText}
use Rattle.name_resolution.specs.Functions.{typed_of}
use Rattle.reached_instances.specs.Limits.{IsWithinLimits}

-- it is accepted and within the limits, and is run as this typed tree
pub record IsRunnable (bytes : List ℕ) (program : TypedProgramTree) : Type 0 where
  pub tree : ProgramTree
  pub accepted : IsProgramText bytes tree
  pub typed : typed_of tree ≡ Some program
  pub within : IsWithinLimits program
