-- Accepted programs that can be run are accepted as the crates of views take them.
use Rattle.program_trees.specs.TypedPrograms.{TypedProgramTree}
use Rattle.code_inputs.specs.Accepted.{IsAcceptedProgram}
use Rattle.program_run.specs.Accepted.{IsAccepted}

-- an accepted program has instances
pub has_instances : (p : TypedProgramTree) → IsAccepted p → IsAcceptedProgram p
has_instances p a = record {
  source = a.source;
  instances = a.within.list;
  accepted = record { typed = a.typed; written = a.written; resolved = a.of; reached = a.within.reached; within = a.within };
}
