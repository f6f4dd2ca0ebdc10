-- The program at a path, as a command reads it. `judged` is the judgement of its text, and `found` also what it is run as.
use Rattle.std.specs.Prelude.{ℕ, List, Result, Ok, Err}
use Rattle.outside.specs.Files.{Contents}
use Rattle.sc_text.specs.declared.fault.Fault.TheVariants as faults
use Rattle.sc_text.specs.Fault.{fault_line}
use Rattle.program_trees.specs.Programs.{ProgramTree}
use Rattle.front_end.specs.declared.program_fault.ProgramFault.{ProgramFault}
use Rattle.front_end.specs.Judgement.{Judged}
use Rattle.command_frame.specs.declared.status.Status.TheVariants.{Program}
use Rattle.command_frame.specs.Answer.{Cause, ◌>>=◌, bytes_at}
use Rattle.program_trees.specs.TypedPrograms.{TypedProgramTree}
use Rattle.reached_instances.specs.declared.limit_err.LimitErr.{LimitErr}
use Rattle.reached_instances.specs.LimitRefusals.{fault_said}
use Rattle.program_commands.specs.Judging.{Finding, Sized}

-- the refusal of a text for its first fault
unfoldable pub bad_program : ProgramFault → Cause
bad_program f = record { status = Program; line = fault_line (faults.Placed f.fault f.place) }

abbrev pub accepted : Judged → Result ProgramTree Cause
accepted (Ok tree) = Ok tree
accepted (Err fault) = Err (bad_program fault)

-- the tree of the accepted program
unfoldable pub tree_at : Judged → Contents → List ℕ → Result ProgramTree Cause
tree_at judged files path = bytes_at files path >>= λ bytes. accepted judged

-- the refusal of an accepted program for what there is too much of in it
unfoldable pub too_large : LimitErr → Cause
too_large error = record { status = Program; line = fault_line (fault_said error) }

abbrev pub small_enough : Sized → Result TypedProgramTree Cause
small_enough (Ok program) = Ok program
small_enough (Err error) = Err (too_large error)

-- the typed tree of the accepted program, if it is small enough
unfoldable pub program_at : Finding → Contents → List ℕ → Result TypedProgramTree Cause
program_at found files path = tree_at found.judged files path >>= λ tree. small_enough found.sized
