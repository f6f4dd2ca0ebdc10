-- Code in a file, as commands read it: bytes that are no code, and code that must not run.
use Rattle.std.specs.Prelude.{◌≡◌, List, Option, Some, None, Result, Ok, Err}
use Rattle.command_frame.specs.declared.status.Status.TheVariants.{Program}
use Rattle.command_frame.specs.declared.stop.Stop.{Stop}
use Rattle.command_frame.specs.declared.stop.Stop.TheVariants as stops
use Rattle.command_frame.specs.Answer.{Cause, cause_of, ◌>>=◌}
use Rattle.command_frame.specs.Faults.{node_fault_line}
use Rattle.command_frame.specs.declared.fault.NodeFault.TheVariants.{Bytes, Step}
use Rattle.command_frame.specs.declared.kinds.ByteFault.{ByteFault}
use Rattle.command_frame.specs.declared.kinds.ByteFault.TheVariants as byte_faults
use Rattle.command_frame.specs.declared.kinds.StepFault.{StepFault}
use Rattle.command_frame.specs.declared.kinds.StepFault.TheVariants as step_faults
use Rattle.bytecode.specs.Raw.{RawCode}
use Rattle.bytecode.specs.declared.fault.DecodeFault.{DecodeFault}
use Rattle.bytecode.specs.declared.fault.FaultKind.{FaultKind}
use Rattle.bytecode.specs.declared.fault.FaultKind.TheVariants as kinds
use Rattle.verified_code.specs.Verified.{first_fault}
use Rattle.verified_code.specs.declared.fault.VerifyErr.{VerifyErr}
use Rattle.verified_code.specs.declared.fault.CodeProblem.{CodeProblem}
use Rattle.verified_code.specs.declared.fault.CodeProblem.TheVariants as problems
use Rattle.program_commands.specs.Reading.{read_or}

abbrev pub byte_fault : FaultKind → ByteFault
byte_fault kinds.Truncated = byte_faults.Truncated
byte_fault kinds.BadTag = byte_faults.BadTag
byte_fault kinds.BadVersion = byte_faults.BadVersion
byte_fault kinds.Trailing = byte_faults.Trailing

abbrev pub step_fault : CodeProblem → StepFault
step_fault problems.BadRegister = step_faults.BadRegister
step_fault problems.BadKind = step_faults.BadKind
step_fault problems.BadJump = step_faults.BadJump

-- bytes that are no code, by the first fault
unfoldable pub bad_bytes : DecodeFault → Cause
bad_bytes e = record { status = Program; line = node_fault_line (Bytes (byte_fault e.kind) e.place) }

-- code that must not run, by the first faulty instruction
unfoldable pub bad_step : VerifyErr → Cause
bad_step e = record { status = Program; line = node_fault_line (Step (step_fault e.problem) e.function e.instruction) }

abbrev pub unless_faulty : Option VerifyErr → RawCode → Result RawCode Cause
unless_faulty None code = Ok code
unless_faulty (Some e) code = Err (bad_step e)

-- the code that bytes are read as, if it may run
abbrev pub judged : Result RawCode DecodeFault → Result RawCode Cause
judged read = read_or bad_bytes read >>= λ code. unless_faulty (first_fault code) code

-- the answer is what is decided, seen by `view`; memory may run out, and nothing else is reached
abbrev pub Judges : {X Y : Type 0} → (X → Y) → Result X Stop → Result Y Cause → Type 0
Judges view (Ok x) decided = decided ≡ Ok (view x)
Judges view (Err stops.Memory) decided = Unit {0}
Judges view (Err stops.Usage) decided = ⊥
Judges view (Err (stops.Refused r)) decided = decided ≡ Err (cause_of r)
Judges view (Err (stops.Breached b)) decided = ⊥
Judges view (Err (stops.Failed object)) decided = ⊥
