-- What a stop means for the caller: its status and its line.
use Rattle.std.specs.Prelude.{ℕ, ◌≡◌, List, string_bytes}
use Rattle.sc_text.specs.declared.fault.Fault.TheVariants as faults
use Rattle.sc_text.specs.Fault.{fault_line, file_line}
use Rattle.command_frame.specs.declared.status.Status.{Status}
use Rattle.command_frame.specs.declared.status.Status.TheVariants as statuses
use Rattle.command_frame.specs.declared.stop.Stop.{Stop}
use Rattle.command_frame.specs.declared.stop.Stop.TheVariants as stops
use Rattle.command_frame.specs.Answer.{Cause, breach_of, cause_of, usage}
use Rattle.command_frame.specs.Objects.{OfFile, line_of_object, status_of_object}

abbrev pub status_of : Stop → Status
status_of stops.Memory = statuses.Memory
status_of stops.Usage = statuses.Usage
status_of (stops.Refused r) = r.status
status_of (stops.Breached b) = b.status
status_of (stops.Failed object) = status_of_object object

abbrev pub memory_line : List ℕ
memory_line = fault_line faults.Memory

abbrev pub line_of : Stop → List ℕ
line_of stops.Memory = memory_line
line_of stops.Usage = usage.line
line_of (stops.Refused r) = string_bytes r.line
line_of (stops.Breached b) = string_bytes b.line
line_of (stops.Failed object) = line_of_object object

-- that this file could not be read or written, or want of memory
abbrev pub IsFileStop : List ℕ → Stop → Type 0
IsFileStop path stops.Memory = Unit {0}
IsFileStop path stops.Usage = ⊥
IsFileStop path (stops.Refused r) = ⊥
IsFileStop path (stops.Breached b) = ⊥
IsFileStop path (stops.Failed object) = OfFile (λ line. line ≡ file_line path) object

-- a refusal for this cause, or want of memory
abbrev pub IsRefusalFor : Cause → Stop → Type 0
IsRefusalFor cause stops.Memory = Unit {0}
IsRefusalFor cause stops.Usage = ⊥
IsRefusalFor cause (stops.Refused r) = cause_of r ≡ cause
IsRefusalFor cause (stops.Breached b) = ⊥
IsRefusalFor cause (stops.Failed object) = ⊥

-- a breach for this cause, or want of memory
abbrev pub IsBreachFor : Cause → Stop → Type 0
IsBreachFor cause stops.Memory = Unit {0}
IsBreachFor cause stops.Usage = ⊥
IsBreachFor cause (stops.Refused r) = ⊥
IsBreachFor cause (stops.Breached b) = breach_of b ≡ cause
IsBreachFor cause (stops.Failed object) = ⊥
