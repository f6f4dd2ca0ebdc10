-- What the answers of three children mean.
use Rattle.std.specs.Prelude.{ℤ, pos, negsuc, Bool, true, false, ◌==◌, ◌||◌, if◌then◌else◌, Result, Ok, Err}
use Rattle.outside.specs.declared.error.SpawnErr.{SpawnErr}
use Rattle.outside.specs.declared.error.SpawnErr.TheVariants as spawn_err
use Rattle.proto_core.specs.declared.party.Number.{Number}
use Rattle.proto_core.specs.declared.party.Number.TheVariants.{One, Two, Three}
use Rattle.trio.specs.declared.child_err.ChildErr.{ChildErr}
use Rattle.trio.specs.declared.child_err.ChildErr.TheVariants as child_err

abbrev pub fault_in : SpawnErr → ChildErr
fault_in spawn_err.Failed = child_err.Fault
fault_in spawn_err.Memory = child_err.Memory

-- the statuses of the ends of a run: done, trap, budget, tape
abbrev pub is_end_status : ℤ → Bool
is_end_status (pos n) = (n == 0) || ((n == 1) || ((n == 7) || (n == 8)))
is_end_status (negsuc n) = false

abbrev pub child_answer : Number → Result ℤ SpawnErr → Result (Unit {0}) ChildErr
child_answer i (Ok status) = if is_end_status status then Ok tt else Err (child_err.Status i status)
child_answer i (Err err) = Err (fault_in err)

abbrev pub unless_wrong : Result (Unit {0}) ChildErr → Result (Unit {0}) ChildErr → Result (Unit {0}) ChildErr
unless_wrong (Ok done) later = later
unless_wrong (Err err) later = Err err

abbrev pub lacked_memory : Result ℤ SpawnErr → Bool
lacked_memory (Err spawn_err.Memory) = true
lacked_memory (Err spawn_err.Failed) = false
lacked_memory (Ok status) = false

-- want of memory for any of them; else the first that is wrong, by the miners' numbers
abbrev pub all_answers : (Number → Result ℤ SpawnErr) → Result (Unit {0}) ChildErr
all_answers answer =
    if lacked_memory (answer One) || (lacked_memory (answer Two) || lacked_memory (answer Three)) then Err child_err.Memory
    else unless_wrong (child_answer One (answer One)) (unless_wrong (child_answer Two (answer Two)) (child_answer Three (answer Three)))
