-- The program that a text is, as a command runs it: what is decided of it, and what a function that judges it answers.
use Rattle.std.specs.Prelude.{◌≡◌, ℕ, List, Result, Ok, Err}
use Rattle.program_trees.specs.TypedPrograms.{TypedProgramTree}
use Rattle.front_end.specs.Judgement.{Judged, IsJudged}
use Rattle.command_frame.specs.declared.stop.Stop.{Stop}
use Rattle.command_frame.specs.declared.stop.Stop.TheVariants as stops
use Rattle.command_frame.specs.Answer.{Cause, cause_of, ◌>>=◌}
use Rattle.program_commands.specs.Judging.{Finding, IsFinding}
use Rattle.program_commands.specs.Programs.{accepted, small_enough}

-- the typed tree of an accepted text, if it is small enough
unfoldable pub program_in : Finding → Result TypedProgramTree Cause
program_in found = accepted found.judged >>= λ tree. small_enough found.sized

-- what the text has for a judgement, and what is found of it
abbrev pub IsJudgedSo : List ℕ → Type 0
IsJudgedSo bytes = (judged : Judged) × IsJudged bytes judged

abbrev pub IsFoundOf : List ℕ → Finding → Type 0
IsFoundOf bytes found = IsFinding (IsJudged bytes) found

abbrev pub IsFoundSo : List ℕ → Type 0
IsFoundSo bytes = (found : Finding) × IsFoundOf bytes found

-- nothing is read: a refusal that is decided, or want of memory
abbrev pub StopsSo : {Y : Type 0} → Stop → Result Y Cause → Type 0
StopsSo stops.Memory decided = Unit {0}
StopsSo stops.Usage decided = ⊥
StopsSo (stops.Refused r) decided = decided ≡ Err (cause_of r)
StopsSo (stops.Breached b) decided = ⊥
StopsSo (stops.Failed object) decided = ⊥

-- what the function returned, seen by `view`, is what is decided
abbrev pub Decides : {X Y : Type 0} → (X → Y) → Result X Stop → Result Y Cause → Type 0
Decides view (Ok x) decided = decided ≡ Ok (view x)
Decides view (Err stop) decided = StopsSo stop decided

-- the same whatever is decided
abbrev pub IsOwnStop : Stop → Type 0
IsOwnStop stops.Memory = Unit {0}
IsOwnStop stops.Usage = ⊥
IsOwnStop (stops.Refused r) = Unit {0}
IsOwnStop (stops.Breached b) = ⊥
IsOwnStop (stops.Failed object) = ⊥

-- memory did not run out
abbrev pub NotForMemory : Stop → Type 0
NotForMemory stops.Memory = ⊥
NotForMemory stops.Usage = Unit {0}
NotForMemory (stops.Refused r) = Unit {0}
NotForMemory (stops.Breached b) = Unit {0}
NotForMemory (stops.Failed object) = Unit {0}

abbrev pub HasDecided : {X : Type 0} → Result X Stop → Type 0
HasDecided (Ok x) = Unit {0}
HasDecided (Err stop) = NotForMemory stop
