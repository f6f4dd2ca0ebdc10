-- What a command decides of the files that it reads: an effect, or why it is refused.
use Rattle.std.specs.Prelude.{ℕ, List, [], ◌∷◌, ◌++◌, map, Result, Ok, Err, string_bytes}
use Rattle.std.specs.Option.{ok_or}
use Rattle.outside.specs.Files.{Contents, file_at, with_file}
use Rattle.sc_text.specs.declared.fault.Fault.TheVariants as faults
use Rattle.sc_text.specs.Fault.{fault_line, file_line}
use Rattle.view_text.specs.Text.{view_bytes}
use Rattle.command_frame.specs.declared.status.Status.{Status}
use Rattle.command_frame.specs.declared.status.Status.TheVariants.{File, Usage}
use Rattle.command_frame.specs.declared.breach.Breach.{Breach}
use Rattle.command_frame.specs.declared.refusal.Refusal.{Refusal}
use Rattle.command_frame.specs.declared.plan.Content.{Content}
use Rattle.command_frame.specs.declared.plan.Content.TheVariants as contents
use Rattle.command_frame.specs.declared.plan.Plan.{Plan}
use Rattle.command_frame.specs.declared.plan.PlannedWrite.{PlannedWrite}

-- a refusal: its status, and the line that is written to the error stream
pub record Cause : Type 0 where
  pub status : Status
  pub line : List ℕ

-- a file that is written: its path and its bytes
pub record Written : Type 0 where
  pub path : List ℕ
  pub bytes : List ℕ

-- the files to write, in order, then the text and the status
pub record Effect : Type 0 where
  pub writes : List Written
  pub text : List ℕ
  pub status : Status

abbrev pub Answer : Type 0
Answer = Result Effect Cause

-- all that a command comes to: files that it writes before it has decided, in order, and then what it decides
pub record Course : Type 0 where
  pub first : List Written
  pub answer : Answer

-- a command that decides before it writes
abbrev pub at_once : Answer → Course
at_once answer = record { first = []; answer = answer }

-- a step and then another, where the first isn't refused
infixl 10 ◌>>=◌
abbrev pub ◌>>=◌ : {A B : Type 0} → Result A Cause → (A → Result B Cause) → Result B Cause
(Ok x) >>= f = f x
(Err e) >>= f = Err e

abbrev pub missing : List ℕ → Cause
missing path = record { status = File; line = file_line path }

abbrev pub usage : Cause
usage = record { status = Usage; line = fault_line faults.Usage }

-- the bytes of a file
unfoldable pub bytes_at : Contents → List ℕ → Result (List ℕ) Cause
bytes_at files path = ok_or (file_at files path) (missing path)

-- a refusal without where it lies in memory
abbrev pub cause_of : Refusal → Cause
cause_of r = record { status = r.status; line = string_bytes r.line }

-- the bytes that a file is to hold
abbrev pub content_bytes : Content → List ℕ
content_bytes (contents.Bytes bytes) = bytes.items
content_bytes (contents.View view) = view_bytes view

abbrev pub writes_of : List PlannedWrite → List Written
writes_of writes = map (λ w. record { path = string_bytes w.path; bytes = content_bytes w.content }) writes

-- the same of what another miner did
abbrev pub breach_of : Breach → Cause
breach_of b = record { status = b.status; line = string_bytes b.line }

-- a plan without where it lies in memory
abbrev pub effect_of : Plan → Effect
effect_of p = record { writes = writes_of p.writes.items; text = p.text.items; status = p.status }

abbrev pub paths_in : List Written → List (List ℕ)
paths_in writes = map (λ w. w.path) writes

-- the files after these writes, one after another
abbrev pub after_writes : List Written → Contents → Contents
after_writes [] files = files
after_writes (w ∷ ws) files = after_writes ws (with_file files w.path w.bytes)

-- ---- a whole course

-- an effect after files that were written before
abbrev pub behind : List Written → Effect → Effect
behind first effect = record { writes = first ++ effect.writes; text = effect.text; status = effect.status }

-- the answer, with all files that the course writes
abbrev pub whole_of : Course → Answer
whole_of course = course.answer >>= λ effect. Ok (behind course.first effect)

-- the files that an answer writes
abbrev pub decided_writes : Answer → List Written
decided_writes (Ok effect) = effect.writes
decided_writes (Err cause) = []

-- all files that a course writes, in order
abbrev pub writes_in : Course → List Written
writes_in course = course.first ++ decided_writes course.answer
