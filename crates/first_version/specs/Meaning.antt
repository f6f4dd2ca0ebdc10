-- What code of the first version means. Its gates weren't those of today, so that of a report only its stop, its cost, its events, what it
-- opened and the words that it drew are the first version's.
use Rattle.std.specs.Prelude.{ℕ, zero, suc, ◌+◌, ◌*◌, nat_le, if◌then◌else◌, map, sum, length, List, [], Option, Some, None}
use Rattle.std.specs.List.{slice_get}
use Rattle.sc_text.specs.declared.end.Ending.TheVariants.{Tape}
use Rattle.sc_text.specs.declared.end.TapeOwner.TheVariants.{Dealer}
use Rattle.language_model.specs.Effects.{World, GivenInput, Clear, Stage, RunStop, Ended, Effect, ◌>>=◌, done}
use Rattle.language_model.specs.Evaluation.{either}
use Rattle.language_model.specs.Reports.{Report, Offered, world_of, beginning, reported, not_dealt}
use Rattle.verified_code.specs.Steps.{Step, Binary, Declassify, Publish, Function}
use Rattle.code_model.specs.Machine.{Machine, step, into, at, start, further}
use Rattle.code_model.specs.Meaning.{fuel, stopped_or}
use Rattle.first_version.specs.Rows as first

-- ---- STEPS

abbrev pub step_v1 : World → List Function → Option Step → Machine → Effect Machine
step_v1 w p (Some (Binary line op ds d a b)) m = first.operated w line op ds (m.registers a) (m.registers b) >>= into d m
step_v1 w p (Some (Declassify d r)) m = first.declassified w (m.registers r) >>= into d m
step_v1 w p (Some (Publish text r)) m = do
  _ ← first.published w text (m.registers r)
  done (at (m.pc + 1) m)
step_v1 w p i m = step w p i m

unfoldable pub exec_v1 : World → List Function → ℕ → Machine → Stage → Option (RunStop × Stage)
exec_v1 w p zero m s = None
exec_v1 w p (suc k) m s = further (step_v1 w p (slice_get m.steps m.pc) m s) (exec_v1 w p k)

-- ---- THE DEALER

-- two words for each element of a private input
abbrev pub words_dealt_v1 : GivenInput → ℕ
words_dealt_v1 x = either x.secret (2 * length x.words) 0

abbrev pub dealing_v1 : World → ℕ
dealing_v1 w = sum (map words_dealt_v1 w.inputs)

-- ---- RUNS

abbrev pub report_v1 : World → ℕ → RunStop × Stage → Report
report_v1 w budget x = record (reported w budget x.0 x.1) { dealt = dealing_v1 w }

-- the dealer's tape is too short: nothing has run
abbrev pub not_dealt_v1 : World → Report
not_dealt_v1 w = record (not_dealt w) { stop = Ended (Tape Dealer (dealing_v1 w) w.dealer) }

abbrev pub mean_v1_in : World → List Function → (budget : ℕ) → (answers : List ℕ) → Report
mean_v1_in w p budget answers =
    if nat_le (dealing_v1 w) w.dealer then
    report_v1 w budget (stopped_or (beginning budget answers) (exec_v1 w p (fuel p budget) (start p) (beginning budget answers)))
    else not_dealt_v1 w

-- in the clear
abbrev pub mean_v1 : List Function → Offered → (budget : ℕ) → Report
mean_v1 p o budget = mean_v1_in (world_of Clear o) p budget []
