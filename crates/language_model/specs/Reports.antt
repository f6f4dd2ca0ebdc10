-- What a run of a program gives: evaluation in the clear, and without the private inputs.
use Rattle.std.specs.Prelude.{ℕ, ◌-◌, ◌*◌, nat_le, if◌then◌else◌, List, [], length, map, sum, replicate, Ok, Err}
use Rattle.std.specs.List.{slice_get}
use Rattle.sc_text.specs.declared.end.Ending.TheVariants as ending
use Rattle.sc_text.specs.declared.end.TapeOwner.TheVariants.{Dealer}
use Rattle.sc_text.specs.declared.event.Event.{Event}
use Rattle.plans.specs.Gate.{Gate}
use Rattle.reached_instances.specs.TypedPrograms.{TypedProgramTree}
use Rattle.language_model.specs.Effects.{Words, words_each, GivenInput, Source, Clear, Answers, World, Stage, RunStop, Ended, Run}
use Rattle.language_model.specs.Values.{Value, gate_size}
use Rattle.language_model.specs.Evaluation.{either, body_of, call_at, deepest}

-- why the run stopped and what it had cost; the words that it needed of the dealer's tape and of the miners'; what it told, the
-- words that it opened, and its gates
pub record Report : Type 0 where
  pub stop : RunStop
  pub cost : ℕ
  pub dealt : ℕ
  pub drawn : Words
  pub events : List Event
  pub opened : List ℕ
  pub gates : List Gate

-- ---- THE DEALER

-- two words for each element of a private input
abbrev pub words_dealt : GivenInput → ℕ
words_dealt x = either x.secret (2 * gate_size x.shape.element (length x.words)) 0

abbrev pub dealing : World → ℕ
dealing w = sum (map words_dealt w.inputs)

-- ---- THE RUN

abbrev pub beginning : ℕ → List ℕ → Stage
beginning budget answers =
    record { left = budget; drawn = words_each 0; made = 0; gates = []; events = []; opened = []; answers = answers }

abbrev pub reported : World → ℕ → RunStop → Stage → Report
reported w budget stop s =
    record { stop = stop; cost = budget - s.left; dealt = dealing w; drawn = s.drawn; events = s.events; opened = s.opened; gates = s.gates }

abbrev pub report_of : World → ℕ → Run Value → Report
report_of w budget (Ok x) = reported w budget (Ended ending.Done) x.1
report_of w budget (Err e) = reported w budget e.0 e.1

-- the dealer's tape is too short: nothing has run
abbrev pub not_dealt : World → Report
not_dealt w =
    record { stop = Ended (ending.Tape Dealer (dealing w) w.dealer); cost = 0; dealt = 0; drawn = words_each 0; events = []; opened = []; gates = [] }

-- `main` is function number 0, with room for as many calls inside one another as are allowed beside it
abbrev pub evaluated : World → TypedProgramTree → (budget : ℕ) → (answers : List ℕ) → Report
evaluated w p budget answers =
    if nat_le (dealing w) w.dealer then
    report_of w budget (body_of w (call_at w p.functions (deepest - 1)) p.functions (slice_get p.functions 0) [] [] (beginning budget answers))
    else not_dealt w

-- ---- IN THE CLEAR, AND BLIND

-- what is given to a run beside its program: the tapes' lengths and the inputs
pub record Offered : Type 0 where
  pub dealer : ℕ
  pub lengths : Words
  pub inputs : List GivenInput

abbrev pub world_of : Source → Offered → World
world_of source o = record { dealer = o.dealer; lengths = o.lengths; source = source; inputs = o.inputs }

-- the run in the clear
abbrev pub eval : TypedProgramTree → Offered → (budget : ℕ) → Report
eval p o budget = evaluated (world_of Clear o) p budget []

-- an input as everybody may know it: zeros in the place of what is private
abbrev pub public_input : GivenInput → GivenInput
public_input x = record x { words = if x.secret then replicate (length x.words) 0 else x.words }

abbrev pub public_part : Offered → Offered
public_part o = record o { inputs = map public_input o.inputs }

-- the run of one who knows the public part and what is opened: the answers, one word after another
abbrev pub blind : TypedProgramTree → Offered → (answers : List ℕ) → (budget : ℕ) → Report
blind p o answers budget = evaluated (world_of Answers (public_part o)) p budget answers
