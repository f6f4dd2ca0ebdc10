-- What a miner has that runs code, and what is left for it to do.
use Rattle.std.specs.Prelude.{◌≡◌, ℕ, ◌+◌, ◌*◌, List, [], ◌++◌, map, drop, Option, Some, None}
use Rattle.sc_text.specs.declared.end.Ending.{Ending}
use Rattle.proto_core.specs.declared.party.Number.{Number}
use Rattle.proto_core.specs.Strand.{Notice, Mail, Strand, Ends, run, then_do, told_in}
use Rattle.proto_core.specs.Net.{added}
use Rattle.gates.specs.Clear.{Values}
use Rattle.code_machine.specs.Standing.{Stands}
use Rattle.code_machine.specs.Views.{machine_seen}
use Rattle.value_steps.specs.Views.{stage_seen}
use Rattle.value_steps.specs.declared.stage.Stage as reached
use Rattle.driven_nodes.specs.Driven.{telling}
use Rattle.driven_nodes.specs.Steps.{Stopped, Short, stand_of, last_of}
use Rattle.own_code.specs.Places.{Place, place, step_told}
use Rattle.block_steps.specs.Outcomes.{Outcome, outcome_of, mail_left, Holds}
use Rattle.gate_node.specs.OwnGates.{GatesEnd, Whole, Stuck}
use Rattle.gate_node.specs.Nodes as node
use Rattle.gate_node.specs.declared.engine.Engine as gates
use Rattle.gate_node.specs.declared.standing.Standing as at_gates
use Rattle.gate_node.specs.declared.standing.Standing.TheVariants as stand
use Rattle.miner_core.specs.TurnViews.{place_in, went_to}
use Rattle.miner_core.specs.declared.outcome.Turned.{Turned}
use Rattle.miner_core.specs.declared.outcome.Turned.TheVariants as turned
use Rattle.miner_core.specs.declared.speech.Speech.{Speech}
use Rattle.miner_core.specs.declared.telling.Told.{Told}
use Rattle.miner_core.specs.declared.answer.End.{End}
use Rattle.miner_core.specs.declared.answer.End.TheVariants as end
use Rattle.miner_core.specs.declared.engine.At.{At}
use Rattle.miner_core.specs.declared.engine.At.TheVariants as at
use Rattle.miner_core.specs.declared.engine.Engine.{Engine}
use Rattle.own_code.specs.EarlierGates.{end_without_gates}
use Rattle.own_code.specs.LettingGo.{forget}
use Rattle.own_code.specs.OwnCode.{Ended, Reached, Unfit, From, go_on, tell_and_go_on, own_code}
use Rattle.miner_core.specs.Views.{task_world, task_code, notice_seen, told_since}

-- ---- what is let go

-- an end, whatever the values are, and the gates of its place
abbrev pub forgotten : Ended → Ended
forgotten e = end_without_gates (forget e)

abbrev pub forgetting : Strand Ended → Strand Ended
forgetting s = then_do s (λ e. Ends (forgotten e))

abbrev pub shown : Outcome Ended → Outcome Ended
shown o = record o { left = forgetting o.left }

-- ---- what is left

-- with further words of its tape after those that were supplied
abbrev pub with_words : {P : Type 0} → Engine P → (more : List ℕ) → Engine P
with_words e more = record e { node = node.filled e.node more }

-- the same of outcomes that go by the further words
abbrev pub all_shown : (List ℕ → Outcome Ended) → List ℕ → Outcome Ended
all_shown o more = shown (o more)

abbrev pub all_forgetting : (List ℕ → Strand Ended) → List ℕ → Strand Ended
all_forgetting s more = forgetting (s more)

module _ {P : Type 0} (i : Number) where
  abbrev pub place_at : Engine P → Place
  place_at e = place_in e.task.code e.machine e.stage

  abbrev pub code_from : Engine P → From Place
  code_from e = own_code (task_world e.task) (task_code e.task) i e.node.dealt e.fuel

  -- what it does after its gates, by what it is at
  abbrev pub goes_on_at : Engine P → At → (values : Values) → (tape : List ℕ) → Strand Ended
  goes_on_at e at.Ready values tape = code_from e (place_at e) values tape
  goes_on_at e at.Again values tape =
      tell_and_go_on (code_from e) (place_at e) (step_told (task_world e.task) (task_code e.task) (place_at e) (last_of values)) values tape
  goes_on_at e (at.Acts t speech before) values tape =
      telling (told_since speech before e.stage (last_of values))
      (go_on (code_from e) (stand_of (went_to e.task.code t e.machine e.stage)) values tape)
  goes_on_at e (at.Over ending) values tape =
      Ends (Reached (Stopped (place (Some ending) (machine_seen e.task.code e.machine) (stage_seen e.stage))) values)
  goes_on_at e at.Short values tape = Ends (Reached (Short (place_at e)) values)

  abbrev pub behind_node : Engine P → At → GatesEnd → Strand Ended
  behind_node e a (Whole values tape) = goes_on_at e a values tape
  behind_node e a Stuck = Ends Unfit

  -- all that is left to do
  abbrev pub engine_left : Engine P → Strand Ended
  engine_left e = then_do (node.engine_left i e.node) (behind_node e e.at)

  -- what it has done, and what it does with the messages that it has; and so what it tells
  abbrev pub engine_outcome : Engine P → Outcome Ended
  engine_outcome e = outcome_of i e.node.links (engine_left e)

  abbrev pub engine_told : Engine P → List Notice
  engine_told e = map notice_seen e.notices.items ++ told_in (run (engine_left e) (mail_left i e.node.links)).acts

  -- the same by the words that come after those that were supplied
  abbrev pub left_with : Engine P → (more : List ℕ) → Strand Ended
  left_with e more = engine_left (with_words e more)

  abbrev pub outcome_with : Engine P → (more : List ℕ) → Outcome Ended
  outcome_with e more = engine_outcome (with_words e more)

  abbrev pub told_with : Engine P → (more : List ℕ) → List Notice
  told_with e more = engine_told (with_words e more)

  -- whatever comes, its gates tell nothing
  abbrev pub IsQuiet : gates.Engine P → Type 0
  IsQuiet n = (more : Mail) → told_in (run (node.engine_left i n) (added (mail_left i n.links) more)).acts ≡ []

  -- ---- what holds of it

  pub record IsSound (e : Engine P) : Type 0 where
    pub stands : Stands e.task.code e.machine
    pub quiet : IsQuiet e.node

  -- all gates that were made are through
  abbrev pub IsThrough : gates.Engine P → Type 0
  IsThrough n = node.engine_left i n ≡ Ends (Whole n.values n.tape.1)

  -- the same whatever words come after
  abbrev pub IsQuietAlways : gates.Engine P → Type 0
  IsQuietAlways n = (more : List ℕ) → IsQuiet (node.filled n more)

  abbrev pub IsThroughAlways : gates.Engine P → Type 0
  IsThroughAlways n = (more : List ℕ) → IsThrough (node.filled n more)

  pub record IsSoundAlways (e : Engine P) : Type 0 where
    pub stands : Stands e.task.code e.machine
    pub quiet : IsQuietAlways e.node

  -- no step is to be taken
  abbrev pub IsOver : Engine P → At → Type 0
  IsOver e at.Ready = e.fuel ≡ 0
  IsOver e at.Again = ⊥
  IsOver e (at.Acts t speech before) = ⊥
  IsOver e (at.Over ending) = Unit {0}
  IsOver e at.Short = Unit {0}

  -- so it stands when it can do no more, with its whole tape: a gate that wants more words can't begin
  pub record Rests (s : at_gates.Standing) (e : Engine P) : Type 0 where
    pub node : node.EngineStands i (node.settled s) e.node
    pub over : s ≡ stand.Through → IsOver e e.at

  -- where it stands whatever words come after; it may want some
  pub record StandsAlways (s : at_gates.Standing) (e : Engine P) : Type 0 where
    pub node : node.StandsAlways i s e.node
    pub over : s ≡ stand.Through → IsOver e e.at

-- what came stays, and so does what it was made with
pub record Keeps {P : Type 0} (before after : Engine P) : Type 0 where
  pub links : Holds before.node.links after.node.links
  pub task : after.task ≡ before.task
  pub dealt : after.node.dealt ≡ before.node.dealt
  pub tape : after.node.tape.0 ≡ before.node.tape.0

-- no message is taken or sent, and nothing told
pub record KeepsLinks {P : Type 0} (before after : Engine P) : Type 0 where
  pub links : after.node.links ≡ before.node.links
  pub notices : after.notices ≡ before.notices
  pub task : after.task ≡ before.task
  pub dealt : after.node.dealt ≡ before.node.dealt
  pub tape : after.node.tape ≡ before.node.tape

-- the gates of a step run that has led so far
abbrev pub acting : {P : Type 0} → Engine P → Turned → Speech → Told → Engine P
acting e t speech before = record e { at = at.Acts t speech before }

-- the gates of a step run after which another step comes
abbrev pub LeadsOn : At → Type 0
LeadsOn (at.Acts turned.On speech before) = Unit {0}
LeadsOn a = ⊥

-- it wants no words
abbrev pub GoesOn : Turned → Type 0
GoesOn turned.On = Unit {0}
GoesOn (turned.Over ending) = Unit {0}
GoesOn turned.Short = ⊥

-- a step has led on, and has made no gate and no event since so many were there
pub record IsDone (t : Turned) (s : reached.Stage) (gates : ℕ) (before : Told) : Type 0 where
  pub on : t ≡ turned.On
  pub made : drop gates s.gates.items ≡ []
  pub told : drop before.events s.events.items ≡ []

-- what it is at where a step has led so far, with its gates through
abbrev pub led_to : Turned → At
led_to turned.On = at.Ready
led_to (turned.Over ending) = at.Over ending
led_to turned.Short = at.Short

-- how the run has ended, if it has, with its gates through
abbrev pub ended_by : At → Option Ending
ended_by at.Ready = None
ended_by at.Again = None
ended_by (at.Acts t speech before) = None
ended_by (at.Over ending) = Some ending
ended_by at.Short = None

-- how the run has ended, if it has, where it stands so
abbrev pub ending_at : at_gates.Standing → At → Option Ending
ending_at stand.Through a = ended_by a
ending_at (stand.Waits link cause) a = None
ending_at stand.Unfit a = None
ending_at (stand.Wants count) a = None

-- a number of a run that has ended; 0 while it has not
abbrev pub if_ended : Option Ending → ℕ → ℕ
if_ended None n = 0
if_ended (Some ending) n = n

-- how the run ends that has come so far, with its gates through
abbrev pub end_by : At → End
end_by at.Ready = end.Endless
end_by at.Again = end.Endless
end_by (at.Acts t speech before) = end.Endless
end_by (at.Over ending) = end.Over ending
end_by at.Short = end.Short

-- how many steps of its own it can still take
abbrev pub rank : At → ℕ
rank at.Ready = 0
rank at.Again = 2
rank (at.Acts t speech before) = 1
rank (at.Over ending) = 0
rank at.Short = 0

abbrev pub measure : {P : Type 0} → Engine P → ℕ
measure e = 3 * e.fuel + rank e.at
