-- One miner, by what it was made with and what it received: all that it has done is a function of these.
use Rattle.std.specs.Prelude.{◌≡◌, ℕ, ◌-◌, Bool, true, false, if◌then◌else◌, List, [], ◌∷◌, ◌++◌, map, Option, Some, None, Result, Ok, Err}
use Rattle.std.specs.List.{flat_map}
use Rattle.sc_text.specs.declared.end.Ending.{Ending}
use Rattle.proto_core.specs.declared.party.Number.{Number}
use Rattle.proto_core.specs.declared.link.Link.{Link}
use Rattle.proto_core.specs.Parties.{to_next, to_previous, from_previous}
use Rattle.proto_core.specs.Strand.{Notice, Shown, Published, Handed, same_link, Mail, Strand, Ends, Acts, Waits, Ran, run, on_link, opened_in, told_in}
use Rattle.proto_core.specs.Net.{mail_of}
use Rattle.proto_core.specs.Standing.{Standing, AtItsEnd, Awaits, Refuses, standing_with, standing_of}
use Rattle.gates.specs.Clear.{Values}
use Rattle.shared_gates.specs.Model.{miner_of}
use Rattle.language_model.specs.Effects.{World}
use Rattle.verified_code.specs.Steps.{Function}
use Rattle.code_machine.specs.Meaning.{fuel}
use Rattle.driven_nodes.specs.Steps.{Running, Stopped, Short}
use Rattle.own_code.specs.Places.{Place, first_place}
use Rattle.own_code.specs.Dealt.{drawn_by}
use Rattle.block_steps.specs.Outcomes.{Outcome, outcome, mail_left}
use Rattle.miner_core.specs.declared.answer.End.{End}
use Rattle.miner_core.specs.declared.answer.End.TheVariants as end
use Rattle.miner_core.specs.declared.answer.Step.{Step}
use Rattle.miner_core.specs.declared.answer.Step.TheVariants as step
use Rattle.miner_core.specs.declared.answer.MinerErr.{MinerErr}
use Rattle.miner_core.specs.declared.answer.MinerErr.TheVariants as error
use Rattle.miner_core.specs.declared.engine.Engine.{Engine}
use Rattle.miner_core.specs.declared.task.Task.{Task}
use Rattle.own_code.specs.OwnCode.{Ended, Reached, Unfit, own_code}
use Rattle.miner_core.specs.Views.{task_world, task_code, notice_seen}
use Rattle.miner_core.specs.Engines.{engine_left, engine_outcome, engine_told, shown, IsSound}

pub record Story : Type 0 where
  pub world : World
  pub code : List Function
  pub dealt : Values
  pub tape : List ℕ
  pub budget : ℕ
  pub from_previous : List (List ℕ)
  pub from_next : List (List ℕ)
  -- memory ran out: no more is said
  pub lost : Bool

-- a message more, of the previous miner or else of the next
abbrev pub received : Number → Story → Link → List ℕ → Story
received i s l m =
    if same_link (from_previous i) l
    then record s { from_previous = s.from_previous ++ m ∷ [] }
    else record s { from_next = s.from_next ++ m ∷ [] }

abbrev pub mail_in : Number → Story → Mail
mail_in i s = mail_of i s.from_previous s.from_next

abbrev pub strand_in : Number → Story → Strand Ended
strand_in i s = own_code s.world s.code i s.dealt (fuel s.code s.budget) (first_place s.code s.budget) [] s.tape

-- all that it has done, and where it stands
abbrev pub node : Number → Story → Ran Ended
node i s = run (strand_in i s) (mail_in i s)

abbrev pub sent_to_next : Number → Story → List (List ℕ)
sent_to_next i s = on_link (to_next i) (node i s).acts

abbrev pub sent_to_previous : Number → Story → List (List ℕ)
sent_to_previous i s = on_link (to_previous i) (node i s).acts

abbrev pub has_opened : Number → Story → List ℕ
has_opened i s = opened_in (node i s).acts

abbrev pub has_told : Number → Story → List Notice
has_told i s = told_in (node i s).acts

-- the words that were opened, by what it tells of a value: those of a truth value are 0 and 1
abbrev pub shown_by : Notice → List ℕ
shown_by (Shown form words) = words
shown_by (Published name form words) = []
shown_by (Handed name form count words) = []

abbrev pub has_shown : Number → Story → List ℕ
has_shown i s = flat_map shown_by (has_told i s)

abbrev pub stands_at : Number → Story → Standing
stands_at i s = standing_of (node i s)

-- ---- where it has ended

-- what is read off the place at which the run has ended; else, also while it waits, this
abbrev pub at_stop_or : {A : Type 0} → A → (Place → A) → Strand Ended → A
at_stop_or other f (Ends (Reached (Stopped p) values)) = f p
at_stop_or other f (Ends (Reached (Running p) values)) = other
at_stop_or other f (Ends (Reached (Short p) values)) = other
at_stop_or other f (Ends Unfit) = other
at_stop_or other f (Acts a s) = other
at_stop_or other f (Waits l shape k) = other

-- how the run has ended, if it has; what it has cost, and how many words of the miner's tape it has drawn: 0 while it has not ended
abbrev pub ending_in : Number → Story → Option Ending
ending_in i s = at_stop_or None (λ p. p.ended) (node i s).left

abbrev pub cost_in : Number → Story → ℕ
cost_in i s = at_stop_or 0 (λ p. s.budget - p.stage.left) (node i s).left

abbrev pub drawn_in : Number → Story → ℕ
drawn_in i s = at_stop_or 0 (λ p. drawn_by p.stage.drawn (miner_of i)) (node i s).left

-- what holds of the place at which it has ended, where that is one of the run
abbrev pub AtStop : Number → Story → (Place → Type 0) → Type 0
AtStop i s Q = (p : Place) (values : Values) → (node i s).left ≡ Ends (Reached (Stopped p) values) → Q p

-- ---- answers

abbrev pub IsEnd : Ended → End → Type 0
IsEnd (Reached (Stopped p) values) (end.Over ending) = p.ended ≡ Some ending
IsEnd (Reached (Short p) values) end.Short = Unit {0}
IsEnd (Reached (Running p) values) end.Endless = Unit {0}
IsEnd Unfit end.Unfit = Unit {0}
IsEnd e end = ⊥

abbrev pub HasEnded : Strand Ended → End → Type 0
HasEnded (Ends e) end = IsEnd e end
HasEnded (Acts a s) end = ⊥
HasEnded (Waits l shape k) end = ⊥

-- where a strand stands with messages that it hasn't taken
abbrev pub IsAnswerOf : Strand Ended → Mail → Result Step MinerErr → Type 0
IsAnswerOf s unread (Ok (step.Waits l)) = standing_with s unread ≡ Awaits l
IsAnswerOf s unread (Ok (step.Ended end)) = HasEnded s end
IsAnswerOf s unread (Err (error.BadMessage l cause)) = standing_with s unread ≡ Refuses l cause
IsAnswerOf s unread (Err (error.NotAwaited l)) = ⊥
IsAnswerOf s unread (Err (error.Lost why)) = ⊥

abbrev pub IsAnswer : Number → Story → Result Step MinerErr → Type 0
IsAnswer i s answer = IsAnswerOf (node i s).left (node i s).unread answer

-- what a delivery does: the answer says where the miner stands with the message; where it had ended, it is as before
abbrev pub DeliverAnswers : Number → (before after : Story) → Link → List ℕ → Result Step MinerErr → Type 0
DeliverAnswers i before after l m (Err (error.Lost why)) = after.lost ≡ true
DeliverAnswers i before after l m (Err (error.NotAwaited at)) = (at ≡ l) × (stands_at i before ≡ AtItsEnd) × (after ≡ before)
DeliverAnswers i before after l m answer = (before.lost ≡ false) × (after ≡ received i before l m) × IsAnswer i after answer

-- ---- an engine and its story

-- what an engine was made with and received
abbrev pub story_of : {P : Type 0} → Engine P → (budget : ℕ) → Story
story_of e budget =
    record {
      world = task_world e.task;
      code = task_code e.task;
      dealt = e.node.dealt;
      tape = e.node.tape.0;
      budget = budget;
      from_previous = e.node.links.from_previous.0;
      from_next = e.node.links.from_next.0;
      lost = false;
    }

-- no message came
abbrev pub start_of : Task → (dealt : Values) → (tape : List ℕ) → (budget : ℕ) → Story
start_of task dealt tape budget =
    record {
      world = task_world task;
      code = task_code task;
      dealt = dealt;
      tape = tape;
      budget = budget;
      from_previous = [];
      from_next = [];
      lost = false;
    }

module _ {P : Type 0} (i : Number) where
  abbrev pub standing : Engine P → Outcome Ended
  standing e =
      let l = e.node.links in
      record { to_next = l.to_next; to_previous = l.to_previous; opened = l.opened.items; left = engine_left i e; unread = mail_left i l }

  -- it is where its story leads, whatever values it has let go, and which gates
  pub record Follows (e : Engine P) (s : Story) : Type 0 where
    pub sound : IsSound i e
    pub same : shown (standing e) ≡ shown (outcome i [] [] [] (node i s))
    pub told : map notice_seen e.notices.items ≡ has_told i s

  -- it comes there with the messages that it has
  pub record Leads (e : Engine P) (s : Story) : Type 0 where
    pub sound : IsSound i e
    pub same : shown (engine_outcome i e) ≡ shown (outcome i [] [] [] (node i s))
    pub told : engine_told i e ≡ has_told i s
