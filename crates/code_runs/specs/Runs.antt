-- Three miners that run code, beside its run in the clear.
use Rattle.std.specs.Prelude.{◌≡◌, ℕ, ◌-◌, List, [], Option, Some}
use Rattle.sc_text.specs.declared.end.Ending.{Ending}
use Rattle.proto_core.specs.declared.party.Number.{Number}
use Rattle.proto_core.specs.declared.link.Link.{Link}
use Rattle.proto_core.specs.Strand.{Mail, Strand, told_in}
use Rattle.proto_core.specs.Script.{Move}
use Rattle.proto_core.specs.Net.{nothing, run_of, opened_by, Finishes}
use Rattle.protocol_model.specs.Gates.{gates_script}
use Rattle.protocol_model.specs.Gates as model
use Rattle.protocol_model.specs.Runs.{Shares, Tapes, Ready, run_messages, run_values}
use Rattle.protocol_model.specs.Network.{Accepted, Default, Delivery, Shuffled, net, order_of, walked}
use Rattle.protocol_model.specs.Schedules.{AnyOrder}
use Rattle.language_model.specs.Learned.{learned_of}
use Rattle.language_model.specs.Effects.{Ended}
use Rattle.language_model.specs.Reports.{Report, Offered}
use Rattle.code_model.specs.Courses.{LikeEvents}
use Rattle.verified_code.specs.Steps.{Function}
use Rattle.code_model.specs.Meaning.{fuel}
use Rattle.gate_laws.specs.Dealt.{Dealt}
use Rattle.driven_nodes.specs.Driven.{Turn, path, stop, notices, driven_nodes}
use Rattle.driven_nodes.specs.Steps.{Stand, Running, Stopped, next_turn}
use Rattle.code_places.specs.Places.{Place, first_place, run_dealt}
use Rattle.code_places.specs.Places.{when_told}
use Rattle.code_runs.specs.Telling.{Tells}
use Rattle.code_runs.specs.Handing.{handed_in, kept_from}

-- ---- THE MINERS

-- the code's next turn for one who has no private input, and is told what is opened by its own last value
abbrev pub next : Offered → Dealt → List Function → Stand Place → Option (Turn (Stand Place))
next o d c = next_turn (when_told o c) (run_dealt d)

abbrev pub start : List Function → (budget : ℕ) → Stand Place
start c budget = Running (first_place c budget)

-- each takes the turns with its own tape
abbrev pub miners : Offered → Dealt → List Function → (budget : ℕ) → Tapes → Number → Strand (Stand Place × List (List ℕ))
miners o d c budget tapes = driven_nodes (next o d c) (fuel c budget) (start c budget) (λ i. []) tapes

-- ---- THE GATES OF A REPORT, ON WHAT IS DEALT

abbrev pub gates_to_run : Dealt → Report → List model.Gate
gates_to_run d r = run_dealt d [] r.gates

abbrev pub messages : Dealt → Report → Tapes → Mail
messages d r tapes = run_messages (gates_to_run d r) (λ i. []) tapes

abbrev pub shares : Dealt → Report → Tapes → Shares
shares d r tapes = run_values (gates_to_run d r) (λ i. []) tapes

abbrev pub scripts : Dealt → Report → Number → List Move
scripts d r i = gates_script i (gates_to_run d r)

-- ---- WHAT THEY COME TO

-- where they stop, beside the report of the run in the clear: only what is published may differ
pub record StopsAs (r : Report) (budget : ℕ) (last : Place) : Type 0 where
  pub ending : Ending
  pub stop : r.stop ≡ Ended ending
  pub ended : last.ended ≡ Some ending
  pub cost : budget - last.stage.left ≡ r.cost
  pub drawn : last.stage.drawn ≡ r.drawn
  pub gates : last.stage.gates ≡ r.gates
  pub opened : last.stage.opened ≡ r.opened
  pub events : LikeEvents r.events last.stage.events

module _ (o : Offered) (d : Dealt) (c : List Function) (budget : ℕ) (tapes : Tapes) where
  -- turn by turn they run the report's gates, for which the tapes reach, and come to where it says; they tell its events
  pub record TurnsComeTo (r : Report) : Type 0 where
    pub gates : path (next o d c) (fuel c budget) (start c budget) (λ i. []) tapes ≡ gates_to_run d r
    pub ready : Ready (gates_to_run d r) (λ i. []) tapes
    pub last : Place
    pub end : stop (next o d c) (fuel c budget) (start c budget) (λ i. []) tapes ≡ Stopped last
    pub stops : StopsAs r budget last
    pub told : Tells r.events (λ i. notices (next o d c) (fuel c budget) i (start c budget) (λ i. []) tapes)

  -- they send the messages of the report's gates, and end there with their shares of all values; they open its words and tell its events;
  -- and this under every schedule
  pub record RunAsReported (r : Report) : Type 0 where
    pub turns : TurnsComeTo r
    pub finishes : Finishes (miners o d c budget tapes) (messages d r tapes) (λ i. (Stopped turns.last, shares d r tapes i))
    pub opened : (i : Number) → opened_by (miners o d c budget tapes) (messages d r tapes) i ≡ learned_of r.events
    pub told : Tells r.events (λ i. told_in (run_of (miners o d c budget tapes) (messages d r tapes) i).acts)
    -- what each hands over are its own shares of the values that the gates make for that
    pub gave :
        (i : Number) → handed_in (told_in (run_of (miners o d c budget tapes) (messages d r tapes) i).acts) ≡ kept_from 0 (shares d r tapes i) r.gates
    pub counted :
        (delivery : Delivery)
        → walked (miners o d c budget tapes) 0 nothing (order_of (scripts d r) delivery) ≡ net (scripts d r) delivery
    pub in_order : walked (miners o d c budget tapes) 0 nothing (order_of (scripts d r) Default) ≡ Accepted
    pub shuffled : (words : ℕ → ℕ) → walked (miners o d c budget tapes) 0 nothing (order_of (scripts d r) (Shuffled words)) ≡ Accepted
    pub any_order : (order : List Link) → AnyOrder (miners o d c budget tapes) (messages d r tapes) order
