-- Three miners in a net: what they were made with, what a delivery of a net does, and what its miners have told.
use Rattle.std.specs.Prelude.{◌≡◌, ◌-◌, ℕ, List, [], map, false, Option, Some, Result, Ok, Err}
use Rattle.sc_text.specs.declared.end.Ending.{Ending}
use Rattle.proto_core.specs.declared.party.Number.TheVariants.{One}
use Rattle.proto_core.specs.Strand.{Ends, told_in}
use Rattle.protocol_model.specs.Network.{Accepted, Default, Delivery, EmptyLink, Listed, Shuffled, Stalled}
use Rattle.gates.specs.Clear.{Values}
use Rattle.language_model.specs.Effects.{Answers, World}
use Rattle.language_model.specs.Reports.{world_of}
use Rattle.clear_eval.specs.Offers.{offered_with, part_given}
use Rattle.verified_code.specs.Steps.{Function}
use Rattle.driven_nodes.specs.Steps.{Stopped}
use Rattle.miner_core.specs.Places.{Place}
use Rattle.code_runs.specs.ClientTold.{told_beside, told_together}
use Rattle.miner_core.specs.OwnCode.{Reached}
use Rattle.miner_core.specs.declared.notice.Notice.{Notice}
use Rattle.miner_core.specs.Story.{Story}
use Rattle.miner_core.specs.Views.{notice_seen}
use Rattle.link_schedule.specs.Answers.{net_walked}
use Rattle.link_schedule.specs.Net.{NetState, Own, after, net_node}
use Rattle.link_schedule.specs.Orders.{Makes}
use Rattle.program_run.specs.declared.running.RunReport.{RunReport}
use Rattle.delivered_run.specs.declared.net.Setting.{Setting}
use Rattle.counted_net.specs.declared.delivery.DeliveryErr.TheVariants as err
use Rattle.delivered_run.specs.declared.errors.CourseErr.{CourseErr}
use Rattle.delivered_run.specs.declared.errors.CourseErr.TheVariants as course

-- a miner to which nothing was delivered
abbrev pub story_for : World → List Function → (budget : ℕ) → Own → Story
story_for world code budget own =
    record {
      world = world;
      code = code;
      dealt = own.dealt;
      tape = own.tape;
      budget = budget;
      from_previous = [];
      from_next = [];
      lost = false;
    }

-- three of them
abbrev pub net_with : World → List Function → (budget : ℕ) → (one two three : Own) → NetState
net_with world code budget one two three =
    record { world = world; code = code; budget = budget; one = one; two = two; three = three; delivered = []; lost = false }

-- ---- what a delivery does

-- no more is said where memory ran out, or a tape couldn't be read
abbrev pub Delivers : Delivery → (before then : NetState) → Result (Unit {0}) CourseErr → Type 0
Delivers Default before then (Ok done) = Makes (λ k. 0) before then
Delivers (Shuffled words) before then (Ok done) = Makes words before then
Delivers (Listed links) before then (Ok done) = (net_walked before links ≡ Accepted) × (then ≡ after before links)
Delivers (Listed links) before then (Err (course.Delivery (err.EmptyLink entry link sent))) = net_walked before links ≡ EmptyLink entry link sent
Delivers (Listed links) before then (Err (course.Delivery (err.Stalled miner link))) = net_walked before links ≡ Stalled miner link
Delivers Default before then (Err (course.Delivery (err.EmptyLink entry link sent))) = ⊥
Delivers Default before then (Err (course.Delivery (err.Stalled miner link))) = ⊥
Delivers (Shuffled words) before then (Err (course.Delivery (err.EmptyLink entry link sent))) = ⊥
Delivers (Shuffled words) before then (Err (course.Delivery (err.Stalled miner link))) = ⊥
Delivers given before then (Err (course.Delivery err.Memory)) = Unit {0}
Delivers given before then (Err course.TapeFault) = Unit {0}

-- ---- what is told

-- the first miner has ended here, so
pub record StopsAt (net : NetState) (p : Place) : Type 0 where
  pub values : Values
  pub left : (net_node net One).left ≡ Ends (Reached (Stopped p) values)
  pub ending : Ending
  pub ended : p.ended ≡ Some ending

-- the client is told what the three miners tell together, and how and at which cost the first has ended
pub record HasTold (net : NetState) (told : RunReport) : Type 0 where
  pub events : told.events.items ≡ told_together (λ i. told_in (net_node net i).acts)
  pub how : (p : Place) → StopsAt net p → p.ended ≡ Some told.end.how
  pub cost : (p : Place) → StopsAt net p → told.end.cost ≡ net.budget - p.stage.left

-- so it is told where the three miners have told this, and the first has ended so, at this cost
pub record IsToldBy (first second third : List Notice) (paid : ℕ) (ending : Option Ending) (told : RunReport) : Type 0 where
  pub events : told.events.items ≡ told_beside (map notice_seen first) (map notice_seen second) (map notice_seen third)
  pub how : ending ≡ Some told.end.how
  pub cost : told.end.cost ≡ paid

-- ---- what a miner knows

-- the public part of the inputs and the lengths of all tapes, told the words that are opened
abbrev pub setting_world : Setting → World
setting_world s = world_of Answers (offered_with (map part_given s.part.now) s.lengths)
