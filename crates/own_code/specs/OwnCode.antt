-- One miner runs code, by what it was dealt and its own values.
use Rattle.std.specs.Prelude.{ℕ, zero, suc, List, []}
use Rattle.proto_core.specs.declared.party.Number.{Number}
use Rattle.proto_core.specs.Strand.{Strand, Ends, then_do}
use Rattle.gates.specs.declared.gate.Gate.{Gate}
use Rattle.gates.specs.Clear.{Values}
use Rattle.language_model.specs.Effects.{World}
use Rattle.verified_code.specs.Steps.{Function}
use Rattle.driven_nodes.specs.Driven.{telling}
use Rattle.driven_nodes.specs.Steps.{Went, On, Over, Wants, Stand, Running, Stopped, Short, place_of, stand_of, gained, last_of}
use Rattle.code_places.specs.Places.{Place, step_told, notices_between}
use Rattle.gate_node.specs.OwnGates.{GatesEnd, Whole, Stuck, own_gates}

-- where a miner ends
pub data Ended : Type 0 where
  -- where it stands, with its values
  Reached : Stand Place → (values : Values) → Ended
  -- a gate doesn't suit the values before it, or the tape is too short for it
  Unfit : Ended

-- what is done with a place, the values that were made, and the tape that is left
abbrev pub From : Type 0 → Type 0
From P = P → (values : Values) → (tape : List ℕ) → Strand Ended

-- it goes on where the run does
abbrev pub go_on : From Place → From (Stand Place)
go_on on (Running p) values tape = on p values tape
go_on on (Stopped p) values tape = Ends (Reached (Stopped p) values)
go_on on (Short p) values tape = Ends (Reached (Short p) values)

-- from one place it has come to another: it tells what there is to tell, and goes on
abbrev pub tell_and_go_on : From Place → Place → From (Went Place)
tell_and_go_on on p went values tape = telling (notices_between p (place_of went) values) (go_on on (stand_of went) values tape)

abbrev pub gates_between : (p q : Place) → List Gate
gates_between p q = gained p.stage.gates q.stage.gates

module _ (w : World) (c : List Function) where
  -- a step that wants words is done again, told the value that was made last
  abbrev pub led_by : (values : Values) → Place → Went Place → Went Place
  led_by values p (On q) = On q
  led_by values p (Over q) = Over q
  led_by values p (Wants q) = step_told w c p (last_of values)

  -- after the gates of a step
  abbrev pub behind_gates : From Place → Place → Went Place → GatesEnd → Strand Ended
  behind_gates on p went (Whole values tape) = tell_and_go_on on p (led_by values p went) values tape
  behind_gates on p went Stuck = Ends Unfit

  -- step after step, as many as fuel lasts for: the gates of a step are run on the miner's own values
  abbrev pub own_code : (i : Number) → (dealt : Values) → (fuel : ℕ) → From Place
  own_code i dealt zero p values tape = Ends (Reached (Running p) values)
  own_code i dealt (suc fuel) p values tape =
      then_do (own_gates i dealt (gates_between p (place_of (step_told w c p []))) values tape)
      (behind_gates (own_code i dealt fuel) p (step_told w c p []))
