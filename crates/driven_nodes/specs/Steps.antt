-- Turns made of the steps of a run, of which each makes gates; a step that has to know opened words is done again with them.
use Rattle.std.specs.Prelude.{ℕ, ◌-◌, List, [], length, drop, Option, Some, None}
use Rattle.proto_core.specs.Strand.{Notice}
use Rattle.protocol_model.specs.Gates.{Gate, nth_value}
use Rattle.driven_nodes.specs.Driven.{Turn}

-- what a step comes to
pub data Went (P : Type 0) : Type 0 where
  -- on, to this place
  On : P → Went P
  -- the run is over, here
  Over : P → Went P
  -- it has to be told words that were opened, and has come as far as here
  Wants : P → Went P

abbrev pub place_of : {P : Type 0} → Went P → P
place_of (On p) = p
place_of (Over p) = p
place_of (Wants p) = p

-- a run of one who is told the opened words; G is what its gates are written as
pub record Steps (P G : Type 0) : Type 0 where
  pub step : P → (told : List ℕ) → Went P
  -- all that were made up to a place
  pub gates : P → List G
  -- what a miner with these values tells between two places
  pub notices : (before after : P) → (values : List (List ℕ)) → List Notice

-- where a miner stands
pub data Stand (P : Type 0) : Type 0 where
  Running : P → Stand P
  Stopped : P → Stand P
  -- it was told all that it could be, and wants more
  Short : P → Stand P

abbrev pub stand_of : {P : Type 0} → Went P → Stand P
stand_of (On p) = Running p
stand_of (Over p) = Stopped p
stand_of (Wants p) = Short p

-- the value that was made last
abbrev pub last_of : List (List ℕ) → List ℕ
last_of values = nth_value values (length values - 1)

-- the gates of a place that another one after it has besides
abbrev pub gained : {X : Type 0} → (before after : List X) → List X
gained before after = drop (length before) after

-- how the three miners run gates after others
abbrev pub ToRun : Type 0 → Type 0
ToRun G = (before more : List G) → List Gate

module _ {P G : Type 0} (steps : Steps P G) (to_run : ToRun G) where
  abbrev pub run_between : (p q : P) → List Gate
  run_between p q = to_run (steps.gates p) (gained (steps.gates p) (steps.gates q))

  -- the same step, told the value that was made last
  abbrev pub again : P → (values : List (List ℕ)) → Went P
  again p values = steps.step p (last_of values)

  -- where words are wanted, the gates that the step has made are run first, of which the last one opens a value
  abbrev pub turn_of : P → Went P → Turn (Stand P)
  turn_of p (On q) =
      record { gates = run_between p q; tells = λ values. steps.notices p q values; leads = λ values. Running q }
  turn_of p (Over q) =
      record { gates = run_between p q; tells = λ values. steps.notices p q values; leads = λ values. Stopped q }
  turn_of p (Wants q) =
      record {
        gates = run_between p q;
        tells = λ values. steps.notices p (place_of (again p values)) values;
        leads = λ values. stand_of (again p values);
      }

  abbrev pub next_turn : Stand P → Option (Turn (Stand P))
  next_turn (Running p) = Some (turn_of p (steps.step p []))
  next_turn (Stopped p) = None
  next_turn (Short p) = None
