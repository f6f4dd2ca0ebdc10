-- A run of one who is told the opened words beside one of one who knows them.
use Rattle.std.specs.Prelude.{◌≡◌, ◌≢◌, ℕ, zero, suc, List, [], ◌++◌, drop}
use Rattle.proto_core.specs.declared.party.Number.{Number}
use Rattle.protocol_model.specs.Gates.{needed}
use Rattle.protocol_model.specs.Runs.{Shares, Tapes, run_values}
use Rattle.driven_nodes.specs.Steps.{Went, On, Over, Wants, Steps, Stand, Running, Stopped, Short, ToRun, gained, last_of}

-- a run of one who is told nothing, with the gates made and the words opened up to each place
pub record Course (C G : Type 0) : Type 0 where
  pub step : C → Went C
  pub gates : C → List G
  pub opened : C → List ℕ

module _ {C G : Type 0} (course : Course C G) where
  -- the gates that so many steps make from here, one after another
  abbrev pub gates_by : (C → List G) → C → Went C → List G
  gates_by rest c (On d) = gained (course.gates c) (course.gates d) ++ rest d
  gates_by rest c (Over d) = gained (course.gates c) (course.gates d)
  gates_by rest c (Wants d) = []

  unfoldable pub gates_of : (fuel : ℕ) → C → List G
  gates_of zero c = []
  gates_of (suc fuel) c = gates_by (gates_of fuel) c (course.step c)

  -- where it comes to
  abbrev pub stand_by : (C → Stand C) → Went C → Stand C
  stand_by rest (On d) = rest d
  stand_by rest (Over d) = Stopped d
  stand_by rest (Wants d) = Short d

  unfoldable pub stand_after : (fuel : ℕ) → C → Stand C
  stand_after zero c = Running c
  stand_after (suc fuel) c = stand_by (stand_after fuel) (course.step c)

  -- the words that a step opens
  abbrev pub shown : (c d : C) → List ℕ
  shown c d = gained (course.opened c) (course.opened d)

  module _ (to_run : ToRun G) where
    -- at each step that opens words, each miner has them as its last value
    abbrev pub ReadsBy : (C → Shares → Tapes → Type 0) → C → Shares → Tapes → Went C → Type 0
    ReadsBy rest c values tapes (On d) =
        let gates = to_run (course.gates c) (gained (course.gates c) (course.gates d)) in
        (shown c d ≢ [] → (i : Number) → last_of (run_values gates values tapes i) ≡ shown c d)
        × rest d (run_values gates values tapes) (λ i. drop (needed gates i) (tapes i))
    ReadsBy rest c values tapes (Over d) = Unit {0}
    ReadsBy rest c values tapes (Wants d) = Unit {0}

    unfoldable pub Reads : (fuel : ℕ) → C → Shares → Tapes → Type 0
    Reads zero c values tapes = Unit {0}
    Reads (suc fuel) c values tapes = ReadsBy (Reads fuel) c values tapes (course.step c)

module _ {C P G : Type 0} (course : Course C G) (steps : Steps P G) (Alike Ended : C → P → Type 0) where
  -- beside a step from c to d: it goes on untold; or it has to be told, has made the step's gates, and told the step's words goes on
  pub data Follows (p : P) (c d : C) (q : P) : Type 0 where
    untold : steps.step p [] ≡ On q → Follows p c d q
    told :
        (halfway : P) → shown course c d ≢ [] → steps.step p [] ≡ Wants halfway → steps.gates halfway ≡ steps.gates q →
        steps.step p (shown course c d) ≡ On q → Follows p c d q

  -- beside a step of the one there is one of the other
  abbrev pub TwinBy : C → P → Went C → Type 0
  TwinBy c p (On d) =
      (q : P) × Alike d q × (course.gates d ≡ course.gates c ++ gained (course.gates c) (course.gates d)) × Follows p c d q
  TwinBy c p (Over d) = (q : P) × Ended d q × (steps.step p [] ≡ Over q)
  TwinBy c p (Wants d) = ⊥

  -- places that are alike have the same gates, and steps from them lead to such places
  pub record Twins : Type 0 where
    pub same_gates : (c : C) (p : P) → Alike c p → course.gates c ≡ steps.gates p
    pub same_at_end : (c : C) (p : P) → Ended c p → course.gates c ≡ steps.gates p
    pub law : (c : C) (p : P) → Alike c p → TwinBy c p (course.step c)

  -- they stand alike
  abbrev pub StandAlike : Stand C → Stand P → Type 0
  StandAlike (Running c) (Running p) = Alike c p
  StandAlike (Stopped c) (Stopped p) = Ended c p
  StandAlike (Running c) (Stopped p) = ⊥
  StandAlike (Running c) (Short p) = ⊥
  StandAlike (Stopped c) (Running p) = ⊥
  StandAlike (Stopped c) (Short p) = ⊥
  StandAlike (Short c) stand = ⊥
