-- No run of code counts more words than there are on the tapes of its world.
use Rattle.std.proofs.Common.{◌≡◌, ◌≤◌, ℕ, zero, suc, Bool, true, false, cond, List, [], Option, Some, None, Ok, Err, refl, sym, subst, arith}
use Rattle.std.specs.Prelude.{nat_le}
use Rattle.std.specs.List.{slice_get}
use Rattle.std.proofs.lemmas.Bool.{leb-true}
use Rattle.proto_core.specs.declared.party.Number.{Number}
use Rattle.proto_core.specs.Strand.{Strand}
use Rattle.gates.specs.Clear.{Values}
use Rattle.language_model.specs.Effects.{World, Stage, RunStop, Ended, Short, Run}
use Rattle.language_model.specs.Reports.{dealing, beginning, not_dealt}
use Rattle.language_model.specs.Tapes.{AtMost, HasWords}
use Rattle.language_model.proofs.Onward.{stage_of}
use Rattle.verified_code.specs.Steps.{Step, Function}
use Rattle.code_model.specs.Machine.{Machine, step, start, exec, further}
use Rattle.code_model.specs.Meaning.{fuel, report_at, stopped_or, mean_in}
use Rattle.code_runs.proofs.Onwards.{step_onward}
use Rattle.driven_nodes.specs.Steps.{On, Over, Wants, Stand, Running, Stopped, Short, place_of, stand_of, last_of}
use Rattle.driven_nodes.specs.Steps as steps
use Rattle.code_places.specs.Places.{Place, telling_stage, stopped, went, next_step, answers_told, notices_between, step_told}
use Rattle.gate_node.specs.OwnGates.{GatesEnd, Whole, Stuck, own_gates}
use Rattle.gate_node.proofs.Always.{EndsAlways, always-then}
use Rattle.own_code.specs.OwnCode.{Reached, Unfit, From, gates_between, led_by, go_on, tell_and_go_on, behind_gates, own_code}
use Rattle.own_code.specs.OwnCode as own
use Rattle.story_laws.proofs.Ended.{always_any, always_telling}

-- ---- one step

none_is_least : (n : ℕ) → 0 ≤ n
none_is_least n = omega arith

module _ (w : World) where
  abbrev pub Fits : Stage → Type 0
  Fits s = AtMost s.drawn w.lengths

  pub beginning_fits : (budget : ℕ) (answers : List ℕ) → Fits (beginning budget answers)
  beginning_fits budget answers = (none_is_least w.lengths.first, none_is_least w.lengths.second, none_is_least w.lengths.third)

  module _ (c : List Function) where
    step_fits : (o : Option Step) (m : Machine) (s : Stage) → Fits s → Fits (stage_of (step w c o m s))
    step_fits o m s h = ((step_onward w c m o).from s).tapes h

    -- ---- a report

    abbrev FitsIf : Option (RunStop × Stage) → Type 0
    FitsIf None = Unit {0}
    FitsIf (Some x) = Fits x.1

    further_fits : (r : Run Machine) (on : Machine → Stage → Option (RunStop × Stage)) → Fits (stage_of r) →
        ((m : Machine) (s : Stage) → Fits s → FitsIf (on m s)) → FitsIf (further r on)
    further_fits (Ok x) on h more = more x.0 x.1 h
    further_fits (Err e) on h more = h

    exec_fits : (k : ℕ) (m : Machine) (s : Stage) → Fits s → FitsIf (exec w c k m s)
    unfolding exec
    exec_fits zero m s h = tt
    exec_fits (suc k) m s h =
        further_fits (step w c (slice_get m.steps m.pc) m s) (exec w c k) (step_fits (slice_get m.steps m.pc) m s h) (λ n t. exec_fits k n t)

    stopped_fits : (s : Stage) (o : Option (RunStop × Stage)) → Fits s → FitsIf o → Fits (stopped_or s o).1
    stopped_fits s None h k = h
    stopped_fits s (Some x) h k = k

    pub report_fits : (budget : ℕ) (answers : List ℕ) → HasWords w (mean_in w c budget answers)
    report_fits budget answers = go (nat_le (dealing w) w.dealer) refl
      where
        first : Stage
        first = beginning budget answers

        last : RunStop × Stage
        last = stopped_or first (exec w c (fuel c budget) (start c) first)

        go : (b : Bool) → nat_le (dealing w) w.dealer ≡ b → HasWords w (cond b (report_at w budget last) (not_dealt w))
        go true e =
            record {
              dealt = leb-true _ _ e;
              drawn = stopped_fits first (exec w c (fuel c budget) (start c) first) (beginning_fits budget answers)
                  (exec_fits (fuel c budget) (start c) first (beginning_fits budget answers));
            }
        go false e = record { dealt = none_is_least w.dealer; drawn = beginning_fits budget answers }

    -- ---- a miner

    stopped_drawn : (m : Machine) (u : Stage) (stop : RunStop) → (place_of (stopped m u stop)).stage.drawn ≡ u.drawn
    stopped_drawn m u (Ended e) = refl
    stopped_drawn m u Short = refl

    went_drawn : (m : Machine) (r : Run Machine) → (place_of (went m r)).stage.drawn ≡ (stage_of r).drawn
    went_drawn m (Ok x) = refl
    went_drawn m (Err e) = stopped_drawn m e.1 e.0

    told_fits : (p : Place) (told : List ℕ) → Fits p.stage → Fits (place_of (step_told w c p told)).stage
    told_fits p told h =
        let s : Stage = telling_stage (answers_told told (next_step p.machine) p.machine) p.stage in
        subst (λ d. AtMost d w.lengths) (sym (went_drawn p.machine (step w c (next_step p.machine) p.machine s)))
        (step_fits (next_step p.machine) p.machine s h)

    abbrev FitsAt : Stand Place → Type 0
    FitsAt (Running p) = Fits p.stage
    FitsAt (Stopped p) = Fits p.stage
    FitsAt (steps.Short p) = Fits p.stage

    abbrev pub EndFits : own.Ended → Type 0
    EndFits (Reached stand values) = FitsAt stand
    EndFits Unfit = Unit {0}

    led_fits : (p : Place) (x : steps.Went Place) (values : Values) → Fits p.stage → Fits (place_of x).stage → FitsAt (stand_of (led_by w c values p x))
    led_fits p (On q) values h k = k
    led_fits p (Over q) values h k = k
    led_fits p (Wants q) values h k = led (step_told w c p (last_of values)) (told_fits p (last_of values) h)
      where
        led : (y : steps.Went Place) → Fits (place_of y).stage → FitsAt (stand_of y)
        led (On r) h = h
        led (Over r) h = h
        led (Wants r) h = h

    -- what is done from any place that fits ends at one
    abbrev CodeFits : From Place → Type 0
    CodeFits on = (p : Place) (values : Values) (tape : List ℕ) → Fits p.stage → EndsAlways EndFits (on p values tape)

    stand_fits :
        (on : From Place) → CodeFits on → (stand : Stand Place) (values : Values) (tape : List ℕ) → FitsAt stand →
        EndsAlways EndFits (go_on on stand values tape)
    stand_fits on more (Running q) values tape h = more q values tape h
    stand_fits on more (Stopped q) values tape h = h
    stand_fits on more (steps.Short q) values tape h = h

    behind_fits :
        (on : From Place) → CodeFits on → (p : Place) → Fits p.stage → (halted : GatesEnd) →
        EndsAlways EndFits (behind_gates w c on p (step_told w c p []) halted)
    behind_fits on more p h Stuck = tt
    behind_fits on more p h (Whole all rest) =
        let x : steps.Went Place = step_told w c p [] in
        always_telling EndFits (notices_between p (place_of (led_by w c all p x)) all) (go_on on (stand_of (led_by w c all p x)) all rest)
        (stand_fits on more (stand_of (led_by w c all p x)) all rest (led_fits p x all h (told_fits p [] h)))

    pub code_fits : (i : Number) (dealt : Values) (k : ℕ) → CodeFits (own_code w c i dealt k)
    code_fits i dealt zero p values tape h = h
    code_fits i dealt (suc k) p values tape h =
        let gates : Strand GatesEnd = own_gates i dealt (gates_between p (place_of (step_told w c p []))) values tape in
        always-then (λ halted. Unit {0}) EndFits gates (behind_gates w c (own_code w c i dealt k) p (step_told w c p [])) (always_any gates)
        (λ halted u. behind_fits (own_code w c i dealt k) (code_fits i dealt k) p h halted)
