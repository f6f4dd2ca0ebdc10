-- Three miners that take the steps of a run, told what is opened by their own shares, run the gates of the run beside it.
use Rattle.std.proofs.Common.{◌≡◌, ℕ, zero, suc, List, [], ◌++◌, drop, refl, sym, ◌∙◌, ap, subst}
use Rattle.std.specs.Prelude.{Option}
use Rattle.proto_core.specs.declared.party.Number.{Number}
use Rattle.proto_core.specs.declared.party.Number.TheVariants.{One}
use Rattle.proto_core.proofs.Beginnings.{append-none}
use Rattle.protocol_model.specs.Gates.{Gate, needed}
use Rattle.protocol_model.specs.Runs.{Shares, Tapes, run_values}
use Rattle.driven_nodes.specs.Driven.{Turn, LeadsTogether, shares_behind, tapes_behind, place_behind, path, stop, Led}
use Rattle.driven_nodes.specs.Steps.{Went, On, Over, Wants, Steps, Stand, Running, Stopped, ToRun, gained, last_of, stand_of, turn_of, next_turn}
use Rattle.driven_nodes.specs.Twins.{Course, gates_by, gates_of, stand_by, stand_after, ReadsBy, Reads, Follows, untold, told, TwinBy, Twins, StandAlike}

-- gates that are run in one are run part by part
pub record RunsJoin {G : Type 0} (to_run : ToRun G) : Type 0 where
  pub none : (before : List G) → to_run before [] ≡ []
  pub joins : (before xs ys : List G) → to_run before (xs ++ ys) ≡ to_run before xs ++ to_run (before ++ xs) ys

module _ {C P G : Type 0} (course : Course C G) (steps : Steps P G) (to_run : ToRun G) (Alike Ended : C → P → Type 0) where
  abbrev next : Stand P → Option (Turn (Stand P))
  next = next_turn steps to_run

  -- the miners' gates are the run's, the three are led to one place at each turn, and they come to stand as the run does
  pub record SameRunAs (fuel : ℕ) (c : C) (p : P) (values : Shares) (tapes : Tapes) : Type 0 where
    pub gates : path next fuel (Running p) values tapes ≡ to_run (course.gates c) (gates_of course fuel c)
    pub led : Led next fuel (Running p) values tapes
    pub stands : StandAlike course steps Alike Ended (stand_after course fuel c) (stop next fuel (Running p) values tapes)

  module _ (join : RunsJoin to_run) (twins : Twins course steps Alike Ended) where
    -- after one turn with these gates, which leads all three to one place
    module _ (fuel : ℕ) (stand : Stand C) (gates : List Gate) (place : Stand P) (rest : List Gate) (values : Shares) (tapes : Tapes) where
      abbrev now : Shares
      now = run_values gates values tapes

      abbrev later : Tapes
      later i = drop (needed gates i) (tapes i)

      record Ahead : Type 0 where
        path : path next fuel place now later ≡ rest
        led : Led next fuel place now later
        stands : StandAlike course steps Alike Ended stand (stop next fuel place now later)

      record Taken (t : Turn (Stand P)) : Type 0 where
        path : t.gates ++ path next fuel (place_behind t values tapes) (shares_behind t values tapes) (tapes_behind t tapes) ≡ gates ++ rest
        led : LeadsTogether t values tapes × Led next fuel (place_behind t values tapes) (shares_behind t values tapes) (tapes_behind t tapes)
        stands : StandAlike course steps Alike Ended stand (stop next fuel (place_behind t values tapes) (shares_behind t values tapes) (tapes_behind t tapes))

      taken :
          (t : Turn (Stand P)) → t.gates ≡ gates → ((i : Number) → t.leads (run_values t.gates values tapes i) ≡ place) → Ahead → Taken t
      taken t same leads ahead =
          record {
            path =
                ap (λ p. t.gates ++ path next fuel p (shares_behind t values tapes) (tapes_behind t tapes)) (leads One)
                ∙ ap (λ g. g ++ path next fuel place (run_values g values tapes) (λ i. drop (needed g i) (tapes i))) same
                ∙ ap (λ v. gates ++ v) ahead.path;
            led = (
              λ i. leads i ∙ sym (leads One),
              subst (λ p. Led next fuel p (shares_behind t values tapes) (tapes_behind t tapes)) (sym (leads One))
                  (subst (λ g. Led next fuel place (run_values g values tapes) (λ i. drop (needed g i) (tapes i))) (sym same) ahead.led),
            );
            stands =
                subst
                (λ p. StandAlike course steps Alike Ended stand (stop next fuel p (shares_behind t values tapes) (tapes_behind t tapes)))
                (sym (leads One))
                (subst
                (λ g. StandAlike course steps Alike Ended stand (stop next fuel place (run_values g values tapes) (λ i. drop (needed g i) (tapes i))))
                (sym same) ahead.stands);
          }

    stopped_path : (fuel : ℕ) (q : P) (values : Shares) (tapes : Tapes) → path next fuel (Stopped q) values tapes ≡ []
    stopped_path zero q values tapes = refl
    stopped_path (suc fuel) q values tapes = refl

    stopped_led : (fuel : ℕ) (q : P) (values : Shares) (tapes : Tapes) → Led next fuel (Stopped q) values tapes
    stopped_led zero q values tapes = tt
    stopped_led (suc fuel) q values tapes = tt

    stopped_stop : (fuel : ℕ) (q : P) (values : Shares) (tapes : Tapes) → stop next fuel (Stopped q) values tapes ≡ Stopped q
    stopped_stop zero q values tapes = refl
    stopped_stop (suc fuel) q values tapes = refl

    pub nodes_run_the_gates :
        (fuel : ℕ) (c : C) (p : P) (values : Shares) (tapes : Tapes) → Alike c p → Reads course to_run fuel c values tapes →
        SameRunAs fuel c p values tapes
    unfolding gates_of Reads stand_after
    nodes_run_the_gates zero c p values tapes alike reads = record { gates = sym (join.none (course.gates c)); led = tt; stands = alike }
    nodes_run_the_gates (suc fuel) c p values tapes alike reads =
        by_went (course.step c) refl (twins.law c p alike) reads (nodes_run_the_gates fuel)
      where
        Later : Type 0
        Later =
            (c : C) (p : P) (values : Shares) (tapes : Tapes) → Alike c p → Reads course to_run fuel c values tapes →
            SameRunAs fuel c p values tapes

        -- the gates between two places of the run and between those beside them
        between :
            (d : C) (q : P) → course.gates d ≡ steps.gates q →
            to_run (steps.gates p) (gained (steps.gates p) (steps.gates q)) ≡ to_run (course.gates c) (gained (course.gates c) (course.gates d))
        between d q e =
            ap (λ a. to_run a (gained a (steps.gates q))) (sym (twins.same_gates c p alike))
            ∙ ap (λ b. to_run (course.gates c) (gained (course.gates c) b)) (sym e)

        -- what the turn comes to, by the step that it is made of
        finish :
            (w : Went C) → course.step c ≡ w → (g : List Gate) (place : Stand P) (rest : List Gate) →
            g ++ rest ≡ to_run (course.gates c) (gates_by course (gates_of course fuel) c w) →
            (z : Went P) → steps.step p [] ≡ z →
            Taken fuel (stand_by course (stand_after course fuel) w) g place rest values tapes (turn_of steps to_run p z) →
            SameRunAs (suc fuel) c p values tapes
        finish w e g place rest whole z st taken =
            let mine =
            subst (λ v. Taken fuel (stand_by course (stand_after course fuel) w) g place rest values tapes (turn_of steps to_run p v)) (sym st)
            taken in
            record {
              gates = mine.path ∙ whole ∙ ap (λ v. to_run (course.gates c) (gates_by course (gates_of course fuel) c v)) (sym e);
              led = mine.led;
              stands =
                  subst
                  (λ v. StandAlike course steps Alike Ended (stand_by course (stand_after course fuel) v) (stop next (suc fuel) (Running p) values tapes))
                  (sym e) mine.stands;
            }

        by_went :
            (w : Went C) → course.step c ≡ w → TwinBy course steps Alike Ended c p w → ReadsBy course to_run (Reads course to_run fuel) c values tapes w →
            Later → SameRunAs (suc fuel) c p values tapes
        by_went (Wants d) e twin reads more = absurd twin
        by_went (Over d) e twin reads more =
            finish (Over d) e g (Stopped q) [] (append-none g) (Over q) twin.2
            (taken fuel (Stopped d) g (Stopped q) [] values tapes (turn_of steps to_run p (Over q)) (between d q (twins.same_at_end d q twin.1)) (λ i. refl)
            (record {
              path = stopped_path fuel q _ _;
              led = stopped_led fuel q _ _;
              stands = subst (λ v. StandAlike course steps Alike Ended (Stopped d) v) (sym (stopped_stop fuel q _ _)) twin.1;
            }))
          where
            q : P
            q = twin.0

            g : List Gate
            g = to_run (course.gates c) (gained (course.gates c) (course.gates d))
        by_went (On d) e twin reads more = by_way twin.3
          where
            q : P
            q = twin.0

            g : List Gate
            g = to_run (course.gates c) (gained (course.gates c) (course.gates d))

            same : course.gates d ≡ steps.gates q
            same = twins.same_gates d q twin.1

            ahead : SameRunAs fuel d q (run_values g values tapes) (λ i. drop (needed g i) (tapes i))
            ahead = more d q (run_values g values tapes) (λ i. drop (needed g i) (tapes i)) twin.1 reads.1

            rest : List Gate
            rest = to_run (course.gates d) (gates_of course fuel d)

            whole : g ++ rest ≡ to_run (course.gates c) (gained (course.gates c) (course.gates d) ++ gates_of course fuel d)
            whole =
                ap (λ b. g ++ to_run b (gates_of course fuel d)) twin.2
                ∙ sym (join.joins (course.gates c) (gained (course.gates c) (course.gates d)) (gates_of course fuel d))

            go :
                (z : Went P) → steps.step p [] ≡ z → (turn_of steps to_run p z).gates ≡ g →
                ((i : Number) → (turn_of steps to_run p z).leads (run_values (turn_of steps to_run p z).gates values tapes i) ≡ Running q) →
                SameRunAs (suc fuel) c p values tapes
            go z st gates leads =
                finish (On d) e g (Running q) rest whole z st
                (taken fuel (stand_after course fuel d) g (Running q) rest values tapes (turn_of steps to_run p z) gates leads
                (record { path = ahead.gates; led = ahead.led; stands = ahead.stands }))

            by_way : Follows course steps Alike Ended p c d q → SameRunAs (suc fuel) c p values tapes
            by_way (untold st) = go (On q) st (between d q same) (λ i. refl)
            by_way (told halfway some st gates goes) =
                let here = between d halfway (same ∙ sym gates) in
                go (Wants halfway) st here
                (λ i.
                ap (λ v. stand_of (steps.step p v)) (ap (λ z. last_of (run_values z values tapes i)) here ∙ reads.0 some i) ∙ ap stand_of goes)
