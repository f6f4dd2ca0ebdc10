-- The notices of a run, turn by turn, tell the events of the run in the clear.
use Rattle.std.proofs.Common.{◌≡◌, ℕ, zero, suc, List, [], ◌++◌, length, drop, Option, Some, None, Ok, Err, refl, sym, ap, ◌∙◌, subst, append_assoc, append-nil}
use Rattle.std.proofs.lemmas.Option.{none-some, same_Some}
use Rattle.sc_text.specs.declared.event.Event.{Event}
use Rattle.proto_core.specs.declared.party.Number.{Number}
use Rattle.proto_core.specs.declared.party.Number.TheVariants.{One}
use Rattle.proto_core.specs.Lists.{AreWords}
use Rattle.proto_core.specs.Strand.{Notice}
use Rattle.protocol_model.specs.Gates.{needed}
use Rattle.protocol_model.specs.Gates as model
use Rattle.protocol_model.specs.Runs.{Shares, Tapes, run_values}
use Rattle.shared_gates.specs.Model.{miner_of}
use Rattle.language_model.specs.Effects.{World, Clear, Stage, RunStop, Ended, Run}
use Rattle.language_model.specs.Effects as effects
use Rattle.language_model.specs.Reports.{Offered, world_of}
use Rattle.language_model.proofs.Onward.{stage_of}
use Rattle.verified_code.specs.Steps.{Function}
use Rattle.code_model.specs.Machine.{Machine, step, further, exec}
use Rattle.gate_laws.specs.Dealt.{drawn_by, Dealt}
use Rattle.gate_laws.specs.Laws.{MayRun}
use Rattle.driven_nodes.specs.Driven.{Turn, shares_behind, tapes_behind, place_behind, notices}
use Rattle.driven_nodes.specs.Steps.{On, Over, place_of, Stand, Running, Stopped, gained, last_of, stand_of, turn_of, next_turn}
use Rattle.driven_nodes.specs.Twins.{shown, Follows, untold, told, TwinBy}
use Rattle.code_places.specs.Places.{Place, place, stopped, went, next_step, notices_between, run_dealt}
use Rattle.code_places.specs.Twins.{GoAlike, EndAlike}
use Rattle.code_places.specs.Laws.{in_the_clear, CodeHasTwins}
use Rattle.code_places.specs.Places.{when_told}
use Rattle.code_runs.specs.Telling.{Tells}
use Rattle.code_runs.specs.Telling as tells
use Rattle.code_runs.proofs.Stays.{untold as untold_same, Stays, Along, Final, After, none_left, same_step, after_step}
use Rattle.code_runs.proofs.Shown.{behind, left_behind, shown_last, values_behind, tapes_left}
use Rattle.code_runs.specs.Handing.{handed_in}
use Rattle.code_runs.proofs.Handing.{hands, handed-append, kept_at, kept-still}
use Rattle.code_runs.proofs.Notices.{retold, none_made, step_told}

module _ (o : Offered) (d : Dealt) (c : List Function) (tapes : Tapes) (words : (i : Number) → AreWords (tapes i))
    (long : (i : Number) → length (tapes i) ≡ drawn_by o.lengths (miner_of i)) (may : MayRun (world_of Clear o) d c) (twins : CodeHasTwins o c) where
  abbrev w : World
  w = world_of Clear o

  abbrev pub next : Stand Place → Option (Turn (Stand Place))
  next = next_turn (when_told o c) (run_dealt d)

  stopped_notices : (fuel : ℕ) (i : Number) (q : Place) (values : Shares) (ts : Tapes) → notices next fuel i (Stopped q) values ts ≡ []
  stopped_notices zero i q values ts = refl
  stopped_notices (suc fuel) i q values ts = refl

  -- ---- A TURN

  module _ (fuel : ℕ) (values : Shares) (ts : Tapes) where
    abbrev by_turn : Turn (Stand Place) → Number → List Notice
    by_turn t i =
        t.tells (shares_behind t values ts i) ++ notices next fuel i (place_behind t values ts) (shares_behind t values ts) (tapes_behind t ts)

    record Tellings (t : Turn (Stand Place)) (g : List model.Gate) (to : Stand Place) (tell : Number → List Notice) : Type 0 where
      gates : t.gates ≡ g
      leads : (i : Number) → t.leads (run_values t.gates values ts i) ≡ to
      says : (i : Number) → t.tells (run_values t.gates values ts i) ≡ tell i

    turned :
        (t : Turn (Stand Place)) (g : List model.Gate) (to : Stand Place) (tell : Number → List Notice) → Tellings t g to tell → (i : Number)
        → by_turn t i ≡ tell i ++ notices next fuel i to (run_values g values ts) (λ j. drop (needed g j) (ts j))
    turned t g to tell h i =
        ap (λ v. v ++ notices next fuel i (place_behind t values ts) (shares_behind t values ts) (tapes_behind t ts)) (h.says i)
        ∙ ap (λ p. tell i ++ notices next fuel i p (shares_behind t values ts) (tapes_behind t ts)) (h.leads One)
        ∙ ap (λ g. tell i ++ notices next fuel i to (run_values g values ts) (λ j. drop (needed g j) (ts j))) h.gates

  -- ---- A STEP THAT GOES ON

  module _ (fuel : ℕ) (p b q a : Place) (st : Stays o d c p) (alike : GoAlike p b) (along : Along o d c p q) (later : GoAlike q a) (values : Shares)
      (ts : Tapes) (e : values ≡ behind d tapes p.stage.gates) (f : ts ≡ left_behind d tapes p.stage.gates) where
    abbrev g : List model.Gate
    g = run_dealt d p.stage.gates (gained p.stage.gates q.stage.gates)

    now : run_values g values ts ≡ behind d tapes q.stage.gates
    now = values_behind o d c tapes words long p q along values ts e f

    abbrev tell : Number → List Notice
    tell i = notices_between b a (run_values g values ts i)

    between : (z : Place) → q.stage.gates ≡ z.stage.gates → run_dealt d b.stage.gates (gained b.stage.gates z.stage.gates) ≡ g
    between z same =
        ap (λ x. run_dealt d x (gained x z.stage.gates)) (sym (twins.same_gates p b alike))
        ∙ ap (λ x. run_dealt d p.stage.gates (gained p.stage.gates x)) (sym same)

    follows :
        Follows (in_the_clear o c) (when_told o c) GoAlike EndAlike b p q a
        → Tellings fuel values ts (turn_of (when_told o c) (run_dealt d) b ((when_told o c).step b [])) g (Running a) tell
    follows (untold s) =
        subst (λ z. Tellings fuel values ts (turn_of (when_told o c) (run_dealt d) b z) g (Running a) tell) (sym s)
        (record {
          gates = between a (twins.same_gates q a later);
          leads = λ i. refl;
          says = λ i. ap (λ x. notices_between b a (run_values x values ts i)) (between a (twins.same_gates q a later));
        })
    follows (told halfway some s gates goes) =
        let here : run_dealt d b.stage.gates (gained b.stage.gates halfway.stage.gates) ≡ g = between halfway (twins.same_gates q a later ∙ sym gates) in
        let last : (i : Number) → last_of (run_values g values ts i) ≡ shown (in_the_clear o c) p q =
        λ i. ap (λ v. last_of (v i)) now ∙ shown_last o d c tapes words long p q st along some i in
        let again : (i : Number) → (when_told o c).step b (last_of (run_values g values ts i)) ≡ On a = λ i. ap ((when_told o c).step b) (last i) ∙ goes in
        subst (λ z. Tellings fuel values ts (turn_of (when_told o c) (run_dealt d) b z) g (Running a) tell) (sym s)
        (record {
          gates = here;
          leads = λ i. ap (λ x. stand_of ((when_told o c).step b (last_of (run_values x values ts i)))) here ∙ ap stand_of (again i);
          says = λ i.
              ap (λ x. notices_between b (place_of ((when_told o c).step b (last_of (run_values x values ts i)))) (run_values x values ts i)) here
              ∙ ap (λ x. notices_between b (place_of x) (run_values g values ts i)) (again i);
        })

  -- ---- A RUN

  pub record TellsFrom (fuel : ℕ) (p b : Place) (values : Shares) (ts : Tapes) (x : RunStop × Stage) : Type 0 where
    pub events : List Event
    pub all : x.1.events ≡ p.stage.events ++ events
    pub told : Tells events (λ i. notices next fuel i (Running b) values ts)
    pub gave : (i : Number) → kept_at o d tapes words long p.stage i ++ handed_in (notices next fuel i (Running b) values ts)
        ≡ kept_at o d tapes words long x.1 i

  pub tellings :
      (fuel : ℕ) (p b : Place) → Stays o d c p → GoAlike p b → (values : Shares) (ts : Tapes) → values ≡ behind d tapes p.stage.gates
      → ts ≡ left_behind d tapes p.stage.gates → (x : RunStop × Stage) → exec w c fuel p.machine p.stage ≡ Some x → TellsFrom fuel p b values ts x
  unfolding exec
  tellings zero p b st alike _ ts e f x h = absurd (none-some _ h)
  tellings (suc fuel) p b st alike values ts e f x h =
      by_run (step w c (next_step p.machine) p.machine p.stage) (none_left o d c may p st) (after_step o d c may p st)
      (subst (TwinBy (in_the_clear o c) (when_told o c) GoAlike EndAlike p b) (same_step o d c may p st) (twins.law p b alike)) h (tellings fuel)
    where
      Later : Type 0
      Later =
          (p b : Place) → Stays o d c p → GoAlike p b → (values : Shares) (ts : Tapes) → values ≡ behind d tapes p.stage.gates
          → ts ≡ left_behind d tapes p.stage.gates → (x : RunStop × Stage) → exec w c fuel p.machine p.stage ≡ Some x → TellsFrom fuel p b values ts x

      nothing_told : (q a : Place) → Final o d c p q → EndAlike q a → (when_told o c).step b [] ≡ Over a
          → (i : Number) → [] ≡ notices next (suc fuel) i (Running b) values ts
      nothing_told q a final ended s i =
          let last = turn_of (when_told o c) (run_dealt d) b (Over a) in
          sym (ap (λ z. by_turn fuel values ts (turn_of (when_told o c) (run_dealt d) b z) i) s
          ∙ ap (λ z. z ++ notices next fuel i (Stopped a) (shares_behind last values ts) (tapes_behind last ts))
          (none_made p.stage q.stage b.stage a.stage alike.stage ended.stage final.told.events _)
          ∙ stopped_notices fuel i a _ _)

      over : (u : Stage) (stop : RunStop) → u.answers ≡ [] → After o d c p (stopped p.machine u stop)
          → TwinBy (in_the_clear o c) (when_told o c) GoAlike EndAlike p b (stopped p.machine u stop) → (stop, u) ≡ x
          → TellsFrom (suc fuel) p b values ts x
      over u effects.Short none final twin h = absurd twin
      over u (Ended k) none final twin h =
          let q = place (Some k) p.machine u in
          record {
            events = [];
            all = ap (λ z. z.1.events) (sym h) ∙ final.told.events ∙ sym (append-nil p.stage.events);
            told = retold (nothing_told q twin.0 final twin.1 twin.2) tells.nothing;
            gave = λ i.
                ap (λ ns. kept_at o d tapes words long p.stage i ++ handed_in ns) (sym (nothing_told q twin.0 final twin.1 twin.2 i))
                ∙ append-nil (kept_at o d tapes words long p.stage i)
                ∙ sym (kept-still o d tapes words long p.stage q.stage st.kinds final.kinds st.stage st.tapes final.stage final.tapes final.more final.gates
                (ap hands final.told.events) i)
                ∙ ap (λ (z : RunStop × Stage). kept_at o d tapes words long z.1 i) h;
          }

      by_run :
          (r : Run Machine) → (stage_of r).answers ≡ [] → After o d c p (went p.machine r)
          → TwinBy (in_the_clear o c) (when_told o c) GoAlike EndAlike p b (went p.machine r) → further r (exec w c fuel) ≡ Some x → Later
          → TellsFrom (suc fuel) p b values ts x
      by_run (Err y) none final twin h later = over y.1 y.0 none final twin (same_Some _ _ h)
      by_run (Ok y) none along twin h later =
          let q = place None y.0 y.1 in
          let a = twin.0 in
          let between = run_dealt d p.stage.gates (gained p.stage.gates q.stage.gates) in
          let now = values_behind o d c tapes words long p q along values ts e f in
          let left = tapes_left o d c tapes words long p q along values ts e f in
          let rest = later q a along.stays twin.1 _ _ now left x (ap (exec w c fuel y.0) (untold_same y.1 none) ∙ h) in
          let here = step_told o d c tapes words long p q st along b a alike.machine alike.stage (twin.1).stage in
          record {
            events = here.events ++ rest.events;
            all = rest.all ∙ ap (λ z. z ++ rest.events) here.gained ∙ append_assoc p.stage.events here.events rest.events;
            gave = λ i.
                ap (λ ns. kept_at o d tapes words long p.stage i ++ handed_in ns)
                (turned fuel values ts _ _ _ _ (follows fuel p b q a st alike along twin.1 values ts e f twin.3) i
                ∙ ap
                (λ v.
                notices_between b a (v i)
                ++ notices next fuel i (Running a) (run_values between values ts) (λ j. drop (needed between j) (ts j)))
                now)
                ∙ ap (λ vs. kept_at o d tapes words long p.stage i ++ vs) (handed-append (notices_between b a (behind d tapes q.stage.gates i)) _)
                ∙ sym (append_assoc (kept_at o d tapes words long p.stage i) (handed_in (notices_between b a (behind d tapes q.stage.gates i))) _)
                ∙ ap (λ vs. vs ++ handed_in (notices next fuel i (Running a) (run_values between values ts) (λ j. drop (needed between j) (ts j))))
                (sym (here.gave i))
                ∙ rest.gave i;
            told = retold
                (λ i.
                ap
                (λ v.
                notices_between b a (v i)
                ++ notices next fuel i (Running a) (run_values between values ts) (λ j. drop (needed between j) (ts j)))
                (sym now)
                ∙ sym (turned fuel values ts _ _ _ _ (follows fuel p b q a st alike along twin.1 values ts e f twin.3) i))
                (here.told rest.events _ rest.told);
          }
