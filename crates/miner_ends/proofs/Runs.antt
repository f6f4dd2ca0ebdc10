-- Code that may run, by a miner with shares and a tape of the right sizes: whatever messages come, it ends as evaluation can.
use Rattle.std.proofs.Common.{◌≡◌, ℕ, zero, suc, ◌+◌, ◌≤◌, List, [], ◌∷◌, ◌++◌, length, Ok, Err, Some, None}
use Rattle.std.proofs.Common.{refl, sym, ◌∙◌, ap, subst, arith, append_assoc}
use Rattle.std.specs.Prelude.{Option, if◌then◌else◌, slice_get}
use Rattle.std.proofs.lemmas.Bool.{le-leb}
use Rattle.std.proofs.lemmas.Option.{none-some}
use Rattle.sc_text.specs.declared.end.Ending.{Ending}
use Rattle.proto_core.specs.declared.party.Number.{Number}
use Rattle.proto_core.specs.declared.party.Number.TheVariants.{One, Two, Three}
use Rattle.proto_core.specs.Lists.{AreWords}
use Rattle.proto_core.specs.Strand.{Notice, Strand, Ends, then_do}
use Rattle.protocol_model.specs.Gates.{sizes_of, needed}
use Rattle.protocol_model.proofs.Sizes.{needed-append, past_end}
use Rattle.gates.specs.declared.gate.Gate.{Gate}
use Rattle.gates.specs.declared.gate.Gate.TheVariants.{Open}
use Rattle.gates.specs.Clear.{Values}
use Rattle.gates.specs.Counts.{Miner, Miner1, Miner2, Miner3, size_of}
use Rattle.shared_gates.specs.Shares.{Kind}
use Rattle.shared_gates.specs.Model.{AllSizesSuit, run_gates, sizes_after, sizes_made, miner_of}
use Rattle.shared_gates.proofs.Drawn.{drawn-counted}
use Rattle.shared_gates.proofs.GatesBehind.{sizes-then, gates-then}
use Rattle.gate_laws.specs.GateRuns.{model_gates}
use Rattle.gate_laws.proofs.GateRunLaws.{run-needs}
use Rattle.language_model.specs.Effects.{Words, World, Answers, Stage, RunStop, Run, words_each}
use Rattle.language_model.specs.Values.{Value, size, ring_for, gate_size}
use Rattle.language_model.specs.Effects as effects
use Rattle.language_model.specs.Tapes.{AtMost}
use Rattle.language_model.specs.Reports.{beginning, dealing, reported, not_dealt}
use Rattle.language_model.proofs.Onward.{Went, stage_of}
use Rattle.verified_code.specs.Steps.{Function}
use Rattle.code_model.specs.Machine.{Machine, step, exec, further, start}
use Rattle.code_model.specs.Meaning.{fuel, stopped_or, report_at, mean_in, AreForward}
use Rattle.code_model.specs.Kinded.{IsWithin}
use Rattle.code_model.specs.Laws.{StaysAt}
use Rattle.code_model.proofs.Ends.{starts}
use Rattle.code_model.proofs.Kept.{keeps, begins}
use Rattle.code_runs.proofs.Onwards.{step_onward}
use Rattle.gate_laws.specs.Dealt.{Dealt, drawn_by}
use Rattle.gate_laws.specs.Facts.{nothing_handed, none_of, run_at, IsAt}
use Rattle.gate_laws.specs.Machines.{MachineStands, Arrives, ArrivesAt}
use Rattle.gate_laws.specs.Laws.{MayRun, IsDealing}
use Rattle.gate_laws.proofs.Walks.{keep_standing}
use Rattle.gate_laws.proofs.Steps.{start_stands}
use Rattle.driven_nodes.specs.Driven.{telling}
use Rattle.driven_nodes.specs.Steps.{Went as Led, On, Over, Wants, Stopped, place_of, last_of}
use Rattle.code_places.specs.Places.{Place, place, telling_stage, went, next_step, answers_told, first_place, notices_between}
use Rattle.code_places.proofs.Turns.{gained_more}
use Rattle.gate_node.specs.OwnGates.{GatesEnd, Whole, Stuck, own_gates}
use Rattle.gate_node.proofs.Always.{EndsAlways, always-then}
use Rattle.own_code.specs.OwnCode.{Ended, Reached, gates_between, tell_and_go_on, own_code, behind_gates}
use Rattle.own_code.proofs.Told.{same_when_told}
use Rattle.miner_ends.specs.Ends.{IsAnEnd, EndsAsItCan}
use Rattle.miner_ends.proofs.Hears.{longer, HearsAt}
use Rattle.miner_ends.proofs.HearSteps.{step_hears}
use Rattle.miner_ends.proofs.Answers.{elements_are, words_are}
use Rattle.miner_ends.proofs.OwnEnds.{both, draws_of, IsGone, gates_go, LastWords, opened_last, last_sized}
use Rattle.miner_ends.proofs.Openings.{WantsNone, LeavesNone, OpensSized}
use Rattle.miner_ends.proofs.Steps.{Opens, opens, none_left_over, wanted, told_wants, told_leaves, opened_sized}

-- ---- gates after gates

suits_behind : (ds sizes : List ℕ) (xs ys : List Gate) → AllSizesSuit ds sizes (xs ++ ys) → AllSizesSuit ds (sizes_after ds sizes xs) ys
suits_behind ds sizes [] ys h = h
suits_behind ds sizes (gate ∷ xs) ys h = suits_behind ds (sizes ++ sizes_made ds sizes gate) xs ys h.1

at_most : (a b : Words) → AtMost a b → (m : Miner) → drawn_by a m ≤ drawn_by b m
at_most a b h Miner1 = h.0
at_most a b h Miner2 = h.1
at_most a b h Miner3 = h.2

telling_ends : {A : Type 0} (P : A → Type 0) (notices : List Notice) (s : Strand A) → EndsAlways P s → EndsAlways P (telling notices s)
telling_ends P [] s h = h
telling_ends P (n ∷ ns) s h = telling_ends P ns s h

-- no word
no_words : AreWords []
no_words = past_end

module _
    (i : Number) (w : World) (c : List Function) (d : Dealt) (may : MayRun w d c) (source : w.source ≡ Answers) (dealt : Values)
    (same : sizes_of dealt ≡ sizes_of d.inputs) (budget : ℕ)
  where
    abbrev N : ℕ
    N = fuel c budget

    abbrev all_from : List ℕ → Option (RunStop × Stage)
    all_from answers = exec w c N (start c) (beginning budget answers)

    abbrev sizes_at : List Gate → List ℕ
    sizes_at gates = sizes_after (sizes_of d.inputs) [] gates

    -- the step from a place, told these words
    abbrev one : Place → List ℕ → Run Machine
    one p told = step w c (next_step p.machine) p.machine (telling_stage told p.stage)

    retold : (kinds : List Kind) (s : Stage) (told : List ℕ) → AreWords told → IsAt w d kinds none_of s → IsAt w d kinds none_of (telling_stage told s)
    retold kinds s told words at =
        record { formed = at.formed; made = at.made; drawn = at.drawn; answers = words; handed = at.handed; opened = at.opened }

    -- where a run of code stands, with what is left to it
    record At (k : ℕ) (p : Place) (values : Values) (tape : List ℕ) : Type 0 where
      within : IsWithin c p.machine
      kinds : List Kind
      at : IsAt w d kinds none_of p.stage
      stands : MachineStands (run_at w d kinds p.stage) p.machine
      few : AtMost p.stage.drawn w.lengths
      sizes : sizes_of values ≡ sizes_at p.stage.gates
      enough : drawn_by w.lengths (miner_of i) ≤ length tape + drawn_by p.stage.drawn (miner_of i)
      answers : List ℕ
      so_far : (more : List ℕ) → all_from (answers ++ more) ≡ exec w c k p.machine (telling_stage more p.stage)

    -- ---- a later stage, with these gates more

    record Later (p : Place) (g : List Gate) (u : Stage) : Type 0 where
      kinds : List Kind
      at : IsAt w d kinds none_of u
      gates : u.gates ≡ p.stage.gates ++ g
      few : AtMost u.drawn w.lengths

    words_then : (xs ys : List Gate) → AllSizesSuit (sizes_of d.inputs) [] xs → AllSizesSuit (sizes_of d.inputs) (sizes_at xs) ys
        → needed (run_gates d.shares (sizes_of d.inputs) [] (xs ++ ys)) i
        ≡ needed (run_gates d.shares (sizes_of d.inputs) [] xs) i + needed (run_gates (λ k. dealt) (sizes_of d.inputs) (sizes_at xs) ys) i
    words_then xs ys h k =
        ap (λ gs. needed gs i) (gates-then d.shares (sizes_of d.inputs) [] xs ys)
        ∙ needed-append (run_gates d.shares (sizes_of d.inputs) [] xs) (run_gates d.shares (sizes_of d.inputs) (sizes_at xs) ys) i
        ∙ ap (λ n. needed (run_gates d.shares (sizes_of d.inputs) [] xs) i + n)
        (drawn-counted d.shares (sizes_of d.inputs) (sizes_at xs) ys i k ∙ sym (drawn-counted (λ k. dealt) (sizes_of d.inputs) (sizes_at xs) ys i k))

    module _ {k : ℕ} (p : Place) (values : Values) (tape : List ℕ) (at : At k p values tape) where
      -- what a step comes to
      came_to : (told : List ℕ) → AreWords told → ArrivesAt w d (telling_stage told p.stage) at.kinds (one p told)
      came_to told words =
          keep_standing w d c may p.machine at.within at.kinds (telling_stage told p.stage) (retold at.kinds p.stage told words at.at) at.stands

      goes : (told : List ℕ) → Went w (telling_stage told p.stage) (stage_of (one p told))
      goes told = (step_onward w c p.machine (next_step p.machine)).from (telling_stage told p.stage)

      abbrev new_gates : (told : List ℕ) (r : Run Machine) → ArrivesAt w d (telling_stage told p.stage) at.kinds r → List Gate
      new_gates told (Ok x) h = h.grown.gates
      new_gates told (Err e) h = h.grown.gates

      later : (told : List ℕ) (r : Run Machine) (h : ArrivesAt w d (telling_stage told p.stage) at.kinds r)
          → Went w (telling_stage told p.stage) (stage_of r)
          → Later p (new_gates told r h) (stage_of r)
      later told (Ok x) h g = record { kinds = h.later; at = h.stage; gates = h.grown.more_gates; few = g.tapes at.few }
      later told (Err e) h g = record { kinds = h.later; at = h.stage; gates = h.grown.more_gates; few = g.tapes at.few }

      -- its gates suit, and the tape suffices for them
      module _ (g : List Gate) (u : Stage) (l : Later p g u) where
        suit_all : AllSizesSuit (sizes_of d.inputs) (sizes_at p.stage.gates) g
        suit_all =
            suits_behind (sizes_of d.inputs) [] p.stage.gates g (subst (λ gs. AllSizesSuit (sizes_of d.inputs) [] gs) l.gates l.at.formed.suits)

        drew : drawn_by u.drawn (miner_of i) ≡ drawn_by p.stage.drawn (miner_of i)
            + needed (run_gates (λ k. dealt) (sizes_of d.inputs) (sizes_at p.stage.gates) g) i
        drew =
            let old = run-needs (run_at w d at.kinds p.stage) at.at.formed i in
            let new = run-needs (run_at w d l.kinds u) l.at.formed i in
            let was = at.at.drawn i in
            let is = l.at.drawn i in
            let more : needed (model_gates (run_at w d l.kinds u)) i
            ≡ needed (model_gates (run_at w d at.kinds p.stage)) i
            + needed (run_gates (λ k. dealt) (sizes_of d.inputs) (sizes_at p.stage.gates) g) i =
            ap (λ gs. needed (run_gates d.shares (sizes_of d.inputs) [] gs) i) l.gates ∙ words_then p.stage.gates g at.at.formed.suits suit_all in
            omega (arith, old, new, was, is, more)

        same_draws : draws_of i dealt (sizes_of values) g ≡ needed (run_gates (λ k. dealt) (sizes_of d.inputs) (sizes_at p.stage.gates) g) i
        same_draws =
            ap (λ ds. needed (run_gates (λ k. dealt) ds (sizes_of values) g) i) same
            ∙ ap (λ ns. needed (run_gates (λ k. dealt) (sizes_of d.inputs) ns g) i) at.sizes

        reach : draws_of i dealt (sizes_of values) g ≤ length tape
        reach =
            let most = at_most u.drawn w.lengths l.few (miner_of i) in
            let enough = at.enough in
            let all = drew in
            let draws = same_draws in
            omega (arith, most, enough, all, draws)

        suit : AllSizesSuit (sizes_of dealt) (sizes_of values) g
        suit =
            subst (λ ds. AllSizesSuit ds (sizes_of values) g) (sym same)
            (subst (λ ns. AllSizesSuit (sizes_of d.inputs) ns g) (sym at.sizes) suit_all)

        through : EndsAlways (IsGone i dealt g values tape) (own_gates i dealt g values tape)
        through = gates_go i dealt g values tape suit reach

        -- and after them
        sizes_then_all : (all : Values) (rest : List ℕ) → IsGone i dealt g values tape (Whole all rest) → sizes_of all ≡ sizes_at (p.stage.gates ++ g)
        sizes_then_all all rest gone =
            gone.0 ∙ ap (λ ds. sizes_after ds (sizes_of values) g) same ∙ ap (λ ns. sizes_after (sizes_of d.inputs) ns g) at.sizes
            ∙ sym (sizes-then (sizes_of d.inputs) [] p.stage.gates g)

        enough_then : (all : Values) (rest : List ℕ) → IsGone i dealt g values tape (Whole all rest)
            → drawn_by w.lengths (miner_of i) ≤ length rest + drawn_by u.drawn (miner_of i)
        enough_then all rest gone =
            let enough = at.enough in
            let all_drawn = drew in
            let draws = same_draws in
            let left = gone.1 in
            omega (arith, enough, all_drawn, draws, left)

    -- ---- where a step leads

    module _ (k : ℕ) (p : Place) (values : Values) (tape : List ℕ) (at : At (suc k) p values tape) where
      heard : (told more : List ℕ) → HearsAt more (one p told) (one p (told ++ more))
      heard told more = (step_hears w c p.machine (next_step p.machine)).from (telling_stage told p.stage) more

      run_so_far : (told more : List ℕ) → all_from ((at.answers ++ told) ++ more) ≡ further (one p (told ++ more)) (exec w c k)
      unfolding exec
      run_so_far told more = ap all_from (append_assoc at.answers told more) ∙ at.so_far (told ++ more)

      -- on
      module _ (told : List ℕ) (words : AreWords told) (m : Machine) (u : Stage) (is : one p told ≡ Ok (m, u)) (none : u.answers ≡ []) where
        arrived : Arrives w d (telling_stage told p.stage) u at.kinds m
        arrived = subst (ArrivesAt w d (telling_stage told p.stage) at.kinds) is (came_to p values tape at told words)

        goes_further : (more : List ℕ) → all_from ((at.answers ++ told) ++ more) ≡ exec w c k m (telling_stage more u)
        goes_further more =
            run_so_far told more
            ∙ ap (λ r. further r (exec w c k)) (subst (λ r. HearsAt more r (one p (told ++ more))) is (heard told more))
            ∙ ap (λ ws. exec w c k m (telling_stage (ws ++ more) u)) none

        goes_on : (g : List Gate) (l : Later p g u) (all : Values) (rest : List ℕ) → IsGone i dealt g values tape (Whole all rest)
            → At k (place None m u) all rest
        goes_on g l all rest gone =
            record {
              within = subst (StaysAt c) is (keeps w c may.fitting may.singles p.machine at.within (telling_stage told p.stage)).1;
              kinds = arrived.later;
              at = retold arrived.later u [] no_words arrived.stage;
              stands = arrived.stands;
              few = l.few;
              sizes = sizes_then_all p values tape at g u l all rest gone ∙ ap sizes_at (sym l.gates);
              enough = enough_then p values tape at g u l all rest gone;
              answers = at.answers ++ told;
              so_far = goes_further;
            }

      -- to its end
      stops : (told : List ℕ) (e : Ending) (u : Stage) → one p told ≡ Err (effects.Ended e, u) → IsAnEnd w c budget (place (Some e) p.machine u)
      stops told e u is =
          record {
            ending = e;
            ended = refl;
            answers = (at.answers ++ told) ++ [];
            reported = λ dealt.
                let ran : all_from ((at.answers ++ told) ++ []) ≡ Some (effects.Ended e, longer [] u) =
                run_so_far told [] ∙ ap (λ r. further r (exec w c k)) (subst (λ r. HearsAt [] r (one p (told ++ []))) is (heard told [])) in
                let report : mean_in w c budget ((at.answers ++ told) ++ []) ≡ reported w budget (effects.Ended e) (longer [] u) =
                ap
                (λ b. if b then report_at w budget (stopped_or (beginning budget ((at.answers ++ told) ++ [])) (all_from ((at.answers ++ told) ++ [])))
                else not_dealt w) (le-leb (dealing w) w.dealer dealt)
                ∙ ap (λ o. report_at w budget (stopped_or (beginning budget ((at.answers ++ told) ++ [])) o)) ran in
                record {
                  stop = ap (λ r. r.stop) report;
                  cost = ap (λ r. r.cost) report;
                  drawn = ap (λ r. r.drawn) report;
                  opened = ap (λ r. r.opened) report;
                };
          }

    -- ---- step after step

    abbrev own : (k : ℕ) (p : Place) (values : Values) (tape : List ℕ) → Strand Ended
    own k p values tape = own_code w c i dealt k p values tape

    abbrev EndsWell : Strand Ended → Type 0
    EndsWell s = EndsAlways (EndsAsItCan w c budget) s

    module _
        (k : ℕ) (rest_ends : (q : Place) (all : Values) (rest : List ℕ) → At k q all rest → EndsWell (own k q all rest)) (p : Place) (values : Values)
        (tape : List ℕ) (at : At (suc k) p values tape)
      where
        abbrev behind : Led Place → GatesEnd → Strand Ended
        behind led h = behind_gates w c (own_code w c i dealt k) p led h

        -- after the gates of a step
        pass : (P : GatesEnd → Type 0) (g : List Gate) (u : Stage) → Later p g u → EndsAlways P (own_gates i dealt g values tape) → (led : Led Place)
            → (place_of led).stage.gates ≡ u.gates → ((h : GatesEnd) → P h → EndsWell (behind led h))
            → EndsWell (then_do (own_gates i dealt (gates_between p (place_of led)) values tape) (behind led))
        pass P g u l through led e more =
            let is : gates_between p (place_of led) ≡ g = gained_more p.stage.gates g (place_of led).stage.gates (e ∙ l.gates) in
            subst (λ gs. EndsWell (then_do (own_gates i dealt gs values tape) (behind led))) (sym is)
            (always-then P (EndsAsItCan w c budget) (own_gates i dealt g values tape) (behind led) through more)

        arrives_by : (told : List ℕ) → AreWords told → (r : Run Machine) → one p told ≡ r → ArrivesAt w d (telling_stage told p.stage) at.kinds r
        arrives_by told words r is = subst (ArrivesAt w d (telling_stage told p.stage) at.kinds) is (came_to p values tape at told words)

        later_by : (told : List ℕ) (words : AreWords told) (r : Run Machine) (is : one p told ≡ r)
            → Later p (new_gates p values tape at told r (arrives_by told words r is)) (stage_of r)
        later_by told words r is =
            later p values tape at told r (arrives_by told words r is)
            (subst (λ r. Went w (telling_stage told p.stage) (stage_of r)) is (goes p values tape at told))

        -- a step that goes on untold
        on_ends : (m : Machine) (u : Stage) → one p [] ≡ Ok (m, u)
            → EndsWell (then_do (own_gates i dealt (gates_between p (place None m u)) values tape) (behind (On (place None m u))))
        on_ends m u is =
            pass (IsGone i dealt g values tape) g u l (through p values tape at g u l) (On (place None m u)) refl (λ h gone. by h gone)
          where
            g : List Gate
            g = new_gates p values tape at [] (Ok (m, u)) (arrives_by [] no_words (Ok (m, u)) is)

            l : Later p g u
            l = later_by [] no_words (Ok (m, u)) is

            none : u.answers ≡ []
            none = subst LeavesNone is (none_left_over w c p.machine source (telling_stage [] p.stage) refl)

            by : (h : GatesEnd) → IsGone i dealt g values tape h → EndsWell (behind (On (place None m u)) h)
            by Stuck gone = absurd gone
            by (Whole all rest) gone =
                telling_ends (EndsAsItCan w c budget) (notices_between p (place None m u) all) (own k (place None m u) all rest)
                (rest_ends (place None m u) all rest (goes_on k p values tape at [] no_words m u is none g l all rest gone))

        -- one with which the run is over
        over_ends : (e : Ending) (u : Stage) → one p [] ≡ Err (effects.Ended e, u)
            → EndsWell (then_do (own_gates i dealt (gates_between p (place (Some e) p.machine u)) values tape) (behind (Over (place (Some e) p.machine u))))
        over_ends e u is =
            pass (IsGone i dealt g values tape) g u l (through p values tape at g u l) (Over (place (Some e) p.machine u)) refl (λ h gone. by h gone)
          where
            g : List Gate
            g = new_gates p values tape at [] (Err (effects.Ended e, u)) (arrives_by [] no_words (Err (effects.Ended e, u)) is)

            l : Later p g u
            l = later_by [] no_words (Err (effects.Ended e, u)) is

            by : (h : GatesEnd) → IsGone i dealt g values tape h → EndsWell (behind (Over (place (Some e) p.machine u)) h)
            by Stuck gone = absurd gone
            by (Whole all rest) gone =
                telling_ends (EndsAsItCan w c budget) (notices_between p (place (Some e) p.machine u) all)
                (Ends (Reached (Stopped (place (Some e) p.machine u)) all)) (stops k p values tape at [] e u is)

        -- one that wants words, told the value that was opened
        module _ (h : Stage) (is : one p [] ≡ Err (effects.Short, h)) where
          o : Opens w c p.machine source (telling_stage [] p.stage) h
          o = opens w c p.machine source (telling_stage [] p.stage) h is

          sized : OpensSized w source (p.machine.registers o.is.1) d (at.stands.registers o.is.1).1 at.kinds (telling_stage [] p.stage)
              (retold at.kinds p.stage [] no_words at.at) (at.stands.registers o.is.1).0 h
          sized =
              opened_sized w c p.machine source (telling_stage [] p.stage) h o d at.kinds (retold at.kinds p.stage [] no_words at.at) at.stands

          abbrev opening_gates : List Gate
          opening_gates = sized.front ++ Open (ring_for (p.machine.registers o.is.1).shape.element) sized.number ∷ []

          halfway : Later p opening_gates h
          halfway =
              let l = later_by [] no_words (Err (effects.Short, h)) is in
              record { kinds = l.kinds; at = l.at; gates = sized.gates; few = l.few }

          abbrev opened_value : Value
          opened_value = p.machine.registers o.is.1

          -- as many words as the value has in the gates
          counted : (all : Values) (rest : List ℕ) → IsGone i dealt opening_gates values tape (Whole all rest)
              → length (last_of all) ≡ gate_size opened_value.shape.element (size opened_value)
          counted all rest gone =
              let ns = sizes_at (p.stage.gates ++ sized.front) in
              let last : List Gate = Open (ring_for (p.machine.registers o.is.1).shape.element) sized.number ∷ [] in
              last_sized all ns (size_of ns sized.number)
              (sizes_then_all p values tape at opening_gates h halfway all rest gone
              ∙ ap sizes_at (sym (append_assoc p.stage.gates sized.front last))
              ∙ sizes-then (sizes_of d.inputs) [] (p.stage.gates ++ sized.front) last)
              ∙ sized.sized

          module _ (all : Values) (rest : List ℕ) (gone : IsGone i dealt opening_gates values tape (Whole all rest)) (whole : AreWords (last_of all)) where
            -- the elements of the words that were opened
            abbrev told : List ℕ
            told = answers_told (last_of all) (next_step p.machine) p.machine

            words : AreWords told
            words = words_are p.machine o.is.0 o.is.1 (next_step p.machine) o.is.2 (last_of all) whole

            many : length told ≡ wanted w c p.machine source (telling_stage [] p.stage) h o
            many = elements_are p.machine o.is.0 o.is.1 (next_step p.machine) o.is.2 (last_of all) (counted all rest gone)

            same_gates : (r : Run Machine) → one p told ≡ r → (place_of (went p.machine r)).stage.gates ≡ p.stage.gates ++ opening_gates
            same_gates r e =
                subst (λ r. (place_of (went p.machine r)).stage.gates ≡ p.stage.gates ++ opening_gates) e
                (same_when_told w c p (place None p.machine h) (last_of all) (ap (went p.machine) is) ∙ sized.gates)

            told_ends : (r : Run Machine) → one p told ≡ r → EndsWell (tell_and_go_on (own_code w c i dealt k) p (went p.machine r) all rest)
            told_ends (Ok x) e =
                let l = later_by told words (Ok x) e in
                let same_l : Later p opening_gates x.1 = record { kinds = l.kinds; at = l.at; gates = same_gates (Ok x) e; few = l.few } in
                let none : (x.1).answers ≡ [] =
                subst LeavesNone e (told_leaves w c p.machine source (telling_stage [] p.stage) h o (telling_stage told p.stage) many) in
                telling_ends (EndsAsItCan w c budget) (notices_between p (place None x.0 x.1) all) (own k (place None x.0 x.1) all rest)
                (rest_ends (place None x.0 x.1) all rest (goes_on k p values tape at told words x.0 x.1 e none opening_gates same_l all rest gone))
            told_ends (Err (effects.Ended ending, u)) e =
                telling_ends (EndsAsItCan w c budget) (notices_between p (place (Some ending) p.machine u) all)
                (Ends (Reached (Stopped (place (Some ending) p.machine u)) all)) (stops k p values tape at told ending u e)
            told_ends (Err (effects.Short, u)) e =
                absurd
                (subst WantsNone e (told_wants w c p.machine source (telling_stage [] p.stage) h o (telling_stage told p.stage) many))

          short_ends : EndsWell
              (then_do (own_gates i dealt (gates_between p (place None p.machine h)) values tape) (behind (Wants (place None p.machine h))))
          short_ends =
              pass (λ x. IsGone i dealt opening_gates values tape x × LastWords x) opening_gates h halfway
              (both (IsGone i dealt opening_gates values tape) LastWords (own_gates i dealt opening_gates values tape)
              (through p values tape at opening_gates h halfway)
              (opened_last i dealt (ring_for (p.machine.registers o.is.1).shape.element) sized.number sized.front values tape))
              (Wants (place None p.machine h)) refl (λ x gone. by x gone.0 gone.1)
            where
              by : (x : GatesEnd) → IsGone i dealt opening_gates values tape x → LastWords x → EndsWell (behind (Wants (place None p.machine h)) x)
              by Stuck gone whole = absurd gone
              by (Whole all rest) gone whole = told_ends all rest gone whole (one p (answers_told (last_of all) (next_step p.machine) p.machine)) refl

        step_ends : (r : Run Machine) → one p [] ≡ r
            → EndsWell (then_do (own_gates i dealt (gates_between p (place_of (went p.machine r))) values tape) (behind (went p.machine r)))
        step_ends (Ok x) is = on_ends x.0 x.1 is
        step_ends (Err (effects.Ended e, u)) is = over_ends e u is
        step_ends (Err (effects.Short, h)) is = short_ends h is

    module _ (forward : AreForward c) where
      code_ends : (k : ℕ) (p : Place) (values : Values) (tape : List ℕ) → At k p values tape → EndsWell (own k p values tape)
      unfolding exec
      code_ends zero p values tape at =
          let last = starts w c forward (beginning budget (at.answers ++ [])) in absurd (none-some last.0 (sym (at.so_far []) ∙ last.1))
      code_ends (suc k) p values tape at = step_ends k (λ q all rest there. code_ends k q all rest there) p values tape at (one p []) refl

      module _ (dealing_is : IsDealing d) (main : Function) (first : slice_get c 0 ≡ Some main) (tape : List ℕ)
          (long : drawn_by w.lengths (miner_of i) ≤ length tape) where
        nothing_drawn : (j : Number) → drawn_by (words_each 0) (miner_of j) ≡ 0
        nothing_drawn One = refl
        nothing_drawn Two = refl
        nothing_drawn Three = refl

        begins_at : IsAt w d [] none_of (beginning budget [])
        begins_at =
            record {
              formed = record { dealt_held = dealing_is.held; dealt_sized = dealing_is.sized; kinded = tt; suits = tt; counted = refl };
              made = refl;
              drawn = nothing_drawn;
              answers = no_words;
              handed = λ values fit. nothing_handed;
              opened = λ clear values fit. refl;
            }

        at_first : At N (first_place c budget) [] tape
        at_first =
            record {
              within = begins c may.fitting main first;
              kinds = [];
              at = begins_at;
              stands = start_stands (run_at w d [] (beginning budget [])) (slice_get c 0);
              few = (omega arith, omega arith, omega arith);
              sizes = refl;
              enough = let none = nothing_drawn i in omega (arith, long, none);
              answers = [];
              so_far = λ more. refl;
            }

        pub run_ends : EndsWell (own N (first_place c budget) [] tape)
        run_ends = code_ends N (first_place c budget) [] tape at_first
