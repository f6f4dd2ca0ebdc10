-- A run of code from a place with other gates.
use Rattle.std.proofs.Common.{◌≡◌, ℕ, zero, suc, List, [], ◌∷◌, ◌++◌, Ok, Err, refl, sym, ◌∙◌, ap}
use Rattle.std.proofs.Math.Seq.{drop-append_seam}
use Rattle.proto_core.specs.declared.party.Number.{Number}
use Rattle.proto_core.specs.Strand.{Notice, Told, Strand, Ends, Acts, then_do}
use Rattle.proto_core.proofs.Strands.{then-regrouped}
use Rattle.gates.specs.declared.gate.Gate.{Gate}
use Rattle.gates.specs.Clear.{Values}
use Rattle.language_model.specs.Effects.{World, Stage, RunStop, Ended, Short, Run}
use Rattle.verified_code.specs.Steps.{Function}
use Rattle.named_values.specs.Machine.{Machine, step}
use Rattle.driven_nodes.specs.Driven.{telling}
use Rattle.driven_nodes.specs.Steps.{Went, On, Over, Wants, place_of, last_of}
use Rattle.code_places.specs.Places.{Place, telling_stage, went, next_step, answers_told, step_told, notices_between}
use Rattle.gate_node.specs.OwnGates.{GatesEnd, Whole, Stuck, own_gates}
use Rattle.named_values.specs.Besides.{ran_behind_others}
use Rattle.named_values.proofs.BesidesSteps.{earlier_gates_change_nothing}
use Rattle.own_code.specs.OwnCode.{From, tell_and_go_on, gates_between, led_by, behind_gates, own_code}
use Rattle.own_code.specs.OwnCode as own
use Rattle.own_code.specs.EarlierGates.{place_with_gates, end_without_gates, without_gates, CodeNeedsNoEarlierGates}

-- what is told makes no difference
pub same_telling :
    (notices : List Notice) (s t : Strand own.Ended) → without_gates s ≡ without_gates t →
    without_gates (telling notices s) ≡ without_gates (telling notices t)
same_telling [] s t h = h
same_telling (n ∷ ns) s t h = ap (Acts (Told n)) (same_telling ns s t h)

module _ (before : List Gate) (p : Place) where
  -- the place that one has come to, where the other gates stood before
  abbrev pub behind : Place → Place
  behind q = place_with_gates (before ++ gates_between p q) q

  abbrev pub went_behind : Went Place → Went Place
  went_behind (On q) = On (behind q)
  went_behind (Over q) = Over (behind q)
  went_behind (Wants q) = Wants (behind q)

  abbrev pub other : Place
  other = place_with_gates before p

  pub gates_alike : (x : Went Place) → gates_between other (place_of (went_behind x)) ≡ gates_between p (place_of x)
  gates_alike (On q) = drop-append_seam before (gates_between p q)
  gates_alike (Over q) = drop-append_seam before (gates_between p q)
  gates_alike (Wants q) = drop-append_seam before (gates_between p q)

  stopped_alike :
      (told : List ℕ) (s : Stage) (stop : RunStop) →
      went p.machine (ran_behind_others before (telling_stage told p.stage) (Err (stop, s))) ≡ went_behind (went p.machine (Err (stop, s)))
  stopped_alike told s (Ended e) = refl
  stopped_alike told s Short = refl

  went_alike :
      (told : List ℕ) (r : Run Machine) →
      went p.machine (ran_behind_others before (telling_stage told p.stage) r) ≡ went_behind (went p.machine r)
  went_alike told (Ok x) = refl
  went_alike told (Err e) = stopped_alike told e.1 e.0

  pub step_alike : (w : World) (c : List Function) (told : List ℕ) → step_told w c other told ≡ went_behind (step_told w c p told)
  step_alike w c told =
      let words = answers_told told (next_step p.machine) p.machine in
      ap (went p.machine) (earlier_gates_change_nothing w c p.machine (telling_stage words p.stage) before)
      ∙ went_alike words (step w c (next_step p.machine) p.machine (telling_stage words p.stage))

-- from any place that such a miner goes on from
abbrev GoesOnAlike : From Place → Type 0
GoesOnAlike on = (q : Place) (before : List Gate) (values : Values) (tape : List ℕ)
    → without_gates (on q values tape) ≡ without_gates (on (place_with_gates before q) values tape)

module _ (on : From Place) (alike : GoesOnAlike on) (before : List Gate) (p : Place) where
  told_alike :
      (x : Went Place) (values : Values) (tape : List ℕ) →
      without_gates (tell_and_go_on on p x values tape) ≡ without_gates (tell_and_go_on on (other before p) (went_behind before p x) values tape)
  told_alike (On q) values tape =
      same_telling (notices_between p q values) _ _ (alike q (before ++ gates_between p q) values tape)
  told_alike (Over q) values tape = same_telling (notices_between p q values) _ _ refl
  told_alike (Wants q) values tape = same_telling (notices_between p q values) _ _ refl

  led_alike :
      (w : World) (c : List Function) (x : Went Place) (values : Values) →
      led_by w c values (other before p) (went_behind before p x) ≡ went_behind before p (led_by w c values p x)
  led_alike w c (On q) values = refl
  led_alike w c (Over q) values = refl
  led_alike w c (Wants q) values = step_alike before p w c (last_of values)

  behind_alike :
      (w : World) (c : List Function) (x : Went Place) (h : GatesEnd) →
      without_gates (behind_gates w c on p x h) ≡ without_gates (behind_gates w c on (other before p) (went_behind before p x) h)
  behind_alike w c x Stuck = refl
  behind_alike w c x (Whole values tape) =
      told_alike (led_by w c values p x) values tape
      ∙ ap (λ y. without_gates (tell_and_go_on on (other before p) y values tape)) (sym (led_alike w c x values))

-- ---- TURN AFTER TURN

module _ (w : World) (c : List Function) (i : Number) (dealt : Values) where
  -- the gates of a step, and what is after them
  abbrev turn : From Place → Place → Went Place → Values → List ℕ → Strand own.Ended
  turn on p x values tape = then_do (own_gates i dealt (gates_between p (place_of x)) values tape) (behind_gates w c on p x)

  turn_alike :
      (on : From Place) → GoesOnAlike on → (before : List Gate) (p : Place) (x : Went Place) (values : Values) (tape : List ℕ) →
      without_gates (turn on p x values tape) ≡ without_gates (turn on (other before p) (went_behind before p x) values tape)
  turn_alike on alike before p x values tape =
      let q : Place = other before p in
      let y : Went Place = went_behind before p x in
      let gates : List Gate = gates_between p (place_of x) in
      then-regrouped (own_gates i dealt gates values tape) (behind_gates w c on p x) (λ e. Ends (end_without_gates e))
      ∙ (λ d. then_do (own_gates i dealt gates values tape) (λ h. behind_alike on alike before p w c x h d))
      ∙ sym (then-regrouped (own_gates i dealt gates values tape) (behind_gates w c on q y) (λ e. Ends (end_without_gates e)))
      ∙ ap (λ v. without_gates (then_do (own_gates i dealt v values tape) (behind_gates w c on q y))) (sym (gates_alike before p x))

  pub runs_alike :
      (fuel : ℕ) (p : Place) (before : List Gate) (values : Values) (tape : List ℕ) →
      CodeNeedsNoEarlierGates w c i dealt fuel p before values tape
  runs_alike zero p before values tape = refl
  runs_alike (suc fuel) p before values tape =
      turn_alike (own_code w c i dealt fuel) (runs_alike fuel) before p (step_told w c p []) values tape
      ∙ ap (λ x. without_gates (turn (own_code w c i dealt fuel) (other before p) x values tape)) (sym (step_alike before p w c []))
