-- Code is run alike on two lists of values that have the same of those that its machine names.
use Rattle.std.proofs.Common.{◌≡◌, ℕ, zero, suc, ◌+◌, ◌-◌, ◌≤◌, List, [], ◌∷◌, ◌++◌, length, drop, inl, inr, Ok, Err}
use Rattle.std.proofs.Common.{refl, sym, ◌∙◌, ap, subst, arith, append-nil, length-append}
use Rattle.std.proofs.lemmas.List.{drop_at}
use Rattle.proto_core.specs.declared.party.Number.{Number}
use Rattle.proto_core.specs.Strand.{Notice, Strand, Ends, then_do}
use Rattle.protocol_model.specs.Gates.{nth_value}
use Rattle.gates.specs.declared.gate.Gate.{Gate}
use Rattle.gates.specs.Clear.{Values}
use Rattle.gates.specs.Counts.{made_by_all}
use Rattle.language_model.specs.Effects.{World, RunStop, Short, Run}
use Rattle.language_model.specs.Effects as effect
use Rattle.verified_code.specs.Steps.{Function}
use Rattle.named_values.specs.Machine.{Machine, step}
use Rattle.driven_nodes.specs.Driven.{telling}
use Rattle.driven_nodes.specs.Steps.{Went, On, Over, Wants, place_of, stand_of, gained, last_of}
use Rattle.code_places.specs.Places.{Place, telling_stage, stopped, went, next_step, answers_told, step_told, notices_between, where_made, told_by}
use Rattle.code_places.proofs.Turns.{gained_more}
use Rattle.gate_node.specs.OwnGates.{GatesEnd, Whole, Stuck, own_gates}
use Rattle.gate_node.proofs.Always.{then-assoc, then-same}
use Rattle.named_values.specs.Named.{Numbers, or_from, AllTake, MachineNames, AreAmong}
use Rattle.named_values.specs.Laws.{HaveSame, Grows, Arrives}
use Rattle.named_values.proofs.Effects.{HasFrom}
use Rattle.named_values.proofs.Steps.{step_within}
use Rattle.own_code.specs.OwnCode.{Ended, From, go_on, tell_and_go_on, gates_between, led_by, behind_gates, own_code}
use Rattle.own_code.specs.LettingGo.{HasBehind, with_before, forget, without_values, IsHeld}
use Rattle.gate_node.proofs.Holding.{same_words, as_many_behind, same_behind}
use Rattle.own_code.proofs.OwnGates.{gates_need}
use Rattle.own_code.proofs.Made.{gates_count}
use Rattle.own_code.proofs.Told.{same_when_told}

-- ---- THE LAST VALUE

module _ (values held : Values) (as_many : length held ≡ length values) (last : last_of values ≡ last_of held) where
  pub same_last : (made : Values) → last_of (values ++ made) ≡ last_of (held ++ made)
  same_last [] = ap last_of (append-nil values) ∙ last ∙ ap last_of (sym (append-nil held))
  same_last (x ∷ xs) =
      let made : Values = x ∷ xs in
      let more : length (values ++ made) ≡ length values + suc (length xs) = length-append values made in
      let k : ℕ = length (values ++ made) - 1 in
      let past : length values ≤ k = omega (arith, more) in
      same_words (values ++ made) (held ++ made) k (same_behind values held as_many made k (inr past))
      ∙ ap (λ n. nth_value (held ++ made) (n - 1)) (sym (as_many_behind values held as_many made))

-- ---- WITHOUT THE VALUES

abbrev forgotten : Ended → Strand Ended
forgotten e = Ends (forget e)

telling_then : (ts : List Notice) (s : Strand Ended) → without_values (telling ts s) ≡ telling ts (without_values s)
telling_then [] s = refl
telling_then (t ∷ ts) s = ap (telling (t ∷ [])) (telling_then ts s)

-- ---- WHERE A STEP LEADS

abbrev Leads : Numbers → Place → Went Place → Type 0
Leads N p (On q) = Grows N p.stage q.stage × AreAmong (MachineNames q.machine) N
Leads N p (Over q) = Grows N p.stage q.stage
Leads N p (Wants q) = Grows N p.stage q.stage

grown : (N : Numbers) (p : Place) (z : Went Place) → Leads N p z → Grows N p.stage (place_of z).stage
grown N p (On q) h = h.0
grown N p (Over q) h = h
grown N p (Wants q) h = h

module _ (w : World) (c : List Function) where
  module _ (N : Numbers) (p : Place) (among : AreAmong (MachineNames p.machine) N) (new : HasFrom N p.stage.made) where
    leads_by : (told : List ℕ) (r : Run Machine) → Arrives N (telling_stage told p.stage) r → Leads N p (went p.machine r)
    leads_by told (Ok x) h = (record { gates = h.0.gates; more = h.0.more; made = h.0.made; take = h.0.take }, h.1)
    leads_by told (Err e) h = by e.0
      where
        by : (stop : RunStop) → Leads N p (stopped p.machine e.1 stop)
        by (effect.Ended ending) = record { gates = h.gates; more = h.more; made = h.made; take = h.take }
        by Short = record { gates = h.gates; more = h.more; made = h.made; take = h.take }

    leads : (told : List ℕ) → Leads N p (step_told w c p told)
    leads told =
        let words = answers_told told (next_step p.machine) p.machine in
        leads_by words (step w c (next_step p.machine) p.machine (telling_stage words p.stage))
        (step_within N w c p.machine (telling_stage words p.stage) among new)

    leads_led : (values : Values) (z : Went Place) → step_told w c p [] ≡ z → Leads N p (led_by w c values p z)
    leads_led values (On q) is = subst (Leads N p) is (leads [])
    leads_led values (Over q) is = subst (Leads N p) is (leads [])
    leads_led values (Wants q) is = leads (last_of values)

  same_led : (values held : Values) → last_of values ≡ last_of held → (p : Place) (z : Went Place) → led_by w c values p z ≡ led_by w c held p z
  same_led values held last p (On q) = refl
  same_led values held last p (Over q) = refl
  same_led values held last p (Wants q) = ap (step_told w c p) last

  gates_led : (values : Values) (p : Place) (z : Went Place) → step_told w c p [] ≡ z →
      (place_of (led_by w c values p z)).stage.gates ≡ (place_of z).stage.gates
  gates_led values p (On q) is = refl
  gates_led values p (Over q) is = refl
  gates_led values p (Wants q) is = same_when_told w c p q (last_of values) is

  module _ (i : Number) (dealt : Values) where
    abbrev Needs : ℕ → Type 0
    Needs fuel =
        (p : Place) (values held : Values) (tape : List ℕ) → IsHeld p values held →
        without_values (own_code w c i dealt fuel p values tape) ≡ without_values (own_code w c i dealt fuel p held tape)

    -- ---- BEHIND THE GATES

    module _ (fuel : ℕ) (needs : Needs fuel) (p : Place) (values held : Values) (is_held : IsHeld p values held) where
      abbrev Taken : Numbers
      Taken = or_from (HaveSame values held) (length values)

      among : AreAmong (MachineNames p.machine) Taken
      among k h = inl (is_held.named k h)

      new : HasFrom Taken p.stage.made
      new k h = inr (subst (λ n. n ≤ k) is_held.counted h)

      abbrev on : From Place
      on = own_code w c i dealt fuel

      -- so many values more, and the step has led here
      module _ (made : Values) (z : Went Place) (leads_here : Leads Taken p z)
          (count : length made ≡ made_by_all (gates_between p (place_of z))) (tape : List ℕ) where
        abbrev all : Values
        all = values ++ made

        abbrev all_held : Values
        all_held = held ++ made

        gone_on : (q : Place) → Grows Taken p.stage q.stage → AreAmong (MachineNames q.machine) Taken →
            length made ≡ made_by_all (gates_between p q) → IsHeld q all all_held
        gone_on q g names count =
            record {
              as_many = as_many_behind values held is_held.as_many made;
              counted =
                  g.made ∙ ap (λ n. n + made_by_all g.gates) is_held.counted
                  ∙ ap (λ gs. length values + made_by_all gs) (sym (gained_more p.stage.gates g.gates q.stage.gates g.more))
                  ∙ ap (λ n. length values + n) (sym count)
                  ∙ sym (length-append values made);
              named = λ k h. same_behind values held is_held.as_many made k (names k h);
              last = same_last values held is_held.as_many is_held.last made;
            }

        goes_alike : without_values (go_on on (stand_of z) all tape) ≡ without_values (go_on on (stand_of z) all_held tape)
        goes_alike = by z leads_here count
          where
            by : (z : Went Place) → Leads Taken p z → length made ≡ made_by_all (gates_between p (place_of z)) →
                without_values (go_on on (stand_of z) all tape) ≡ without_values (go_on on (stand_of z) all_held tape)
            by (On q) h count = needs q all all_held tape (gone_on q h.0 h.1 count)
            by (Over q) h count = refl
            by (Wants q) h count = refl

        told_alike : without_values (tell_and_go_on on p z all tape) ≡ without_values (tell_and_go_on on p z all_held tape)
        told_alike =
            telling_then (notices_between p (place_of z) all) (go_on on (stand_of z) all tape)
            ∙ ap (λ s. telling (notices_between p (place_of z) all) s) goes_alike
            ∙ ap (λ last. telling (told last) (without_values (go_on on (stand_of z) all_held tape)))
            (same_last values held is_held.as_many is_held.last made)
            ∙ sym (telling_then (notices_between p (place_of z) all_held) (go_on on (stand_of z) all_held tape))
          where
            told : (last : List ℕ) → List Notice
            told last =
                where_made (gained p.stage.events (place_of z).stage.events)
                (told_by (next_step p.machine) p.machine (gained p.stage.opened (place_of z).stage.opened) last)

      abbrev gates : List Gate
      gates = gates_between p (place_of (step_told w c p []))

      abbrev behind : GatesEnd → Strand Ended
      behind = behind_gates w c on p (step_told w c p [])

      whole_alike : (made : Values) (tape : List ℕ) → length made ≡ made_by_all gates →
          without_values (behind (Whole (values ++ made) tape)) ≡ without_values (behind (Whole (held ++ made) tape))
      whole_alike made tape count =
          ap (λ z. without_values (tell_and_go_on on p z (values ++ made) tape))
          (same_led (values ++ made) (held ++ made) (same_last values held is_held.as_many is_held.last made) p (step_told w c p []))
          ∙ told_alike made (led_by w c (held ++ made) p (step_told w c p []))
          (leads_led Taken p among new (held ++ made) (step_told w c p []) refl)
          (count ∙ ap (λ gs. made_by_all (gained p.stage.gates gs)) (sym (gates_led (held ++ made) p (step_told w c p []) refl))) tape

      behind_alike : (h : GatesEnd) → HasBehind held (made_by_all gates) h → without_values (behind (with_before values h)) ≡ without_values (behind h)
      behind_alike (Whole all tape) h =
          ap (λ vs. without_values (behind (Whole (values ++ vs) tape)))
          (ap (drop (length values)) h.1 ∙ drop_at held h.0 (length values) is_held.as_many)
          ∙ whole_alike h.0 tape h.2
          ∙ ap (λ vs. without_values (behind (Whole vs tape))) (sym h.1)
      behind_alike Stuck h = refl

      takes : AllTake Taken gates
      takes =
          let g = grown Taken p (step_told w c p []) (leads Taken p among new []) in
          subst (AllTake Taken) (sym (gained_more p.stage.gates g.gates (place_of (step_told w c p [])).stage.gates g.more)) g.take

      pub step_alike : (tape : List ℕ) →
          without_values (then_do (own_gates i dealt gates values tape) behind) ≡ without_values (then_do (own_gates i dealt gates held tape) behind)
      step_alike tape =
          then-assoc (own_gates i dealt gates values tape) behind forgotten
          ∙ ap (λ s. then_do s (λ h. without_values (behind h))) (gates_need i dealt values held is_held.as_many gates tape takes)
          ∙ then-assoc (own_gates i dealt gates held tape) (λ h. Ends (with_before values h)) (λ h. without_values (behind h))
          ∙ then-same (HasBehind held (made_by_all gates)) (own_gates i dealt gates held tape) (λ h. without_values (behind (with_before values h)))
          (λ h. without_values (behind h)) (gates_count i dealt gates held tape) behind_alike
          ∙ sym (then-assoc (own_gates i dealt gates held tape) behind forgotten)

    pub code_needs : (fuel : ℕ) → Needs fuel
    code_needs zero p values held tape h = refl
    code_needs (suc fuel) p values held tape h = step_alike fuel (code_needs fuel) p values held h tape
