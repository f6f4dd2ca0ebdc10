-- What the miners tell at each step is what the run in the clear tells.
use Rattle.std.proofs.Common.{◌≡◌, ℕ, ◌+◌, ◌<◌, List, [], ◌∷◌, ◌++◌, length, map, Option, Some, None, refl, sym, ap, ◌∙◌, subst}
use Rattle.std.proofs.Common.{arith, append_assoc, append-nil, length-append, length-drop, zero-add}
use Rattle.std.proofs.Math.ListN.{drop_of_length-le}
use Rattle.std.proofs.lemmas.List.Elements.{length_all_zip}
use Rattle.std.specs.List.{slice_get}
use Rattle.sc_text.specs.declared.event.Event.{Event}
use Rattle.sc_text.specs.declared.event.Event.TheVariants as event
use Rattle.proto_core.specs.declared.party.Number.{Number}
use Rattle.proto_core.specs.Lists.{AreWords}
use Rattle.proto_core.specs.Strand.{Notice, Shown, Published, Handed}
use Rattle.protocol_model.specs.Runs.{Tapes}
use Rattle.gates.specs.declared.ring_kind.RingKind.{RingKind}
use Rattle.gates.specs.declared.gate.Gate.{Gate}
use Rattle.gates.specs.declared.gate.Gate.TheVariants.{Result}
use Rattle.gates.specs.Clear.{Values, value, ring_of, FitFrom}
use Rattle.gates.specs.Counts.{made_by_all}
use Rattle.gates.proofs.Sizes.{FitFrom-append}
use Rattle.gates.proofs.Columns.{stands}
use Rattle.shared_gates.specs.Shares.{AreShares, Holds, share_at}
use Rattle.shared_gates.specs.Model.{miner_of}
use Rattle.gate_laws.specs.GateRuns.{end_shares}
use Rattle.language_model.specs.Effects.{Clear, Stage}
use Rattle.language_model.specs.Reports.{Offered, world_of}
use Rattle.language_model.specs.Values.{Secrecy, Plain, Private, Value, plain, ring_for, gate_words, element_of, elements_of, printed_kind}
use Rattle.language_model.specs.Operations.{publication}
use Rattle.code_model.specs.Courses.{LikeEvent}
use Rattle.program_trees.specs.declared.kinds.Shape.{Shape}
use Rattle.verified_code.specs.Steps.{Step, Declassify, Publish, Function}
use Rattle.gate_laws.specs.Facts.{AllStand, fact_from, run_at}
use Rattle.gate_laws.specs.Dealt.{InRange, drawn_by, Dealt}
use Rattle.gate_laws.proofs.Openings.{read_same}
use Rattle.gate_laws.proofs.PlanRuns.{made-then}
use Rattle.driven_nodes.specs.Steps.{gained, last_of}
use Rattle.code_places.specs.Places.{Place, next_step, form_of, publishing, told_by, where_made, notices_between}
use Rattle.code_places.specs.Twins.{LikeWords, LikeStage, LikeMachine}
use Rattle.code_places.proofs.AlikeMachines.{size_at}
use Rattle.code_places.proofs.Turns.{gained_more}
use Rattle.code_runs.specs.Telling.{elements_told, AreOf, Tells}
use Rattle.code_runs.specs.Telling as tells
use Rattle.code_runs.proofs.Told.{TellsNothing, Opening, was_open, opens, NumberFor, Publishing, ToldBy}
use Rattle.code_runs.proofs.Stays.{Stays, Along}
use Rattle.code_runs.proofs.Values.{computed, last_value, last_held, last_kinded, last_made}
use Rattle.code_runs.specs.Handing.{handed_in, kept_from}
use Rattle.code_runs.proofs.Types.{same_type}
use Rattle.code_runs.proofs.Shown.{behind}
use Rattle.code_runs.proofs.Handing.{hands as all_hands, hands-opened, hands-published, kept-append, kept_at, kept-grown, kept-still}

-- ---- FORMS

told_same : (shape : Shape) (words : List ℕ) → elements_told (form_of shape) words ≡ map (element_of shape.element) words
told_same shape words = ap (λ e. map (element_of e) words) (same_type shape.element)

of_form : (shape : Shape) (words : List ℕ) → InRange shape.element words → AreOf (form_of shape) words
of_form shape words h = subst (λ e. InRange e words) (sym (same_type shape.element)) h

pub retold : {events : List Event} {ns ms : Number → List Notice} → ((i : Number) → ns i ≡ ms i) → Tells events ns → Tells events ms
retold {events = events} h t = subst (Tells events) (λ e. λ i. h i e) t

-- ---- WHERE AN EVENT IS MADE

where_some : (made : List Event) (notices : List Notice) → 0 < length made → where_made made notices ≡ notices
where_some [] notices h = absurd (omega arith)
where_some (e ∷ made) notices h = refl

module _ (s u t v : Stage) (before : LikeStage s t) (after : LikeStage u v) where
  lengths : length s.events ≡ length t.events
  lengths = length_all_zip LikeEvent s.events t.events before.events

  lengths_after : length u.events ≡ length v.events
  lengths_after = length_all_zip LikeEvent u.events v.events after.events

  pub none_made : u.events ≡ s.events → (notices : List Notice) → where_made (gained t.events v.events) notices ≡ []
  none_made e notices =
      let l = lengths in
      let k = lengths_after in
      let same = ap length e in
      ap (λ z. where_made z notices) (drop_of_length-le v.events (omega (arith, l, k, same)))

  one_made : (e : Event) → u.events ≡ s.events ++ e ∷ [] → (notices : List Notice) → where_made (gained t.events v.events) notices ≡ notices
  one_made e f notices =
      let l = lengths in
      let k = lengths_after in
      let more : length u.events ≡ length s.events + 1 = ap length f ∙ length-append s.events (e ∷ []) in
      let rest = length-drop (length t.events) v.events in
      where_some (gained t.events v.events) notices (omega (arith, l, k, more, rest))

  same_gained : gained t.opened v.opened ≡ gained s.opened u.opened
  same_gained = ap (λ z. gained z.opened v.opened) before.same ∙ ap (λ z. gained s.opened z.opened) after.same

-- ---- THE SHARES OF A VALUE THAT IS HANDED OVER

-- of the gates that hand a value over the last makes the value that is handed
last_kept :
    (j : Option ℕ) (words : List ℕ) (s : Stage) (before : List Gate) (number : ℕ) (ring : RingKind) → NumberFor j words s before number
    → (next : ℕ) (own : Values) → kept_from next own (before ++ Result ring number ∷ []) ≡ value own (next + made_by_all before) ∷ []
last_kept (Some k) words s before number ring h next own =
    ap (λ b. kept_from next own (b ++ Result ring number ∷ [])) h.0
    ∙ ap (λ n. value own n ∷ []) (none next)
    ∙ ap (λ b. value own (next + made_by_all b) ∷ []) (sym h.0)
  where
    none : (n : ℕ) → n ≡ n + 0
    none n = omega arith
last_kept None words s before number ring h next own =
    ap (λ b. kept_from next own (b ++ Result ring number ∷ [])) h.0
    ∙ ap (λ n. value own n ∷ []) (one_more next)
    ∙ ap (λ b. value own (next + made_by_all b) ∷ []) (sym h.0)
  where
    one_more : (n : ℕ) → n + 1 ≡ n + (1 + 0)
    one_more n = omega arith

module _ (o : Offered) (d : Dealt) (c : List Function) (tapes : Tapes) (words : (i : Number) → AreWords (tapes i))
    (long : (i : Number) → length (tapes i) ≡ drawn_by o.lengths (miner_of i)) (p q : Place) (st : Stays o d c p) (along : Along o d c p q) where
  abbrev values : Values
  values = (computed o d tapes words long along.stays.kinds q.stage along.stays.stage along.stays.tapes).more

  module _ (r : ℕ) where
    abbrev v : Value
    v = p.machine.registers r

    abbrev own_words : List ℕ
    own_words = gate_words v.shape.element v.words

    module _ (before : List Gate) (number : ℕ) (gates : q.stage.gates ≡ p.stage.gates ++ (before ++ Result (ring_for v.shape.element) number ∷ [])) where
      abbrev new : List Gate
      new = before ++ Result (ring_for v.shape.element) number ∷ []

      whole_fit : FitFrom d.inputs values 0 p.stage.gates × FitFrom d.inputs values (0 + made_by_all p.stage.gates) new
      whole_fit =
          FitFrom-append d.inputs values 0 p.stage.gates new
          (subst (FitFrom d.inputs values 0) gates (computed o d tapes words long along.stays.kinds q.stage along.stays.stage along.stays.tapes).fit)

      named_words : (k : ℕ) → v.secrecy ≡ Private (Some k) → value values k ≡ own_words
      named_words k e =
          let facts = subst (λ z. AllStand (run_at (world_of Clear o) d st.kinds p.stage) (fact_from z v.shape.element v.words)) e (st.stands.registers r).0 in
          facts.0.words values (whole_fit).0

      number_words : (j : Option ℕ) → v.secrecy ≡ Private j → NumberFor j own_words p.stage before number → value values number ≡ own_words
      number_words (Some k) e h = ap (value values) h.1 ∙ named_words k e
      number_words None e h =
          let here : number ≡ 0 + made_by_all p.stage.gates = h.1 ∙ st.stage.made ∙ sym (zero-add (made_by_all p.stage.gates)) in
          let start = 0 + made_by_all p.stage.gates in
          let first = subst (λ z. FitFrom d.inputs values start (z ++ Result (ring_for v.shape.element) number ∷ [])) h.0 (whole_fit).1 in
          ap (value values) here ∙ stands values (0 + made_by_all p.stage.gates) first.1

      abbrev front : List Gate
      front = p.stage.gates ++ before

      in_front : q.stage.gates ≡ front ++ Result (ring_for v.shape.element) number ∷ []
      in_front = gates ∙ sym (append_assoc p.stage.gates before (Result (ring_for v.shape.element) number ∷ []))

      handed_shares :
          (j : Option ℕ) → v.secrecy ≡ Private j → NumberFor j own_words p.stage before number
          → AreShares (ring_of (ring_for v.shape.element)) own_words (λ i. last_of (behind d tapes q.stage.gates i))
      handed_shares j e h =
          let ring = ring_for v.shape.element in
          let g = Result ring number in
          let k = along.stays.kinds in
          let at = along.stays.stage in
          let fit = along.stays.tapes in
          let shares = end_shares (run_at (world_of Clear o) d k q.stage) tapes in
          let kind = (last_kinded o d tapes words long k q.stage at fit front g refl in_front).1.0 in
          let made = stands values (made_by_all front) (last_made o d tapes words long k q.stage at fit front g refl in_front) in
          let held = last_held o d tapes words long k q.stage at fit front g refl in_front in
          let last = last_value o d tapes words long k q.stage at fit front g refl in_front in
          subst (λ s. AreShares (ring_of ring) own_words s) (λ z. λ i. sym (last i) z)
          (subst (λ xs. AreShares (ring_of ring) xs (share_at shares (made_by_all front))) (made ∙ number_words j e h)
          (subst (λ z. Holds z (value values (made_by_all front)) (share_at shares (made_by_all front))) kind held))

    -- ---- WHAT IT ADDS TO WHAT IS HANDED OVER

    module _ (before : List Gate) (number : ℕ) (gates : q.stage.gates ≡ p.stage.gates ++ (before ++ Result (ring_for v.shape.element) number ∷ [])) where
      pub kept_last :
          (j : Option ℕ) → NumberFor j own_words p.stage before number → (i : Number)
          → kept_at o d tapes words long q.stage i ≡ kept_at o d tapes words long p.stage i ++ last_of (behind d tapes q.stage.gates i) ∷ []
      kept_last j h i =
          let g = Result (ring_for v.shape.element) number in
          let front : List Gate = p.stage.gates ++ before in
          let last = last_value o d tapes words long along.stays.kinds q.stage along.stays.stage along.stays.tapes front g refl
          (gates ∙ sym (append_assoc p.stage.gates before (g ∷ []))) i in
          kept-grown o d tapes words long p.stage q.stage st.kinds along.stays.kinds st.stage st.tapes along.stays.stage along.stays.tapes (before ++ g ∷ [])
          gates i
          ∙ ap (λ vs. kept_at o d tapes words long p.stage i ++ vs)
          (last_kept j own_words p.stage before number (ring_for v.shape.element) h (0 + made_by_all p.stage.gates) (behind d tapes q.stage.gates i)
          ∙ ap (λ n. value (behind d tapes q.stage.gates i) (n + made_by_all before) ∷ []) (zero-add (made_by_all p.stage.gates))
          ∙ ap (λ n. value (behind d tapes q.stage.gates i) n ∷ []) (sym (made-then p.stage.gates before))
          ∙ ap (λ (ws : List ℕ). ws ∷ []) (sym last))

  -- ---- ONE STEP

  module _ (b a : Place) (machines : LikeMachine p.machine b.machine) (stages : LikeStage p.stage b.stage) (later : LikeStage q.stage a.stage) where
    -- what a miner tells between the places beside these
    abbrev pub telling : Number → List Notice
    telling i = notices_between b a (behind d tapes q.stage.gates i)

    pub record StepTells : Type 0 where
      pub events : List Event
      pub gained : q.stage.events ≡ p.stage.events ++ events
      pub told : (rest : List Event) (notices : Number → List Notice) → Tells rest notices → Tells (events ++ rest) (λ i. telling i ++ notices i)
      pub gave : (i : Number) → kept_at o d tapes words long q.stage i ≡ kept_at o d tapes words long p.stage i ++ handed_in (telling i)

    -- where no event hands over
    gave_nothing :
        all_hands q.stage.events ≡ all_hands p.stage.events → (i : Number) → handed_in (telling i) ≡ []
        → kept_at o d tapes words long q.stage i ≡ kept_at o d tapes words long p.stage i ++ handed_in (telling i)
    gave_nothing same i none =
        kept-still o d tapes words long p.stage q.stage st.kinds along.stays.kinds st.stage st.tapes along.stays.stage along.stays.tapes along.more along.gates
        same i
        ∙ sym (append-nil (kept_at o d tapes words long p.stage i))
        ∙ ap (λ vs. kept_at o d tapes words long p.stage i ++ vs) (sym none)

    same_next : next_step b.machine ≡ next_step p.machine
    same_next = ap (λ z. slice_get z b.machine.pc) (sym machines.steps) ∙ ap (slice_get p.machine.steps) (sym machines.pc)

    quiet : TellsNothing p.stage q.stage → StepTells
    quiet h =
        record {
          events = [];
          gained = h.events ∙ sym (append-nil p.stage.events);
          told = λ rest notices t. retold (λ i. ap (λ z. z ++ notices i) (sym (none_made p.stage q.stage b.stage a.stage stages later h.events _))) t;
          gave = λ i. gave_nothing (ap all_hands h.events) i (ap handed_in (none_made p.stage q.stage b.stage a.stage stages later h.events _));
        }

    -- one event, and one notice beside it
    one :
        (e : Event) (notice : Number → Notice) → q.stage.events ≡ p.stage.events ++ e ∷ []
        → ((i : Number)
        → told_by (next_step b.machine) b.machine (gained b.stage.opened a.stage.opened) (last_of (behind d tapes q.stage.gates i)) ≡ notice i ∷ [])
        → ((rest : List Event) (notices : Number → List Notice) → Tells rest notices → Tells (e ∷ rest) (λ i. notice i ∷ notices i))
        → ((i : Number)
        → kept_at o d tapes words long q.stage i ≡ kept_at o d tapes words long p.stage i ++ handed_in (notice i ∷ [])) → StepTells
    one e notice made tells then gives =
        record {
          events = e ∷ [];
          gained = made;
          told = λ rest notices t.
              retold (λ i. ap (λ z. z ++ notices i) (sym (one_made p.stage q.stage b.stage a.stage stages later e made _ ∙ tells i))) (then rest notices t);
          gave = λ i.
              gives i
              ∙ ap (λ ns. kept_at o d tapes words long p.stage i ++ handed_in ns)
              (sym (one_made p.stage q.stage b.stage a.stage stages later e made _ ∙ tells i));
        }

    -- an event that hands nothing over
    gave_none :
        all_hands q.stage.events ≡ all_hands p.stage.events → (i : Number)
        → kept_at o d tapes words long q.stage i ≡ kept_at o d tapes words long p.stage i ++ []
    gave_none same i =
        kept-still o d tapes words long p.stage q.stage st.kinds along.stays.kinds st.stage st.tapes along.stays.stage along.stays.tapes along.more along.gates
        same i
        ∙ sym (append-nil (kept_at o d tapes words long p.stage i))

    shows : (to r : ℕ) → next_step p.machine ≡ Some (Declassify to r) → Opening (p.machine.registers r) p.stage q.stage → StepTells
    shows to r n (was_open h) = quiet h
    shows to r n (opens words before ring k read opened events answers gates none) =
        let v = p.machine.registers r in
        let range = (st.stands.registers r).1.range in
        let whole : words ≡ v.words = read ∙ read_same v.shape.element v.words range in
        one (event.Open (elements_of (plain v.shape words))) (λ i. Shown (form_of v.shape) words) events
        (λ i.
        ap (λ z. told_by z b.machine (gained b.stage.opened a.stage.opened) (last_of (behind d tapes q.stage.gates i))) (same_next ∙ n)
        ∙ ap (λ z. Shown (form_of z) (gained b.stage.opened a.stage.opened) ∷ []) (sym (machines.registers r).shape)
        ∙ ap (λ z. Shown (form_of v.shape) z ∷ [])
        (same_gained p.stage q.stage b.stage a.stage stages later ∙ gained_more p.stage.opened words q.stage.opened opened))
        (λ rest notices t.
        subst (λ z. Tells (event.Open z ∷ rest) (λ i. Shown (form_of v.shape) words ∷ notices i)) (told_same v.shape words)
        (tells.opened (form_of v.shape) words (of_form v.shape words (subst (InRange v.shape.element) (sym whole) range)) t))
        (gave_none (ap all_hands events ∙ hands-opened p.stage.events _))

    shared_words : (r : ℕ) (x : Secrecy) → (p.machine.registers r).secrecy ≡ x → LikeWords x (p.machine.registers r).words (b.machine.registers r).words
    shared_words r x e = subst (λ z. LikeWords z (p.machine.registers r).words (b.machine.registers r).words) e (machines.registers r).words

    same_count : (r : ℕ) → length (b.machine.registers r).words ≡ length (p.machine.registers r).words
    same_count r = sym (size_at machines.registers r)

    hands : (text : List ℕ) (r : ℕ) → next_step p.machine ≡ Some (Publish text r) → Publishing text (p.machine.registers r) p.stage q.stage
        → (x : Secrecy) → (p.machine.registers r).secrecy ≡ x → StepTells
    hands text r n h Plain e =
        let v = p.machine.registers r in
        one (event.Publish text (elements_of v)) (λ i. Published text (form_of v.shape) v.words)
        (subst (λ z. q.stage.events ≡ p.stage.events ++ publication z v.shape.element text (elements_of v) ∷ []) e h.events)
        (λ i.
        ap (λ z. told_by z b.machine (gained b.stage.opened a.stage.opened) (last_of (behind d tapes q.stage.gates i))) (same_next ∙ n)
        ∙ ap
        (λ z. publishing z text (form_of (b.machine.registers r).shape) (b.machine.registers r).words (last_of (behind d tapes q.stage.gates i)) ∷ [])
        (sym (machines.registers r).secrecy ∙ e)
        ∙ ap (λ z. Published text (form_of z) (b.machine.registers r).words ∷ []) (sym (machines.registers r).shape)
        ∙ ap (λ z. Published text (form_of v.shape) z ∷ []) (sym (shared_words r Plain e)))
        (λ rest notices t.
        subst (λ z. Tells (event.Publish text z ∷ rest) (λ i. Published text (form_of v.shape) v.words ∷ notices i)) (told_same v.shape v.words)
        (tells.published text (form_of v.shape) v.words (of_form v.shape v.words (st.stands.registers r).1.range) t))
        (gave_none
        (ap all_hands (subst (λ z. q.stage.events ≡ p.stage.events ++ publication z v.shape.element text (elements_of v) ∷ []) e h.events)
        ∙ hands-published p.stage.events text _))
    hands text r n h (Private j) e =
        let v = p.machine.registers r in
        let made = h.handed j e in
        let shares : Number → List ℕ = λ i. last_of (behind d tapes q.stage.gates i) in
        let held = handed_shares r made.before made.number made.gates j e made.number_for in
        one (event.Hand text (printed_kind v.shape.element) (elements_of v)) (λ i. Handed text (form_of v.shape) (length v.words) (shares i))
        (subst (λ z. q.stage.events ≡ p.stage.events ++ publication z v.shape.element text (elements_of v) ∷ []) e h.events)
        (λ i.
        ap (λ z. told_by z b.machine (gained b.stage.opened a.stage.opened) (shares i)) (same_next ∙ n)
        ∙ ap (λ z. publishing z text (form_of (b.machine.registers r).shape) (b.machine.registers r).words (shares i) ∷ [])
        (sym (machines.registers r).secrecy ∙ e)
        ∙ ap (λ z. Handed text (form_of z) (length (b.machine.registers r).words) (shares i) ∷ []) (sym (machines.registers r).shape)
        ∙ ap (λ n. Handed text (form_of v.shape) n (shares i) ∷ []) (same_count r))
        (λ rest notices t.
        subst (λ t. Tells (event.Hand text (printed_kind t) (map (element_of t) v.words) ∷ rest)
        (λ i. Handed text (form_of v.shape) (length v.words) (shares i) ∷ notices i)) (same_type v.shape.element)
        (tells.handed text (form_of v.shape) v.words shares (of_form v.shape v.words (st.stands.registers r).1.range)
        (subst (λ z. AreShares (ring_of (ring_for z)) (gate_words z v.words) shares) (sym (same_type v.shape.element)) held) t))
        (λ i. kept_last r made.before made.number made.gates j made.number_for i)

    by_step : (n : Option Step) → next_step p.machine ≡ n → ToldBy n p.machine p.stage q.stage → StepTells
    by_step (Some (Declassify to r)) e h = shows to r e h
    by_step (Some (Publish text r)) e h = hands text r e h (p.machine.registers r).secrecy refl
    by_step n e h = quiet h

    pub step_told : StepTells
    step_told = by_step (next_step p.machine) refl along.told
