-- At each step of the run in the clear that opens words, the three miners have them as their last value.
use Rattle.std.proofs.Common.{◌≡◌, ◌≢◌, ℕ, zero, suc, List, [], ◌∷◌, ◌++◌, length, map, drop, Option, Some, refl, sym, ap, ◌∙◌, subst, ◌⊎◌, inl, inr}
use Rattle.std.proofs.Common.{append_assoc, append-nil}
use Rattle.std.proofs.lemmas.List.{drop-drop, append_cancel_left}
use Rattle.std.proofs.Math.Seq.{drop-length}
use Rattle.proto_core.specs.declared.party.Number.{Number}
use Rattle.proto_core.specs.Lists.{AreWords}
use Rattle.protocol_model.specs.Gates.{sizes_of, needed}
use Rattle.protocol_model.specs.Runs.{Shares, Tapes, run_values}
use Rattle.protocol_model.proofs.Sizes.{needed-append}
use Rattle.gates.specs.declared.ring_kind.RingKind.{RingKind}
use Rattle.gates.specs.declared.gate.Gate.{Gate}
use Rattle.gates.specs.declared.gate.Gate.TheVariants.{Open}
use Rattle.gates.specs.Clear.{Values, value, FitFrom}
use Rattle.gates.proofs.Sizes.{FitFrom-append}
use Rattle.shared_gates.specs.Model.{miner_of}
use Rattle.shared_gates.specs.Computed.{opened_values}
use Rattle.shared_gates.proofs.GatesBehind.{gates-then}
use Rattle.sc_text.specs.declared.elements.Element.{Element}
use Rattle.sc_text.specs.declared.event.Event.{Event}
use Rattle.sc_text.specs.declared.event.Event.TheVariants as event
use Rattle.program_trees.specs.declared.expression.DataType.{DataType}
use Rattle.language_model.specs.Effects.{Clear, Stage}
use Rattle.language_model.specs.Values.{Secrecy, Plain, Private, element_of, gate_words, printed_kind}
use Rattle.language_model.specs.Learned.{learned_of}
use Rattle.language_model.specs.Operations.{read_answer, publication}
use Rattle.language_model.specs.Reports.{Offered, world_of}
use Rattle.verified_code.specs.Steps.{Step, Declassify, Publish, Function}
use Rattle.code_model.specs.Machine.{Machine}
use Rattle.gate_laws.specs.Dealt.{Dealt, drawn_by}
use Rattle.gate_laws.specs.Laws.{MayRun}
use Rattle.gate_laws.proofs.Gains.{opened_split}
use Rattle.gate_laws.proofs.GateWords.{learned_still}
use Rattle.driven_nodes.specs.Steps.{Went, On, Over, Wants, gained, last_of}
use Rattle.driven_nodes.specs.Twins.{shown, ReadsBy, Reads}
use Rattle.driven_nodes.proofs.Gates.{values_then}
use Rattle.code_places.specs.Places.{Place, next_step, run_dealt}
use Rattle.code_places.specs.Laws.{in_the_clear}
use Rattle.code_places.proofs.Opened.{learned_read}
use Rattle.code_places.proofs.Turns.{gained_more}
use Rattle.code_runs.proofs.Told.{was_open, opens, ToldBy}
use Rattle.code_runs.proofs.Stays.{Stays, Along, After, after}
use Rattle.code_runs.proofs.Values.{computed, last_opened}

-- ---- GATES PART BY PART

module _ (d : Dealt) (tapes : Tapes) where
  -- what the miners hold after these gates, and what is left of their tapes
  abbrev pub behind : List Gate → Shares
  behind gates = run_values (run_dealt d [] gates) (λ i. []) tapes

  abbrev pub left_behind : List Gate → Tapes
  left_behind gates i = drop (needed (run_dealt d [] gates) i) (tapes i)

  split : (xs ys : List Gate) → run_dealt d [] (xs ++ ys) ≡ run_dealt d [] xs ++ run_dealt d xs ys
  split xs ys = gates-then d.shares (sizes_of d.inputs) [] xs ys

  pub behind_then : (xs ys : List Gate) → run_values (run_dealt d xs ys) (behind xs) (left_behind xs) ≡ behind (xs ++ ys)
  behind_then xs ys =
      sym (values_then (run_dealt d [] xs) (run_dealt d xs ys) (λ i. []) tapes) ∙ ap (λ g. run_values g (λ i. []) tapes) (sym (split xs ys))

  left_each : (xs ys : List Gate) (i : Number) → drop (needed (run_dealt d xs ys) i) (left_behind xs i) ≡ left_behind (xs ++ ys) i
  left_each xs ys i =
      drop-drop (needed (run_dealt d xs ys) i) (needed (run_dealt d [] xs) i) (tapes i)
      ∙ ap (λ n. drop n (tapes i)) (sym (needed-append (run_dealt d [] xs) (run_dealt d xs ys) i))
      ∙ ap (λ g. drop (needed g i) (tapes i)) (sym (split xs ys))

  pub left_then : (xs ys : List Gate) → (λ i. drop (needed (run_dealt d xs ys) i) (left_behind xs i)) ≡ left_behind (xs ++ ys)
  left_then xs ys = λ e. λ i. left_each xs ys i e

-- ---- WHAT IS SHOWN

record Last (s u : Stage) : Type 0 where
  words : List ℕ
  before : List Gate
  ring : RingKind
  number : ℕ
  learned : learned_of u.events ≡ learned_of s.events ++ words
  gates : u.gates ≡ s.gates ++ (before ++ Open ring number ∷ [])
  none : (values : Values) → opened_values values before ≡ []

learned_publication : (events : List Event) (a : Secrecy) (e : DataType) (text : List ℕ) (elements : List Element)
    → learned_of (events ++ publication a e text elements ∷ []) ≡ learned_of events
learned_publication events Plain e text elements = learned_still events (event.Publish text elements) refl
learned_publication events (Private k) e text elements = learned_still events (event.Hand text (printed_kind e) elements) refl

learned_word : (events : List Event) (e : DataType) (told words : List ℕ) → words ≡ read_answer e told
    → learned_of (events ++ event.Open (map (element_of e) words) ∷ []) ≡ learned_of events ++ gate_words e words
learned_word events e told words read =
    subst (λ z. learned_of (events ++ event.Open (map (element_of e) z) ∷ []) ≡ learned_of events ++ gate_words e z) (sym read) (learned_read events e told)

-- a step that opens words does so by its last gate
opens_last : (i : Option Step) (m : Machine) (s u : Stage) → ToldBy i m s u → (learned_of u.events ≡ learned_of s.events) ⊎ Last s u
opens_last (Some (Declassify d r)) m s u (was_open h) = inl (ap learned_of h.events)
opens_last (Some (Declassify d r)) m s u (opens words before ring k read o e a g none) =
    let v = m.registers r in
    inr (record {
      words = gate_words v.shape.element words;
      before = before;
      ring = ring;
      number = k;
      learned = ap learned_of e ∙ learned_word s.events v.shape.element v.words words read;
      gates = g;
      none = none;
    })
opens_last (Some (Publish text r)) m s u h = inl (ap learned_of h.events ∙ learned_publication s.events (m.registers r).secrecy (m.registers r).shape.element text _)
opens_last i m s u h = inl (ap learned_of h.events)

nothing_gained : {A : Type 0} (xs ys : List A) → ys ≡ xs → gained xs ys ≡ []
nothing_gained xs ys e = ap (drop (length xs)) e ∙ drop-length xs

module _ (o : Offered) (d : Dealt) (c : List Function) (tapes : Tapes) (words : (i : Number) → AreWords (tapes i))
    (long : (i : Number) → length (tapes i) ≡ drawn_by o.lengths (miner_of i)) where
  module _ (p q : Place) (st : Stays o d c p) (along : Along o d c p q) where
    abbrev values : Values
    values = (computed o d tapes words long along.stays.kinds q.stage along.stays.stage along.stays.tapes).more

    module _ (l : Last p.stage q.stage) where
      -- the value that is opened
      opened_is : l.words ≡ value values l.number
      opened_is =
          let fit = (computed o d tapes words long along.stays.kinds q.stage along.stays.stage along.stays.tapes).fit in
          let last = l.before ++ Open l.ring l.number ∷ [] in
          let whole = subst (FitFrom d.inputs values 0) l.gates fit in
          let first = (FitFrom-append d.inputs values 0 p.stage.gates last whole).0 in
          append_cancel_left (learned_of p.stage.events) l.words (value values l.number)
          (sym l.learned ∙ along.stays.stage.opened refl values fit ∙ ap (opened_values values) l.gates ∙ opened_split values p.stage.gates last
          ∙ ap (λ z. z ++ opened_values values last) (sym (st.stage.opened refl values first))
          ∙ ap (λ z. learned_of p.stage.events ++ z)
          (opened_split values l.before (Open l.ring l.number ∷ []) ∙ ap (λ z. z ++ (value values l.number ++ [])) (l.none values)
          ∙ append-nil (value values l.number)))

      last_is : (i : Number) → last_of (behind d tapes q.stage.gates i) ≡ l.words
      last_is i =
          last_opened o d tapes words long along.stays.kinds q.stage along.stays.stage along.stays.tapes (p.stage.gates ++ l.before) l.ring l.number
          (l.gates ∙ sym (append_assoc p.stage.gates l.before (Open l.ring l.number ∷ []))) i
          ∙ sym opened_is

    pub shown_last : shown (in_the_clear o c) p q ≢ [] → (i : Number) → last_of (behind d tapes q.stage.gates i) ≡ shown (in_the_clear o c) p q
    shown_last some i = go (opens_last (next_step p.machine) p.machine p.stage q.stage along.told)
      where
        go : (learned_of q.stage.events ≡ learned_of p.stage.events) ⊎ Last p.stage q.stage
            → last_of (behind d tapes q.stage.gates i) ≡ shown (in_the_clear o c) p q
        go (inl e) = absurd (some (nothing_gained (learned_of p.stage.events) (learned_of q.stage.events) e))
        go (inr l) = last_is l i ∙ sym (gained_more (learned_of p.stage.events) l.words (learned_of q.stage.events) l.learned)

  -- ---- BEHIND A STEP

  module _ (p q : Place) (along : Along o d c p q) (values : Shares) (ts : Tapes) (e : values ≡ behind d tapes p.stage.gates)
      (f : ts ≡ left_behind d tapes p.stage.gates) where
    abbrev pub between : List Gate
    between = gained p.stage.gates q.stage.gates

    whole : p.stage.gates ++ between ≡ q.stage.gates
    whole = ap (λ z. p.stage.gates ++ z) (gained_more p.stage.gates along.more q.stage.gates along.gates) ∙ sym along.gates

    pub values_behind : run_values (run_dealt d p.stage.gates between) values ts ≡ behind d tapes q.stage.gates
    values_behind =
        ap (λ v. run_values (run_dealt d p.stage.gates between) v ts) e
        ∙ ap (run_values (run_dealt d p.stage.gates between) (behind d tapes p.stage.gates)) f
        ∙ behind_then d tapes p.stage.gates between ∙ ap (behind d tapes) whole

    pub tapes_left : (λ i. drop (needed (run_dealt d p.stage.gates between) i) (ts i)) ≡ left_behind d tapes q.stage.gates
    tapes_left =
        ap (λ t. λ i. drop (needed (run_dealt d p.stage.gates between) i) (t i)) f
        ∙ left_then d tapes p.stage.gates between ∙ ap (left_behind d tapes) whole

  module _ (may : MayRun (world_of Clear o) d c) where
    pub reads :
        (fuel : ℕ) (p : Place) → Stays o d c p → (values : Shares) (ts : Tapes) → values ≡ behind d tapes p.stage.gates
        → ts ≡ left_behind d tapes p.stage.gates → Reads (in_the_clear o c) (run_dealt d) fuel p values ts
    unfolding Reads
    reads zero p st shares ts e f = tt
    reads (suc fuel) p st values ts e f = go ((in_the_clear o c).step p) (after o d c may p st) (reads fuel)
      where
        Later : Type 0
        Later =
            (p : Place) → Stays o d c p → (values : Shares) (ts : Tapes) → values ≡ behind d tapes p.stage.gates
            → ts ≡ left_behind d tapes p.stage.gates → Reads (in_the_clear o c) (run_dealt d) fuel p values ts

        go : (r : Went Place) → After o d c p r → Later → ReadsBy (in_the_clear o c) (run_dealt d) (Reads (in_the_clear o c) (run_dealt d) fuel) p values ts r
        go (On q) along later =
            let now = values_behind p q along values ts e f in (
              λ some i. ap (λ v. last_of (v i)) now ∙ shown_last p q st along some i,
              later q along.stays _ _ now (tapes_left p q along values ts e f),
            )
        go (Over q) final later = tt
        go (Wants q) h later = tt
