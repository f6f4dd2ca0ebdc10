-- An opening: after it all know the words.
use Rattle.std.proofs.Common.{◌≡◌, ℕ, ◌+◌, ◌<◌, ◌≤◌, ◌^◌, ◌%◌, List, [], ◌∷◌, ◌++◌, length, map, take, drop, Ok, Err, Bool, true, false, cond, refl, sym}
use Rattle.std.proofs.Common.{ap, ◌∙◌, subst, arith, append-nil, length-append}
use Rattle.std.specs.Prelude.{nat_le}
use Rattle.std.proofs.lemmas.List.{length-map, get_or_append_left}
use Rattle.std.proofs.lemmas.Nat.{mod_below}
use Rattle.sc_text.specs.declared.event.Event.TheVariants as event
use Rattle.program_trees.specs.declared.expression.DataType.{DataType}
use Rattle.program_trees.specs.declared.expression.DataType.TheVariants.{Uint64, Int64}
use Rattle.program_trees.specs.declared.expression.DataType.TheVariants as datatype
use Rattle.proto_core.specs.declared.party.Number.{Number}
use Rattle.proto_core.specs.Lists.{AreWords}
use Rattle.protocol_model.specs.Gates.{needed}
use Rattle.protocol_model.proofs.Sizes.{needed-append}
use Rattle.gates.specs.declared.ring_kind.RingKind.{RingKind}
use Rattle.gates.specs.declared.gate.Gate.{Gate}
use Rattle.gates.specs.declared.gate.Gate.TheVariants.{Open}
use Rattle.gates.specs.Clear.{Values, FitFrom, value}
use Rattle.gates.specs.Counts.{size_of, made_by_all, words_of_all}
use Rattle.gates.proofs.Sizes.{FitFrom-append}
use Rattle.shared_plans.specs.Shares.{Kind, Known, kind_at}
use Rattle.shared_plans.specs.Kinds.{AllKinded}
use Rattle.shared_plans.specs.Model.{run_gates, sizes_made, miner_of}
use Rattle.shared_plans.specs.Computed.{opened_values}
use Rattle.shared_plans.proofs.Drawn.{drawn-counted}
use Rattle.shared_plans.proofs.GatesBehind.{suits-then, gates-then}
use Rattle.shared_plans.specs.GateRuns.{GateRun, IsWellFormed, dealt_sizes, value_count, value_sizes, then_gates, model_gates, words_drawn}
use Rattle.shared_plans.proofs.KindedPlans.{shared-grown, kind-behind, kinded-append}
use Rattle.shared_plans.proofs.GateLists.{all-kinded-still}
use Rattle.shared_plans.proofs.GateRunLaws.{run-needs}
use Rattle.shared_plans.proofs.PlanRuns.{made-then}
use Rattle.language_model.specs.Effects.{World, Source, Clear, Answers, Stage, Short, Effect, ◌>>=◌, carry, done, gate, emit, answer, show, words_each}
use Rattle.language_model.specs.Values.{Secrecy, Plain, Private, Value, plain, size, ring_for, gate_words, gate_size, elements_of}
use Rattle.language_model.specs.Operations.{read_answer, revealed, opened_from, declassified}
use Rattle.gate_laws.specs.Facts.{handed_values, Handed, and_opened, IsProper, none_of, Fact, Stands, facts_of, run_at, IsAt}
use Rattle.gate_laws.specs.Dealt.{InRange, drawn_by, Dealt}
use Rattle.gate_laws.specs.Facts.{Grows, Comes, ComesAt, Suits}
use Rattle.gate_laws.proofs.Effects.{Tell, suits_bind, suits_owed, draw_suits}
use Rattle.gate_laws.proofs.Gains.{fact, opened_split, handed_split}
use Rattle.gate_laws.proofs.Singles.{stands_inside, stands_size}
use Rattle.gate_laws.proofs.Parts.{tell_same, tell_first, range_words, plain_charge, number_suits, itself_suits}
use Rattle.gate_laws.proofs.Operators.{same_each}
use Rattle.gate_laws.proofs.GateWords.{gate_words_size, learned_opened}
use Rattle.gate_laws.proofs.Ranges.{Below, below_cons, take_below, drop_below, take_length, map_itself}

-- ---- the gate

module _ (r : GateRun) (good : IsWellFormed r) (u : ℕ) (ring : RingKind) (us : List ℕ) (h : Stands r (fact u ring us)) where
  abbrev opening : List Gate
  opening = Open ring u ∷ []

  abbrev known : List Kind
  known = Known ∷ []

  opening_kinded : AllKinded r.dealt_kinds (r.kinds ++ known) (value_count r) opening
  opening_kinded =
      let count : length r.kinds ≡ value_count r = good.counted in
      let e : length r.kinds + 0 ≡ value_count r = omega arith in
      (((shared-grown r.kinds known u ring h.kind, tt), subst (λ n. kind_at (r.kinds ++ known) n ≡ Known) e (kind-behind r.kinds known 0)), tt)

  opening_formed : IsWellFormed (then_gates r opening known)
  opening_formed =
      let count = good.counted in
      let enough : 0 + made_by_all r.gates ≤ length r.kinds = omega arith in
      let start : value_count r ≡ 0 + made_by_all r.gates = omega arith in
      let both = length-append r.kinds known in
      let made = made-then r.gates opening in
      record {
        dealt_held = good.dealt_held;
        dealt_sized = good.dealt_sized;
        kinded =
            kinded-append r.dealt_kinds (r.kinds ++ known) 0 r.gates opening (all-kinded-still r.dealt_kinds r.kinds known 0 r.gates enough good.kinded)
            (subst (λ n. AllKinded r.dealt_kinds (r.kinds ++ known) n opening) start opening_kinded);
        suits = suits-then (dealt_sizes r) [] r.gates opening good.suits (stands_inside r good u ring us h, tt);
        counted = omega arith;
      }

  opening_words : (i : Number) → words_drawn (then_gates r opening known) i ≡ words_drawn r i + length us
  opening_words i =
      let plan = run_gates r.dealt (dealt_sizes r) (value_sizes r) opening in
      let inside = stands_inside r good u ring us h in
      let new = sizes_made (dealt_sizes r) (value_sizes r) (Open ring u) in
      let size : size_of (value_sizes r ++ new) u ≡ length us = get_or_append_left (value_sizes r) new 0 u inside ∙ stands_size r good u ring us h in
      let own : words_of_all (value_sizes r ++ new) (miner_of i) opening ≡ length us = omega (arith, size) in
      sym (run-needs (then_gates r opening known) opening_formed i)
      ∙ ap (λ gates. needed gates i) (gates-then r.dealt (dealt_sizes r) [] r.gates opening)
      ∙ needed-append (model_gates r) plan i
      ∙ ap (λ k. k + needed plan i) (run-needs r good i)
      ∙ ap (λ k. words_drawn r i + k) (drawn-counted r.dealt (dealt_sizes r) (value_sizes r) opening i (inside, tt) ∙ own)

-- ---- what is read

read_low : (e : DataType) (words : List ℕ) → AreWords words → InRange e (read_answer e words)
read_low Uint64 words h = h
read_low Int64 words h = h
read_low datatype.Bool words h = low words
  where
    low : (xs : List ℕ) → Below 2 (map (λ x. x % 2) xs)
    low [] = λ k. omega arith
    low (x ∷ xs) = below_cons 2 (x % 2) (map (λ x. x % 2) xs) (mod_below x 2 (omega arith)) (low xs)

read_length : (e : DataType) (words : List ℕ) → length (read_answer e words) ≡ length words
read_length Uint64 words = refl
read_length Int64 words = refl
read_length datatype.Bool words = length-map words (λ x. x % 2)

pub read_same : (e : DataType) (words : List ℕ) → InRange e words → read_answer e words ≡ words
read_same Uint64 words h = refl
read_same Int64 words h = refl
read_same datatype.Bool words h = map_itself 2 (λ x. x % 2) words (λ x lt. omega (arith, lt)) h

no_answers : Answers ≡ Clear → ⊥
no_answers e = cc

-- ---- an opening

module _ (w : World) (d : Dealt) (v : Value) (p : IsProper v) (u : ℕ) where
  abbrev element : DataType
  element = v.shape.element

  abbrev ring : RingKind
  ring = ring_for element

  abbrev own_words : List ℕ
  own_words = gate_words element v.words

  -- after the gate
  abbrev behind : Stage → Stage
  behind s = record s { made = s.made + 1; gates = s.gates ++ Open ring u ∷ [] }

  -- and after what is told
  abbrev told : List ℕ → Stage → Stage
  told words s = record s { opened = s.opened ++ words; events = s.events ++ event.Open (elements_of (plain v.shape words)) ∷ [] }

  abbrev telling : List ℕ → Effect Value
  telling words =
      show (read_answer element words) >>= λ _. emit (event.Open (elements_of (plain v.shape (read_answer element words)))) >>= λ _.
      done (plain v.shape (read_answer element words))

  module _ (kinds : List Kind) (s : Stage) (at : IsAt w d kinds (λ m. gate_size element (size v)) s)
      (h : Stands (run_at w d kinds s) (fact u ring own_words)) where
    abbrev run : GateRun
    run = run_at w d kinds s

    grown : (t : Stage) → t.gates ≡ s.gates ++ Open ring u ∷ [] → Grows w d s t kinds (kinds ++ Known ∷ [])
    grown t e = record { gates = Open ring u ∷ []; own = Known ∷ []; more_gates = e; more_kinds = refl }

    made_one : s.made + 1 ≡ made_by_all (s.gates ++ Open ring u ∷ [])
    made_one = let e = made-then s.gates (Open ring u ∷ []) in omega (arith, at.made)

    none_handed : (values : Values) → handed_values values s.gates ≡ handed_values values (s.gates ++ Open ring u ∷ [])
    none_handed values = sym (append-nil (handed_values values s.gates)) ∙ sym (handed_split values s.gates (Open ring u ∷ []))

    handed_yet : (values : Values) → FitFrom d.inputs values 0 (s.gates ++ Open ring u ∷ [])
        → Handed s.events (handed_values values (s.gates ++ Open ring u ∷ []))
    handed_yet values fit =
        subst (Handed s.events) (none_handed values) (at.handed values (FitFrom-append d.inputs values 0 s.gates (Open ring u ∷ []) fit).0)

    drawn_all : (i : Number) → drawn_by s.drawn (miner_of i) ≡ words_drawn (then_gates run (Open ring u ∷ []) (Known ∷ [])) i + none_of (miner_of i)
    drawn_all i = let e = opening_words run at.formed u ring own_words h i in omega (arith, at.drawn i, gate_words_size element v.words)

    -- in the clear
    clear_told : w.source ≡ Clear → Comes w d s (told (read_answer element v.words) (behind s)) kinds none_of []
        (IsProper (plain v.shape (read_answer element v.words)))
    clear_told clear =
        record {
          later = kinds ++ Known ∷ [];
          grown = grown (told (read_answer element v.words) (behind s)) refl;
          stage = record {
            formed = opening_formed run at.formed u ring own_words h;
            made = made_one;
            drawn = drawn_all;
            answers = at.answers;
            handed = λ values fit. and_opened (elements_of (plain v.shape (read_answer element v.words))) (handed_yet values fit);
            opened = λ c values fit.
                let before = (FitFrom-append d.inputs values 0 s.gates (Open ring u ∷ []) fit).0 in
                learned_opened s.events element (read_answer element v.words) (read_low element v.words (range_words element v.words p.range))
                ∙ ap (λ z. z ++ gate_words element (read_answer element v.words)) (at.opened c values before)
                ∙ ap (λ z. opened_values values s.gates ++ z) (ap (gate_words element) (read_same element v.words p.range) ∙ sym (h.words values before)
                ∙ sym (append-nil (value values u)))
                ∙ sym (opened_split values s.gates (Open ring u ∷ []));
          };
          facts = tt;
          sure = record {
            range = read_low element v.words (range_words element v.words p.range);
            small = subst (λ n. n < 2 ^ 64) (sym (read_length element v.words)) p.small;
          };
        }

    -- by answers: the next ones, or there are too few
    answers_told : w.source ≡ Answers → (b : Bool)
        → ComesAt w d s kinds (carry (cond b (Ok (take (size v) s.answers, record (behind s) { answers = drop (size v) s.answers }))
        (Err (Short, behind s))) telling) none_of facts_of IsProper
    answers_told source true =
        let words = take (size v) s.answers in
        record {
          later = kinds ++ Known ∷ [];
          grown = grown (told (read_answer element words) (record (behind s) { answers = drop (size v) s.answers })) refl;
          stage = record {
            formed = opening_formed run at.formed u ring own_words h;
            made = made_one;
            drawn = drawn_all;
            answers = drop_below (2 ^ 64) (size v) s.answers at.answers;
            handed = λ values fit. and_opened (elements_of (plain v.shape (read_answer element words))) (handed_yet values fit);
            opened = λ c values fit. absurd (no_answers (sym source ∙ c));
          };
          facts = tt;
          sure = record {
            range = read_low element words (take_below (2 ^ 64) (size v) s.answers at.answers);
            small = let few = take_length (size v) s.answers in subst (λ n. n < 2 ^ 64) (sym (read_length element words)) (omega (arith, few, p.small));
          };
        }
    answers_told source false =
        record {
          later = kinds ++ Known ∷ [];
          grown = grown (behind s) refl;
          stage = record {
            formed = opening_formed run at.formed u ring own_words h;
            made = made_one;
            drawn = drawn_all;
            answers = at.answers;
            handed = handed_yet;
            opened = λ c values fit. absurd (no_answers (sym source ∙ c));
          };
          facts = tt;
          sure = tt;
        }

    revealed_comes : (o : Source) → w.source ≡ o → ComesAt w d s kinds (carry (answer o v.words (behind s)) telling) none_of facts_of IsProper
    revealed_comes Clear e = clear_told e
    revealed_comes Answers e = answers_told e (nat_le (size v) (length s.answers))

  pub opening_suits : (fs : List Fact) → Tell fs (fact u ring own_words ∷ [])
      → Suits w d fs (λ m. gate_size element (size v)) (gate (Open ring u) >>= λ _. revealed w v) none_of facts_of IsProper
  opening_suits fs t = record { from = λ kinds s at facts. revealed_comes kinds s at (t.from (run_at w d kinds s) facts).0 w.source refl }

module _ (w : World) (d : Dealt) (v : Value) (p : IsProper v) where
  opened_suits : (a : Secrecy) → Suits w d (facts_of v) none_of (opened_from w a v) none_of facts_of IsProper
  opened_suits Plain = itself_suits w d (facts_of v) v (tell_same (facts_of v)) p
  opened_suits (Private k) =
      suits_bind w d (draw_suits w d (facts_of v) (words_each (gate_size v.shape.element (size v)))) (λ _ _.
      suits_bind w d (number_suits w d (facts_of v) (drawn_by (words_each (gate_size v.shape.element (size v)))) v (tell_same (facts_of v)) p.range) (λ u _.
      suits_owed w d (same_each (gate_size v.shape.element (size v)))
      (opening_suits w d v p u (fact u (ring_for v.shape.element) (gate_words v.shape.element v.words) ∷ facts_of v) (tell_first _ _))))

  pub declassified_suits : Suits w d (facts_of v) none_of (declassified w v) none_of facts_of IsProper
  declassified_suits = suits_bind w d (plain_charge w d (facts_of v) (size v)) (λ _ _. opened_suits v.secrecy)
