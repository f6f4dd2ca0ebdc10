-- A step that wants words has opened a value last, and goes on where it is told as many elements as this value has.
use Rattle.std.proofs.Common.{◌≡◌, ℕ, ◌+◌, ◌≤◌, List, [], ◌∷◌, ◌++◌, Bool, true, false, cond, Option, Ok, Err}
use Rattle.std.proofs.Common.{refl, sym, ◌∙◌, ap, subst, arith, append_assoc}
use Rattle.std.specs.Prelude.{length, nat_le, take, drop}
use Rattle.std.proofs.lemmas.Bool.{le-leb}
use Rattle.std.proofs.lemmas.List.{drop_all}
use Rattle.sc_text.specs.declared.event.Event.TheVariants as event
use Rattle.gates.specs.declared.ring_kind.RingKind.{RingKind}
use Rattle.gates.specs.declared.gate.Gate.{Gate}
use Rattle.gates.specs.declared.gate.Gate.TheVariants.{Open}
use Rattle.gates.specs.Counts.{size_of}
use Rattle.protocol_model.specs.Gates.{sizes_of}
use Rattle.shared_gates.specs.Shares.{Kind}
use Rattle.shared_gates.specs.Model.{sizes_after}
use Rattle.language_model.specs.Effects.{World, Answers, Stage, RunStop, Short, Run, Effect, ◌>>=◌, carry, done, draw, gate, answer, emit, show}
use Rattle.language_model.specs.Effects.{words_each}
use Rattle.language_model.specs.Values.{Secrecy, Plain, Private, Value, plain, size, ring_for, gate_words, gate_size, elements_of}
use Rattle.language_model.specs.Operations.{charged, no_traps, number_of, read_answer, revealed, opened_from, declassified}
use Rattle.blind_evaluation.specs.Courses.{IsEnded}
use Rattle.gate_laws.specs.Dealt.{Dealt, drawn_by}
use Rattle.gate_laws.specs.Facts.{IsProper, none_of, AllStand, facts_of, run_at, IsAt, Comes, ComesAt, Suits}
use Rattle.gate_laws.proofs.Effects.{Any, suits_bind, draw_suits}
use Rattle.gate_laws.proofs.Gains.{fact}
use Rattle.gate_laws.proofs.GateWords.{gate_words_size}
use Rattle.gate_laws.proofs.Parts.{plain_charge, number_suits, tell_same}
use Rattle.gate_laws.proofs.Singles.{stands_size}
use Rattle.code_places.proofs.Quiet.{KeptAt, Quiet, quiet_bind, quiet_done, quiet_draw}
use Rattle.code_places.proofs.QuietRows.{untrapped_quiet, number_quiet}

-- why it stops isn't that words are missing
abbrev pub WantsNone : {A : Type 0} → Run A → Type 0
WantsNone (Ok x) = Unit {0}
WantsNone (Err e) = IsEnded e.0

-- no words are left where it goes on
abbrev pub LeavesNone : {A : Type 0} → Run A → Type 0
LeavesNone (Ok x) = x.1.answers ≡ []
LeavesNone (Err e) = Unit {0}

pub quiet_wants : {A : Type 0} (told : Bool) (s : Stage) (r : Run A) → KeptAt told s r → WantsNone r
quiet_wants told s (Ok x) h = tt
quiet_wants told s (Err e) h = h.0

pub quiet_leaves : {A : Type 0} (told : Bool) (s : Stage) (r : Run A) → s.answers ≡ [] → KeptAt told s r → LeavesNone r
quiet_leaves told s (Ok x) none h = h.answers ∙ none
quiet_leaves told s (Err e) none h = tt

module _ (w : World) (source : w.source ≡ Answers) (v : Value) where
  abbrev ring : RingKind
  ring = ring_for v.shape.element

  -- its words in the gates, and how many they are
  abbrev own_words : List ℕ
  own_words = gate_words v.shape.element v.words

  abbrev own_size : ℕ
  own_size = gate_size v.shape.element (size v)

  -- up to the gate that opens
  abbrev pub before : Effect ℕ
  before = charged no_traps (size v) >>= λ _. draw w (words_each own_size) >>= λ _. number_of v

  abbrev behind : ℕ → Effect Value
  behind u = gate (Open ring u) >>= λ _. revealed w v

  abbrev opened_at : ℕ → Stage → Stage
  opened_at u t = record t { made = t.made + 1; gates = t.gates ++ Open ring u ∷ [] }

  abbrev telling : List ℕ → Effect Value
  telling words =
      show (read_answer v.shape.element words) >>= λ _. emit (event.Open (elements_of (plain v.shape (read_answer v.shape.element words)))) >>= λ _.
      done (plain v.shape (read_answer v.shape.element words))

  abbrev outcome : ℕ → Stage → Bool → Run Value
  outcome u t b =
      carry (cond b (Ok (take (size v) t.answers, record (opened_at u t) { answers = drop (size v) t.answers })) (Err (Short, opened_at u t))) telling

  behind_is : (u : ℕ) (t : Stage) → behind u t ≡ outcome u t (nat_le (size v) (length t.answers))
  behind_is u t = ap (λ o. carry (answer o v.words (opened_at u t)) telling) source

  before_quiet : Quiet true before
  before_quiet =
      quiet_bind true (untrapped_quiet true (size v)) (λ _. quiet_bind true (quiet_draw true w (words_each own_size)) (λ _. number_quiet true v))

  -- ---- in two parts

  parts : (k : Option ℕ) → v.secrecy ≡ Private k → (s : Stage) → declassified w v s ≡ (before >>= behind) s
  parts k private s =
      ap (λ x. carry (charged no_traps (size v) s) (λ _. opened_from w x v)) private ∙ go (charged no_traps (size v) s)
    where
      second : (r : Run (Unit {0})) → carry r (λ _. number_of v >>= behind) ≡ carry (carry r (λ _. number_of v)) behind
      second (Ok x) = refl
      second (Err e) = refl

      go : (r : Run (Unit {0})) → carry r (λ _. opened_from w (Private k) v)
          ≡ carry (carry r (λ _. draw w (words_each own_size) >>= λ _. number_of v)) behind
      go (Ok x) = second (draw w (words_each own_size) x.1)
      go (Err e) = refl

  plain_quiet : v.secrecy ≡ Plain → Quiet true (declassified w v)
  plain_quiet public =
      subst (λ x. Quiet true (charged no_traps (size v) >>= λ _. opened_from w x v)) (sym public)
      (quiet_bind true (untrapped_quiet true (size v)) (λ _. quiet_done true v))

  -- ---- told so many words

  outcome_wants : (u : ℕ) (t : Stage) (b : Bool) → b ≡ true → WantsNone (outcome u t b)
  outcome_wants u t true e = tt
  outcome_wants u t false e = absurd cc

  pub enough_wants : (k : Option ℕ) → v.secrecy ≡ Private k → (s : Stage) → size v ≤ length s.answers → WantsNone (declassified w v s)
  enough_wants k private s enough = subst WantsNone (sym (parts k private s)) (go (before s) (before_quiet.from s))
    where
      go : (r : Run ℕ) → KeptAt true s r → WantsNone (carry r behind)
      go (Ok x) kept =
          let there : size v ≤ length x.1.answers = subst (λ ws. size v ≤ length ws) (sym kept.answers) enough in
          subst WantsNone (sym (behind_is x.0 x.1)) (outcome_wants x.0 x.1 (nat_le (size v) (length x.1.answers)) (le-leb (size v) (length x.1.answers) there))
      go (Err e) kept = kept.0

  outcome_leaves : (u : ℕ) (t : Stage) (b : Bool) → length t.answers ≤ size v → LeavesNone (outcome u t b)
  outcome_leaves u t true few = drop_all (size v) t.answers few
  outcome_leaves u t false few = tt

  pub few_left : (k : Option ℕ) → v.secrecy ≡ Private k → (s : Stage) → length s.answers ≤ size v → LeavesNone (declassified w v s)
  few_left k private s few = subst LeavesNone (sym (parts k private s)) (go (before s) (before_quiet.from s))
    where
      go : (r : Run ℕ) → KeptAt true s r → LeavesNone (carry r behind)
      go (Ok x) kept =
          subst LeavesNone (sym (behind_is x.0 x.1))
          (outcome_leaves x.0 x.1 (nat_le (size v) (length x.1.answers)) (subst (λ ws. length ws ≤ size v) (sym kept.answers) few))
      go (Err e) kept = tt

  -- told none it leaves none
  pub none_left : (s : Stage) → s.answers ≡ [] → LeavesNone (declassified w v s)
  none_left s none = by v.secrecy refl
    where
      by : (x : Secrecy) → v.secrecy ≡ x → LeavesNone (declassified w v s)
      by Plain e = quiet_leaves true s (declassified w v s) none ((plain_quiet e).from s)
      by (Private k) e = few_left k e s (subst (λ ws. length ws ≤ size v) (sym none) (omega arith))

  -- ---- where words are missing

  -- the last gate opens the value of this number, made of the stage before it
  pub record OpensLast (s h : Stage) : Type 0 where
    pub k : Option ℕ
    pub private : v.secrecy ≡ Private k
    pub u : ℕ
    pub at : Stage
    pub before_is : before s ≡ Ok (u, at)
    pub gates : h.gates ≡ at.gates ++ Open ring u ∷ []

  pub short_so : (s h : Stage) → declassified w v s ≡ Err (Short, h) → OpensLast s h
  short_so s h is = by v.secrecy refl
    where
      never : (r : Run Value) → KeptAt true s r → r ≡ Err (Short, h) → ⊥
      never r kept e = (subst (KeptAt true s) e kept).0

      goes_on : {A : Type 0} (x : A × Stage) → ◌≡◌ {A = Run A} (Ok x) (Err (Short, h)) → ⊥
      goes_on x e = cc

      ended : (e : RunStop × Stage) → IsEnded e.0 → ◌≡◌ {A = Run Value} (Err e) (Err (Short, h)) → ⊥
      ended e kept is = let same : e ≡ (Short, h) = cc in subst (λ z. IsEnded z.0) same kept

      there : (u : ℕ) (t : Stage) (b : Bool) → outcome u t b ≡ Err (Short, h) → h.gates ≡ t.gates ++ Open ring u ∷ []
      there u t true e = absurd cc
      there u t false e = let same : ◌≡◌ {A = RunStop × Stage} (Short, opened_at u t) (Short, h) = cc in sym (ap (λ z. (z.1).gates) same)

      go : (k : Option ℕ) → v.secrecy ≡ Private k → (r : Run ℕ) → before s ≡ r → KeptAt true s r → carry r behind ≡ Err (Short, h)
          → OpensLast s h
      go k private (Ok x) e kept q =
          record {
            k = k;
            private = private;
            u = x.0;
            at = x.1;
            before_is = e;
            gates = there x.0 x.1 (nat_le (size v) (length x.1.answers)) (sym (behind_is x.0 x.1) ∙ q);
          }
      go k private (Err e) so kept q = absurd (ended e kept.0 q)

      by : (x : Secrecy) → v.secrecy ≡ x → OpensLast s h
      by Plain e = absurd (never (declassified w v s) ((plain_quiet e).from s) is)
      by (Private k) e = go k e (before s) refl (before_quiet.from s) (sym (parts k e s) ∙ is)

  module _ (d : Dealt) (proper : IsProper v) (kinds : List Kind) (s : Stage) (at : IsAt w d kinds none_of s)
      (stands : AllStand (run_at w d kinds s) (facts_of v)) where
    before_suits : Suits w d (facts_of v) none_of before (drawn_by (words_each own_size)) (λ u. fact u ring own_words ∷ []) (Any {A = ℕ})
    before_suits =
        suits_bind w d (plain_charge w d (facts_of v) (size v)) (λ _ _.
        suits_bind w d (draw_suits w d (facts_of v) (words_each own_size)) (λ _ _.
        number_suits w d (facts_of v) (drawn_by (words_each own_size)) v (tell_same (facts_of v)) proper.range))

    -- the gates that are added, of which the last one opens a value of as many words
    pub record OpensSized (h : Stage) : Type 0 where
      pub front : List Gate
      pub number : ℕ
      pub gates : h.gates ≡ s.gates ++ (front ++ Open ring number ∷ [])
      pub sized : size_of (sizes_after (sizes_of d.inputs) [] (s.gates ++ front)) number ≡ own_size

    pub opens_sized : (h : Stage) → OpensLast s h → OpensSized h
    opens_sized h o =
        let come : Comes w d s o.at kinds (drawn_by (words_each own_size)) (fact o.u ring own_words ∷ []) (Unit {0}) =
        subst (λ (r : Run ℕ). ComesAt w d s kinds r (drawn_by (words_each own_size)) (λ u. fact u ring own_words ∷ []) (Any {A = ℕ})) o.before_is
        (before_suits.from kinds s at stands) in
        record {
          front = come.grown.gates;
          number = o.u;
          gates =
              o.gates ∙ ap (λ gs. gs ++ Open ring o.u ∷ []) come.grown.more_gates
              ∙ append_assoc s.gates come.grown.gates (Open ring o.u ∷ []);
          sized =
              ap (λ gs. size_of (sizes_after (sizes_of d.inputs) [] gs) o.u) (sym come.grown.more_gates)
              ∙ stands_size (run_at w d come.later o.at) come.stage.formed o.u ring own_words come.facts.0
              ∙ gate_words_size v.shape.element v.words;
        }
