-- Rows that give nothing to later steps: what goes to the client, and tests; and rows that begin: literals and inputs.
use Rattle.std.proofs.Common.{◌≡◌, ℕ, ◌<◌, List, [], ◌∷◌, length, Option, Some, None, Bool, true, false, refl, subst, arith, append-nil, ◌++◌, ap, sym, ◌∙◌}
use Rattle.std.specs.Prelude.{bytes_eq, if◌then◌else◌}
use Rattle.std.proofs.lemmas.Bool.{and_parts}
use Rattle.std.proofs.lemmas.Option.{none-some}
use Rattle.sc_text.specs.declared.end.Ending.TheVariants as ending
use Rattle.sc_text.specs.declared.end.TrapKind.TheVariants as trap
use Rattle.sc_text.specs.declared.event.Event.TheVariants as event
use Rattle.program_trees.specs.declared.expression.DataType.{DataType}
use Rattle.gates.specs.declared.gate.Gate.TheVariants as gates
use Rattle.program_trees.specs.declared.kinds.Shape.{Shape}
use Rattle.program_trees.specs.Shapes.{shape_of}
use Rattle.language_model.specs.Effects.{World, GivenInput, Effect, ◌>>=◌, done, draw, test, gate, emit, words_each}
use Rattle.language_model.specs.Values.{Secrecy, Plain, Private, Value, plain, size, ring_for, gate_words, gate_size, elements_of, is_true, printed_kind}
use Rattle.language_model.specs.Operations.{number_of, handed_over, publication, published, tested, asserted}
use Rattle.language_model.specs.Evaluation.{same_truth, same_shape, is_as_declared, behind, input_from, input_named, given_value, asked_for}
use Rattle.gates.specs.declared.ring_kind.RingKind.{RingKind}
use Rattle.gates.specs.declared.gate.Gate.{Gate}
use Rattle.gates.specs.Clear.{Values, FitFrom}
use Rattle.gates.specs.Counts.{Miner}
use Rattle.gates.proofs.Sizes.{FitFrom-append}
use Rattle.shared_plans.specs.Shares.{Kind, Shared}
use Rattle.shared_plans.specs.Model.{miner_of}
use Rattle.shared_plans.specs.Computed.{opened_values}
use Rattle.shared_plans.proofs.PlanRuns.{longer-formed, words-then, made-then}
use Rattle.gate_laws.specs.Facts.{IsProper, handed_values, Handed, and_handed, none_of, Fact, facts_of, run_at, Suits}
use Rattle.gate_laws.specs.Dealt.{bound, drawn_by, Dealt}
use Rattle.gate_laws.specs.Offers.{IsOffered, AreOffered}
use Rattle.gate_laws.proofs.Effects.{Tell, Any, NoFacts, suits_bind, suits_again, suits_with, suits_done, suits_end, charge_suits, test_suits, publish_suits}
use Rattle.gate_laws.proofs.Effects.{draw_suits}
use Rattle.gate_laws.proofs.Gains.{fact, gate_from, opened_split, handed_split}
use Rattle.gate_laws.proofs.Singles.{result_follows, input_gain}
use Rattle.gate_laws.proofs.Parts.{tell_same, tell_none, tell_first, charged_suits, plain_charge, number_suits, given_suits, shown_suits}
use Rattle.gate_laws.proofs.Ranges.{one_below}
use Rattle.gate_laws.proofs.GateWords.{gate_words_size, learned_still}
use Rattle.gate_laws.proofs.Operators.{same_each}

-- ---- literals

pub literal_proper : (e : DataType) (n : ℕ) → n < bound e → IsProper (plain (shape_of e false) (n ∷ []))
literal_proper e n lt = record { range = one_below (bound e) n lt; small = omega arith }

module _ (w : World) (d : Dealt) where
  -- ---- what goes to the client

  module _ (v : Value) (p : IsProper v) where
    abbrev ring : RingKind
    ring = ring_for v.shape.element

    abbrev own_words : List ℕ
    own_words = gate_words v.shape.element v.words

    abbrev own_size : ℕ
    own_size = gate_size v.shape.element (size v)

    abbrev telling : Secrecy → List ℕ → Unit {0} → Effect (Unit {0})
    telling a text = λ _. emit (publication a v.shape.element text (elements_of v))

    -- the gate, and then the event
    handing_suits : (fs : List Fact) (k : Option ℕ) (text : List ℕ) (u : ℕ) → Tell fs (fact u ring own_words ∷ [])
        → Suits w d fs (drawn_by (words_each own_size)) ((gate (gates.Result ring u) >>= λ _. done tt) >>= telling (Private k) text) none_of
        (NoFacts {A = Unit {0}}) (Any {A = Unit {0}})
    handing_suits fs k text u t =
        record {
          from = λ kinds s at facts.
              let run = run_at w d kinds s in
              let gs : List Gate = gates.Result ring u ∷ [] in
              let own : List Kind = Shared ring ∷ [] in
              let h = (t.from run facts).0 in
              let follows = result_follows run at.formed u ring own_words h in
              let taken = λ (m : Miner). length own_words in
              let before = λ (values : Values) (fit : FitFrom d.inputs values 0 (s.gates ++ gs)). (FitFrom-append d.inputs values 0 s.gates gs fit).0 in
              record {
                later = kinds ++ own;
                grown = record { gates = gs; own = own; more_gates = refl; more_kinds = refl };
                stage = record {
                  formed = longer-formed run gs own taken at.formed follows;
                  made = let e = made-then s.gates gs in omega (arith, at.made);
                  drawn = λ i.
                      let more = words-then run gs own taken at.formed follows i in
                      let owed = same_each own_size (miner_of i) in
                      let own = gate_words_size v.shape.element v.words in
                      omega (arith, at.drawn i, owed, own);
                  answers = at.answers;
                  handed = λ values fit.
                      subst (Handed (s.events ++ event.Hand text (printed_kind v.shape.element) (elements_of v) ∷ []))
                      (ap (λ z. handed_values values s.gates ++ z ∷ []) (sym (h.words values (before values fit))) ∙ sym (handed_split values s.gates gs))
                      (and_handed text v.shape.element v.words p.range (at.handed values (before values fit)));
                  opened = λ clear values fit.
                      learned_still s.events (event.Hand text (printed_kind v.shape.element) (elements_of v)) refl ∙ at.opened clear values (before values fit)
                      ∙ sym (append-nil (opened_values values s.gates)) ∙ sym (opened_split values s.gates gs);
                };
                facts = tt;
                sure = tt;
              };
        }

    handed_suits : (text : List ℕ) (a : Secrecy)
        → Suits w d (facts_of v) none_of (handed_over w a v >>= telling a text) none_of (NoFacts {A = Unit {0}}) (Any {A = Unit {0}})
    handed_suits text Plain =
        suits_bind w d (suits_done w d {F = NoFacts {A = Unit {0}}} {R = Any {A = Unit {0}}} (tell_none (facts_of v)) tt)
        (λ _ _. publish_suits w d (facts_of v) none_of text (elements_of v))
    handed_suits text (Private k) =
        let owed = drawn_by (words_each own_size) in
        suits_again w d (draw w (words_each own_size)) (λ _. number_of v >>= λ u. gate (gates.Result ring u) >>= λ _. done tt) (telling (Private k) text)
        (suits_bind w d (draw_suits w d (facts_of v) (words_each own_size)) (λ _ _.
        suits_again w d (number_of v) (λ u. gate (gates.Result ring u) >>= λ _. done tt) (telling (Private k) text)
        (suits_bind w d (number_suits w d (facts_of v) owed v (tell_same (facts_of v)) p.range) (λ u _.
        handing_suits (fact u ring own_words ∷ facts_of v) k text u (tell_first _ _)))))

    pub published_suits : (text : List ℕ) → Suits w d (facts_of v) none_of (published w text v) none_of (NoFacts {A = Unit {0}}) (Any {A = Unit {0}})
    published_suits text = suits_bind w d (plain_charge w d (facts_of v) (size v)) (λ _ _. handed_suits text v.secrecy)

  -- ---- tests

  pub tested_suits : (fs : List Fact) (v : Value) → Suits w d fs none_of (tested v) none_of (NoFacts {A = Bool}) (Any {A = Bool})
  tested_suits fs v = suits_bind w d (charge_suits w d fs 1) (λ _ _. suits_done w d (tell_none fs) tt)

  pub asserted_suits : (fs : List Fact) (line : ℕ) (v : Value) → Suits w d fs none_of (asserted line v) none_of (NoFacts {A = Unit {0}}) (Any {A = Unit {0}})
  asserted_suits fs line v =
      suits_bind w d (charge_suits w d fs 1) (λ _ _. suits_with w d (test_suits w d fs (is_true v) trap.Assert line) (λ _ _. tell_same []) (λ _ _. tt))

  -- ---- inputs

  given_suits_of : (secret : Bool) (x : GivenInput) (k : ℕ) → IsOffered d x k → x.secret ≡ secret
      → Suits w d [] none_of (given_value secret x k) none_of facts_of IsProper
  given_suits_of false x k o e = shown_suits w d [] x.shape x.words o.range o.small
  given_suits_of true x k o e =
      let ring = ring_for x.shape.element in
      let dealt = o.dealt e in
      suits_bind w d
      (gate_from w d [] none_of none_of none_of (gates.Input k) ring (gate_words x.shape.element x.words) (λ m. refl) refl
      (λ kinds s good facts. input_gain _ good k ring (gate_words x.shape.element x.words) dealt.there dealt.words dealt.kind)) (λ r _.
      given_suits w d _ x.shape x.words r (tell_first _ _) o.range o.small)

  truths_same : (a b : Bool) → same_truth a b ≡ true → a ≡ b
  truths_same true true h = refl
  truths_same true false h = cc
  truths_same false true h = cc
  truths_same false false h = refl

  asked_suits_of : (secret : Bool) (shape : Shape) (line : ℕ) (o : Option (GivenInput × ℕ)) → ((x : GivenInput × ℕ) → o ≡ Some x → IsOffered d x.0 x.1)
      → Suits w d [] none_of (asked_for secret shape line o) none_of facts_of IsProper
  asked_suits_of secret shape line None h = suits_bind w d (charge_suits w d [] 1) (λ _ _. suits_end w d (ending.Trap trap.Argument line))
  asked_suits_of secret shape line (Some x) h =
      suits_bind w d
      (charged_suits w d [] (test (is_as_declared secret shape x.0) trap.Argument line) (length x.0.words) (is_as_declared secret shape x.0 ≡ true)
      (test_suits w d [] (is_as_declared secret shape x.0) trap.Argument line)) (λ _ declared.
      given_suits_of secret x.0 x.1 (h x refl) (truths_same x.0.secret secret
      (and_parts (same_truth x.0.secret secret) (same_shape x.0.shape shape) declared).0))

  offered_there : (k : ℕ) (text : List ℕ) (xs : List GivenInput) (x : GivenInput × ℕ) → AreOffered d k xs → input_from k text xs ≡ Some x → IsOffered d x.0 x.1
  offered_there k text [] x h e = absurd (none-some x e)
  offered_there k text (y ∷ ys) x h e = go (bytes_eq text y.text) e (offered_there (behind y k) text ys x h.1)
    where
      found : (a b : GivenInput × ℕ) → IsOffered d a.0 a.1 → ◌≡◌ {A = Option (GivenInput × ℕ)} (Some a) (Some b) → IsOffered d b.0 b.1
      found a b h e = subst Holds e h
        where
          Holds : Option (GivenInput × ℕ) → Type 0
          Holds None = Unit {0}
          Holds (Some z) = IsOffered d z.0 z.1

      go : (b : Bool) → (if b then Some (y, k) else input_from (behind y k) text ys) ≡ Some x
          → (input_from (behind y k) text ys ≡ Some x → IsOffered d x.0 x.1) → IsOffered d x.0 x.1
      go true e rest = found (y, k) x h.0 e
      go false e rest = rest e

  pub asked_suits : (secret : Bool) (shape : Shape) (line : ℕ) (text : List ℕ) → AreOffered d 0 w.inputs
      → Suits w d [] none_of (asked_for secret shape line (input_named w text)) none_of facts_of IsProper
  asked_suits secret shape line text h = asked_suits_of secret shape line (input_named w text) (λ x e. offered_there 0 text w.inputs x h e)
