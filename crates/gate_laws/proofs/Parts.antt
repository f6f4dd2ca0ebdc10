-- The parts of a row: charges, numbers of values, scalars beside arrays, and the value that is given.
use Rattle.std.proofs.Common.{◌≡◌, ℕ, ◌-◌, ◌<◌, ◌^◌, List, [], ◌∷◌, length, Some, None, Bool, true, false, refl, sym, subst, arith}
use Rattle.std.specs.Prelude.{replicate, IsTrue}
use Rattle.program_trees.specs.declared.expression.DataType.{DataType}
use Rattle.program_trees.specs.declared.expression.DataType.TheVariants.{Uint64, Int64}
use Rattle.program_trees.specs.declared.expression.DataType.TheVariants as datatype
use Rattle.proto_core.specs.Lists.{at, AreWords}
use Rattle.gates.specs.declared.ring_kind.RingKind.{RingKind}
use Rattle.gates.specs.declared.ring_kind.RingKind.TheVariants.{Arithmetic}
use Rattle.gates.specs.declared.gate.Gate.TheVariants.{Const}
use Rattle.gates.specs.Clear.{first_word}
use Rattle.gates.specs.Counts.{Miner}
use Rattle.program_trees.specs.declared.kinds.Shape.{Shape}
use Rattle.language_model.specs.Effects.{World, Effect, done, gate}
use Rattle.language_model.specs.Values.{Secrecy, Plain, Private, Value, plain, size, ring_for, gate_words}
use Rattle.language_model.specs.Operations.{charged, no_traps, number_from, number_of, repeated_gate, stretched, made_private, classified_from, classified}
use Rattle.verified_code.specs.Fitting.{is_number}
use Rattle.gate_laws.specs.Facts.{HasRange, IsProper, none_of, Fact, fact_from, facts_of, Suits}
use Rattle.gate_laws.specs.Dealt.{InRange, Dealt}
use Rattle.gate_laws.proofs.Effects.{Tell, Any, NoFacts, suits_bind, suits_with, suits_done, charge_suits}
use Rattle.gate_laws.proofs.Gains.{fact, gate_suits}
use Rattle.gate_laws.proofs.Singles.{const_gain}
use Rattle.gate_laws.proofs.Chosen.{one_repeated, repeated_gain}
use Rattle.gate_laws.proofs.GateWords.{gate_words_are}

pub range_words : (e : DataType) (words : List ℕ) → InRange e words → AreWords words
range_words Uint64 words h = h
range_words Int64 words h = h
range_words datatype.Bool words h = λ k. let low : at words k < 2 = h k in omega arith

-- ---- numbers, with or without a sign

no_numbers : {P : Type 0} → IsTrue (is_number datatype.Bool) → P
no_numbers h = cc

pub number_range : (e : DataType) (words : List ℕ) → IsTrue (is_number e) → AreWords words → InRange e words
number_range Uint64 words ok h = h
number_range Int64 words ok h = h
number_range datatype.Bool words ok h = no_numbers ok

-- they stand in the same facts, whatever their type
pub number_facts : (a : Secrecy) (e : DataType) (words : List ℕ) → IsTrue (is_number e) → fact_from a e words ≡ fact_from a Uint64 words
number_facts Plain e words ok = refl
number_facts (Private None) e words ok = refl
number_facts (Private (Some k)) Uint64 words ok = refl
number_facts (Private (Some k)) Int64 words ok = refl
number_facts (Private (Some k)) datatype.Bool words ok = no_numbers ok

-- ---- what is told

pub tell_same : (fs : List Fact) → Tell fs fs
tell_same fs = record { from = λ r h. h }

pub tell_none : (fs : List Fact) → Tell fs []
tell_none fs = record { from = λ r h. tt }

pub tell_later : (f : Fact) (fs gs : List Fact) → Tell fs gs → Tell (f ∷ fs) gs
tell_later f fs gs t = record { from = λ r h. t.from r h.1 }

pub tell_first : (f : Fact) (fs : List Fact) → Tell (f ∷ fs) (f ∷ [])
tell_first f fs = record { from = λ r h. (h.0, tt) }

-- a scalar beside an array
abbrev pub stretched_words : Bool → ℕ → List ℕ → List ℕ
stretched_words true n us = replicate n (first_word us)
stretched_words false n us = us

module _ (w : World) (d : Dealt) where
  pub charged_suits : (fs : List Fact) (t : Effect (Unit {0})) (n : ℕ) (R : Type 0) → Suits w d fs none_of t none_of (NoFacts {A = Unit {0}}) (λ u. R)
      → Suits w d fs none_of (charged t n) none_of (NoFacts {A = Unit {0}}) (λ u. R)
  charged_suits fs t n R h =
      suits_bind w d (charge_suits w d fs 1) (λ _ _. suits_bind w d h (λ _ r. suits_with w d (charge_suits w d fs (n - 1)) (λ _ _. tell_same []) (λ _ _. r)))

  pub plain_charge : (fs : List Fact) (n : ℕ) → Suits w d fs none_of (charged no_traps n) none_of (NoFacts {A = Unit {0}}) (Any {A = Unit {0}})
  plain_charge fs n = charged_suits fs no_traps n (Unit {0}) (suits_done w d (tell_none fs) tt)

  module _ (fs : List Fact) (owed : Miner → ℕ) where
    -- a constant, however it is shared
    pub const_suits : (ring : RingKind) (words : List ℕ) → AreWords words → Suits w d fs owed (gate (Const words)) owed (λ k. fact k ring words ∷ [])
        (Any {A = ℕ})
    const_suits ring words ok =
        gate_suits w d fs owed none_of owed (Const words) ring words (λ m. omega arith) refl (λ r good facts. const_gain r good ring words ok)

    number_from_suits : (a : Secrecy) (e : DataType) (words : List ℕ) → Tell fs (fact_from a e words) → InRange e words
        → Suits w d fs owed (number_from a (gate_words e words)) owed (λ k. fact k (ring_for e) (gate_words e words) ∷ []) (Any {A = ℕ})
    number_from_suits (Private (Some k)) e words t range = suits_done w d t tt
    number_from_suits (Private None) e words t range = const_suits (ring_for e) (gate_words e words) (gate_words_are e words range)
    number_from_suits Plain e words t range = const_suits (ring_for e) (gate_words e words) (gate_words_are e words range)

    -- the number of a value, whose words it has
    pub number_suits : (v : Value) → Tell fs (facts_of v) → HasRange v
        → Suits w d fs owed (number_of v) owed (λ k. fact k (ring_for v.shape.element) (gate_words v.shape.element v.words) ∷ []) (Any {A = ℕ})
    number_suits v t range = number_from_suits v.secrecy v.shape.element v.words t range

    -- the number of a value of these elements, whose words it has
    pub number_as : (e : DataType) (v : Value) → v.shape.element ≡ e → Tell fs (facts_of v) → InRange e v.words
        → Suits w d fs owed (number_of v) owed (λ k. fact k (ring_for e) (gate_words e v.words) ∷ []) (Any {A = ℕ})
    number_as e v same t range =
        subst (λ z. Suits w d fs owed (number_of v) owed (λ k. fact k (ring_for z) (gate_words z v.words) ∷ []) (Any {A = ℕ})) same
        (number_suits v t (subst (λ z. InRange z v.words) (sym same) range))

    pub stretched_suits : (e : DataType) (scalar : Bool) (n u : ℕ) (us : List ℕ) → Tell fs (fact u (ring_for e) (gate_words e us) ∷ [])
        → (scalar ≡ true → length us ≡ 1)
        → Suits w d fs owed (stretched e scalar n u) owed (λ k. fact k (ring_for e) (gate_words e (stretched_words scalar n us)) ∷ []) (Any {A = ℕ})
    stretched_suits e true n u us t single =
        gate_suits w d fs owed none_of owed (repeated_gate e u n) (ring_for e) (gate_words e (replicate n (first_word us))) (λ m. omega arith)
        (one_repeated e u n)
        (λ r good facts. repeated_gain r good e u n us (t.from r facts).0 (single refl))
    stretched_suits e false n u us t single = suits_done w d t tt

    -- the number of a value of numbers, whose words it has
    pub number_of_numbers : (v : Value) → IsTrue (is_number v.shape.element) → Tell fs (facts_of v) → HasRange v
        → Suits w d fs owed (number_of v) owed (λ k. fact k Arithmetic v.words ∷ []) (Any {A = ℕ})
    number_of_numbers v ok t range = as_numbers v.shape.element ok (number_suits v t range)
      where
        as_numbers : (e : DataType) → IsTrue (is_number e)
            → Suits w d fs owed (number_of v) owed (λ k. fact k (ring_for e) (gate_words e v.words) ∷ []) (Any {A = ℕ})
            → Suits w d fs owed (number_of v) owed (λ k. fact k Arithmetic v.words ∷ []) (Any {A = ℕ})
        as_numbers Uint64 ok h = h
        as_numbers Int64 ok h = h
        as_numbers datatype.Bool ok h = no_numbers ok

  -- the value of a number
  pub given_suits : (fs : List Fact) (shape : Shape) (words : List ℕ) (k : ℕ) → Tell fs (fact k (ring_for shape.element) (gate_words shape.element words) ∷ [])
      → InRange shape.element words
      → length words < 2 ^ 64 → Suits w d fs none_of (made_private shape words k) none_of facts_of IsProper
  given_suits fs shape words k t range small = suits_done w d t (record { range = range; small = small })

  pub given_as : (fs : List Fact) (e : DataType) (shape : Shape) (words : List ℕ) (k : ℕ) → shape.element ≡ e
      → Tell fs (fact k (ring_for e) (gate_words e words) ∷ []) → InRange e words
      → length words < 2 ^ 64 → Suits w d fs none_of (made_private shape words k) none_of facts_of IsProper
  given_as fs e shape words k same t range small =
      given_suits fs shape words k (subst (λ z. Tell fs (fact k (ring_for z) (gate_words z words) ∷ [])) (sym same) t)
      (subst (λ z. InRange z words) (sym same) range) small

  pub given_numbers : (fs : List Fact) (shape : Shape) (words : List ℕ) (k : ℕ) → IsTrue (is_number shape.element) → Tell fs (fact k Arithmetic words ∷ [])
      → AreWords words → length words < 2 ^ 64 → Suits w d fs none_of (made_private shape words k) none_of facts_of IsProper
  given_numbers fs shape words k ok t range small =
      given_suits fs shape words k (subst (Tell fs) (sym (number_facts (Private (Some k)) shape.element words ok)) t)
      (number_range shape.element words ok range) small

  -- a public value
  pub shown_suits : (fs : List Fact) (shape : Shape) (words : List ℕ) → InRange shape.element words → length words < 2 ^ 64
      → Suits w d fs none_of (done (plain shape words)) none_of facts_of IsProper
  shown_suits fs shape words range small = suits_done w d (tell_none fs) (record { range = range; small = small })

  -- a value that is there
  pub itself_suits : (fs : List Fact) (v : Value) → Tell fs (facts_of v) → IsProper v → Suits w d fs none_of (done v) none_of facts_of IsProper
  itself_suits fs v t proper = suits_done w d t proper

  -- ---- classification

  classified_from_suits : (a : Secrecy) (v : Value) → IsProper v → Suits w d (facts_of v) none_of (classified_from a v) none_of facts_of IsProper
  classified_from_suits (Private k) v proper = itself_suits (facts_of v) v (tell_same (facts_of v)) proper
  classified_from_suits Plain v proper =
      let fs = facts_of v in
      suits_bind w d (plain_charge fs (size v)) (λ _ _.
      suits_bind w d
      (const_suits fs none_of (ring_for v.shape.element) (gate_words v.shape.element v.words) (gate_words_are v.shape.element v.words proper.range)) (λ k _.
      given_suits (fact k (ring_for v.shape.element) (gate_words v.shape.element v.words) ∷ fs) v.shape v.words k
      (tell_first (fact k (ring_for v.shape.element) (gate_words v.shape.element v.words)) fs)
      proper.range proper.small))

  pub classified_suits : (v : Value) → IsProper v → Suits w d (facts_of v) none_of (classified v) none_of facts_of IsProper
  classified_suits v proper = classified_from_suits v.secrecy v proper
