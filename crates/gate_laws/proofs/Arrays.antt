-- Rows of arrays: joined, element by element, filled.
use Rattle.std.proofs.Common.{◌≡◌, ℕ, zero, suc, ◌+◌, ◌<◌, ◌≤◌, ◌^◌, List, [], ◌∷◌, ◌++◌, length, true, false, refl, sym, ap, subst, arith, length-append}
use Rattle.std.specs.Prelude.{get_or, nat_le, nat_lt, replicate, set}
use Rattle.std.proofs.lemmas.Bool.{leb-true, ltb-true}
use Rattle.sc_text.specs.declared.end.TrapKind.TheVariants as trap
use Rattle.program_trees.specs.declared.expression.DataType.{DataType}
use Rattle.gates.specs.declared.ring_kind.RingKind.{RingKind}
use Rattle.gates.specs.Clear.{first_word}
use Rattle.program_trees.specs.Shapes.{shape_of}
use Rattle.language_model.specs.Effects.{World, ◌>>=◌, test, gate}
use Rattle.language_model.specs.Values.{Secrecy, Plain, Private, Value, size, visible_words, seen_of, ring_for, gate_words}
use Rattle.language_model.specs.Operations.{charged, largest, not_too_large, number_of, made_private, concatenated_from, concatenated, position}
use Rattle.language_model.specs.Operations.{repeated_gate, element_gate, stored_gate, joined_gate}
use Rattle.language_model.specs.Operations.{element_from, element_of_array}
use Rattle.language_model.specs.Operations.{with_element_from, with_element, filled_from, filled}
use Rattle.gate_laws.specs.Facts.{IsProper, none_of, Fact, facts_of, Suits}
use Rattle.gate_laws.specs.Dealt.{bound, InRange, Dealt}
use Rattle.gate_laws.proofs.Effects.{NoFacts, suits_bind, charge_suits, test_suits, first_stand, second_stand}
use Rattle.gate_laws.proofs.Gains.{fact, gate_suits}
use Rattle.gate_laws.proofs.Chosen.{one_repeated, one_element, one_stored, one_joined, repeated_gain, element_gain, stored_gain, joined_gain}
use Rattle.gate_laws.proofs.Parts.{tell_same, tell_first, charged_suits, number_as, number_suits, given_suits, shown_suits}
use Rattle.gate_laws.proofs.Ranges.{Below, below_head, below_tail, one_below, append_below, set_below, replicate_below, first_below, length_replicated}
use Rattle.gate_laws.proofs.Meanings.{some_bound}

pub element_below : (b i : ℕ) (xs : List ℕ) → 0 < b → Below b xs → get_or xs i 0 < b
element_below b i [] some h = some
element_below b zero (x ∷ xs) some h = below_head b x xs h
element_below b (suc i) (x ∷ xs) some h = element_below b i xs some (below_tail b x xs h)

set_length : (xs : List ℕ) (i y : ℕ) → length (set xs i y) ≡ length xs
set_length [] i y = refl
set_length (x ∷ xs) zero y = refl
set_length (x ∷ xs) (suc i) y = ap suc (set_length xs i y)

few_words : (n : ℕ) → n ≤ largest → n < 2 ^ 64
few_words n h = omega (arith, h)

module _ (w : World) (d : Dealt) where
  -- the test that an array is not too large
  pub large_suits : (fs : List Fact) (line n : ℕ) → Suits w d fs none_of (charged (not_too_large line n) n) none_of (NoFacts {A = Unit {0}})
      (λ u. nat_le n largest ≡ true)
  large_suits fs line n = charged_suits w d fs (not_too_large line n) n (nat_le n largest ≡ true) (test_suits w d fs (nat_le n largest) trap.Large line)

  inside_suits : (fs : List Fact) (line i n : ℕ) → Suits w d fs none_of (test (nat_lt i n) trap.Index line) none_of (NoFacts {A = Unit {0}})
      (λ u. nat_lt i n ≡ true)
  inside_suits fs line i n = test_suits w d fs (nat_lt i n) trap.Index line

  -- ---- one after another

  module _ (x y : Value) (p : IsProper x) (q : IsProper y) (same : y.shape.element ≡ x.shape.element) where
    abbrev both : List Fact
    both = facts_of x ++ facts_of y

    abbrev element : DataType
    element = x.shape.element

    right_range : InRange element y.words
    right_range = subst (λ e. InRange e y.words) same q.range

    joined_range : InRange element (x.words ++ y.words)
    joined_range = append_below (bound element) x.words y.words p.range right_range

    joined_small : size x + size y ≤ largest → length (x.words ++ y.words) < 2 ^ 64
    joined_small few = subst (λ n. n < 2 ^ 64) (sym (length-append x.words y.words)) (few_words (size x + size y) few)

    cat_suits : size x + size y ≤ largest
        → Suits w d both none_of (number_of x >>= λ u. number_of y >>= λ v. gate (joined_gate element u (size x) v (size y)) >>= λ r.
        made_private x.shape (x.words ++ y.words) r)
        none_of facts_of IsProper
    cat_suits few =
        let ring = ring_for element in
        suits_bind w d (number_suits w d both none_of x (record { from = λ r k. first_stand r (facts_of x) (facts_of y) k }) p.range) (λ u _.
        suits_bind w d
        (number_as w d (fact u ring (gate_words element x.words) ∷ both) none_of element y same
        (record { from = λ r k. second_stand r (facts_of x) (facts_of y) k.1 })
        right_range) (λ v _.
        suits_bind w d
        (gate_suits w d (fact v ring (gate_words element y.words) ∷ (fact u ring (gate_words element x.words) ∷ both)) none_of none_of none_of
        (joined_gate element u (size x) v (size y)) ring (gate_words element (x.words ++ y.words)) (λ m. refl) (one_joined element u (size x) v (size y))
        (λ r good facts. joined_gain r good element u v x.words y.words facts.1.0 facts.0)) (λ r _.
        given_suits w d _ x.shape (x.words ++ y.words) r (tell_first _ _) joined_range (joined_small few))))

    concatenated_from_suits : (a b : Secrecy) → size x + size y ≤ largest → Suits w d both none_of (concatenated_from a b x y) none_of facts_of IsProper
    concatenated_from_suits Plain Plain few = shown_suits w d both x.shape (x.words ++ y.words) joined_range (joined_small few)
    concatenated_from_suits Plain (Private k) few = cat_suits few
    concatenated_from_suits (Private j) Plain few = cat_suits few
    concatenated_from_suits (Private j) (Private k) few = cat_suits few

    pub concatenated_suits : (line : ℕ) → Suits w d both none_of (concatenated line x y) none_of facts_of IsProper
    concatenated_suits line =
        suits_bind w d (large_suits both line (size x + size y)) (λ _ few. concatenated_from_suits x.secrecy y.secrecy (leb-true (size x + size y) largest few))

  -- ---- an element

  module _ (v : Value) (p : IsProper v) where
    abbrev fs : List Fact
    fs = facts_of v

    abbrev ring : RingKind
    ring = ring_for v.shape.element

    element_range : (i : ℕ) → InRange v.shape.element (get_or v.words i 0 ∷ [])
    element_range i =
        one_below (bound v.shape.element) (get_or v.words i 0) (element_below (bound v.shape.element) i v.words (some_bound v.shape.element) p.range)

    element_from_suits : (a : Secrecy) (i : ℕ) → i < size v → Suits w d fs none_of (element_from a v i) none_of facts_of IsProper
    element_from_suits Plain i inside = shown_suits w d fs (shape_of v.shape.element false) (get_or v.words i 0 ∷ []) (element_range i) (omega arith)
    element_from_suits (Private k) i inside =
        suits_bind w d (number_suits w d fs none_of v (tell_same fs) p.range) (λ u _.
        suits_bind w d
        (gate_suits w d (fact u ring (gate_words v.shape.element v.words) ∷ fs) none_of none_of none_of (element_gate v.shape.element u i) ring
        (gate_words v.shape.element (get_or v.words i 0 ∷ [])) (λ m. refl) (one_element v.shape.element u i)
        (λ r good facts. element_gain r good v.shape.element u i v.words p.range facts.0 inside)) (λ r _.
        given_suits w d _ (shape_of v.shape.element false) (get_or v.words i 0 ∷ []) r (tell_first _ _) (element_range i) (omega arith)))

    pub element_suits : (line : ℕ) (i : Value) → Suits w d fs none_of (element_of_array line v i) none_of facts_of IsProper
    element_suits line i =
        suits_bind w d (charge_suits w d fs 1) (λ _ _. suits_bind w d (inside_suits fs line (position i) (size v)) (λ _ inside.
        element_from_suits v.secrecy (position i) (ltb-true (position i) (size v) inside)))

    -- ---- equal elements

    filled_range : (n : ℕ) → InRange v.shape.element (replicate n (first_word v.words))
    filled_range n = replicate_below (bound v.shape.element) n (first_word v.words)
        (first_below (bound v.shape.element) v.words (some_bound v.shape.element) p.range)

    filled_small : (n : ℕ) → n ≤ largest → length (replicate n (first_word v.words)) < 2 ^ 64
    filled_small n few = subst (λ k. k < 2 ^ 64) (sym (length_replicated n (first_word v.words))) (few_words n few)

    filled_from_suits : (a : Secrecy) (n : ℕ) → length v.words ≡ 1 → n ≤ largest → Suits w d fs none_of (filled_from a n v) none_of facts_of IsProper
    filled_from_suits Plain n single few =
        shown_suits w d fs (shape_of v.shape.element true) (replicate n (first_word v.words)) (filled_range n) (filled_small n few)
    filled_from_suits (Private k) n single few =
        suits_bind w d (number_suits w d fs none_of v (tell_same fs) p.range) (λ u _.
        suits_bind w d
        (gate_suits w d (fact u ring (gate_words v.shape.element v.words) ∷ fs) none_of none_of none_of (repeated_gate v.shape.element u n) ring
        (gate_words v.shape.element (replicate n (first_word v.words))) (λ m. refl) (one_repeated v.shape.element u n)
        (λ r good facts. repeated_gain r good v.shape.element u n v.words facts.0 single)) (λ r _.
        given_suits w d _ (shape_of v.shape.element true) (replicate n (first_word v.words)) r (tell_first _ _) (filled_range n) (filled_small n few)))

    pub filled_suits : (line : ℕ) (n : Value) → length v.words ≡ 1 → Suits w d fs none_of (filled line n v) none_of facts_of IsProper
    filled_suits line n single =
        suits_bind w d (large_suits fs line (position n)) (λ _ few. filled_from_suits v.secrecy (position n) single (leb-true (position n) largest few))

  -- ---- an element changed

  module _ (v x : Value) (p : IsProper v) (q : IsProper x) (same : x.shape.element ≡ v.shape.element) (single : length x.words ≡ 1) where
    abbrev bound_here : ℕ
    bound_here = bound v.shape.element

    value_range : InRange v.shape.element x.words
    value_range = subst (λ e. InRange e x.words) same q.range

    set_small : (i y : ℕ) → length (set v.words i y) < 2 ^ 64
    set_small i y = subst (λ n. n < 2 ^ 64) (sym (set_length v.words i y)) p.small

    seen_low : (a : Secrecy) → first_word (seen_of a x.words) < bound_here
    seen_low Plain = first_below bound_here x.words (some_bound v.shape.element) value_range
    seen_low (Private k) = some_bound v.shape.element

    with_element_from_suits : (a : Secrecy) (i : ℕ) → i < size v → Suits w d (facts_of v ++ facts_of x) none_of
        (with_element_from a v i x) none_of facts_of IsProper
    with_element_from_suits Plain i inside =
        shown_suits w d (facts_of v ++ facts_of x) v.shape (set v.words i (first_word (visible_words x)))
        (set_below bound_here i (first_word (visible_words x)) v.words (seen_low x.secrecy) p.range) (set_small i (first_word (visible_words x)))
    with_element_from_suits (Private k) i inside =
        let ring = ring_for v.shape.element in
        let all = facts_of v ++ facts_of x in
        let words = set v.words i (first_word x.words) in
        suits_bind w d (number_suits w d all none_of v (record { from = λ r k. first_stand r (facts_of v) (facts_of x) k }) p.range) (λ u _.
        suits_bind w d
        (number_as w d (fact u ring (gate_words v.shape.element v.words) ∷ all) none_of v.shape.element x same
        (record { from = λ r k. second_stand r (facts_of v) (facts_of x) k.1 })
        value_range) (λ e _.
        suits_bind w d
        (gate_suits w d (fact e ring (gate_words v.shape.element x.words) ∷ (fact u ring (gate_words v.shape.element v.words) ∷ all)) none_of none_of none_of
        (stored_gate v.shape.element u i e) ring (gate_words v.shape.element words) (λ m. refl) (one_stored v.shape.element u i e)
        (λ r good facts. stored_gain r good v.shape.element u i e v.words x.words facts.1.0 facts.0 inside single)) (λ r _.
        given_suits w d _ v.shape words r (tell_first _ _)
        (set_below bound_here i (first_word x.words) v.words (first_below bound_here x.words (some_bound v.shape.element) value_range) p.range)
        (set_small i (first_word x.words)))))

    pub with_element_suits : (line : ℕ) (i : Value) → Suits w d (facts_of v ++ facts_of x) none_of (with_element line v i x) none_of facts_of IsProper
    with_element_suits line i =
        let all = facts_of v ++ facts_of x in
        suits_bind w d (charge_suits w d all 1) (λ _ _. suits_bind w d (inside_suits all line (position i) (size v)) (λ _ inside.
        with_element_from_suits v.secrecy (position i) (ltb-true (position i) (size v) inside)))
