-- Rows with two operands.
use Rattle.std.proofs.Common.{◌≡◌, ℕ, ◌<◌, ◌^◌, List, [], ◌∷◌, ◌++◌, length, Bool, true, false, refl, sym, ap, ◌∙◌, subst, arith}
use Rattle.std.proofs.lemmas.Bool.{eqb-true}
use Rattle.shared_plans.proofs.Models.{length-each_two}
use Rattle.sc_text.specs.declared.end.TrapKind.TheVariants as trap
use Rattle.program_trees.specs.declared.expression.DataType.{DataType}
use Rattle.program_trees.specs.declared.expression.DataType.TheVariants.{Uint64, Int64}
use Rattle.program_trees.specs.declared.expression.DataType.TheVariants as datatype
use Rattle.proto_core.specs.RingsKeepLaws.{add_ring_laws, xor_ring_laws}
use Rattle.gates.specs.declared.gate.Gate.TheVariants.{MulPub}
use Rattle.gates.specs.Clear.{each_two, first_word, ring_of}
use Rattle.program_trees.specs.declared.operators.OperatorSign.TheVariants as word
use Rattle.program_trees.specs.declared.operators.BoolOperator.TheVariants as truth
use Rattle.program_trees.specs.declared.operators.BinaryOperator.{BinaryOperator}
use Rattle.program_trees.specs.declared.operators.BinaryOperator.TheVariants.{Words, Ints, Bools}
use Rattle.program_trees.specs.declared.operators.Operands.{Operands}
use Rattle.program_trees.specs.declared.operators.Operands.TheVariants.{Scalars, ArrayAndScalar, ScalarAndArray, Arrays}
use Rattle.program_trees.specs.Operators.{element_made}
use Rattle.language_model.specs.Effects.{World}
use Rattle.language_model.specs.Values.{Secrecy, Plain, Private, Value, is_secret, size, visible_words, ring_for, gate_words}
use Rattle.language_model.specs.Words as W
use Rattle.language_model.specs.Operations.{words_of_operator, is_scalar_left, is_scalar_right, is_product, result_shape, stretched}
use Rattle.language_model.specs.Operations.{private_result, product_with, combined_from, operator_traps, operated}
use Rattle.code_model.specs.Kinded.{left_array, right_array}
use Rattle.gate_laws.specs.Facts.{HasRange, IsProper, none_of, Fact, facts_of, Suits}
use Rattle.gate_laws.specs.Dealt.{bound, InRange, drawn_by, Dealt}
use Rattle.gate_laws.specs.Rows.{element_taken, has_gates, secrecy_suits, OperandsSuit}
use Rattle.gate_laws.proofs.Effects.{Tell, Any, suits_bind, suits_with, test_suits, draw_suits, first_stand, second_stand}
use Rattle.gate_laws.proofs.Gains.{fact, gate_suits}
use Rattle.gate_laws.proofs.Singles.{mulpub_gain}
use Rattle.gate_laws.proofs.Parts.{tell_same, tell_first, stretched_words, charged_suits, number_as, number_suits, stretched_suits, given_as, shown_suits}
use Rattle.gate_laws.proofs.Ranges.{two_same, replicate_below, length_replicated, first_below}
use Rattle.gate_laws.proofs.Meanings.{two_ext, two_swapped, and_bits, operator_range, some_bound}
use Rattle.gate_laws.proofs.Operators.{Numbered, in_terms, operator_suits}
use Rattle.gate_laws.proofs.GateWords.{same_gate_size}
use Rattle.proto_core.specs.Lists.{at}
use Rattle.proto_core.specs.Rings.{xor_ring}
use Rattle.gates.proofs.Packing.{packed-and}
use Rattle.gate_laws.proofs.Meanings.{and_parity}

pub made_element : (op : BinaryOperator) (ds : Operands) → (result_shape op ds).element ≡ element_made op
made_element op Scalars = refl
made_element op ArrayAndScalar = refl
made_element op ScalarAndArray = refl
made_element op Arrays = refl

module _ (op : BinaryOperator) (ds : Operands) (x y : Value) (h : OperandsSuit op ds x y) where
  abbrev n : ℕ
  n = W.result_size ds x y

  abbrev taken : DataType
  taken = element_taken op

  left_in : InRange taken x.words
  left_in = subst (λ e. InRange e x.words) h.left_element h.left.range

  right_in : InRange taken y.words
  right_in = subst (λ e. InRange e y.words) h.right_element h.right.range

  left_stretch : (ds : Operands) → stretched_words (is_scalar_left ds) (W.result_size ds x y) x.words ≡ W.left_words ds x y
  left_stretch Scalars = refl
  left_stretch ArrayAndScalar = refl
  left_stretch ScalarAndArray = refl
  left_stretch Arrays = refl

  right_stretch : (ds : Operands) → stretched_words (is_scalar_right ds) (W.result_size ds x y) y.words ≡ W.right_words ds x y
  right_stretch Scalars = refl
  right_stretch ArrayAndScalar = refl
  right_stretch ScalarAndArray = refl
  right_stretch Arrays = refl

  left_size : (ds : Operands) → (left_array ds ≡ false → length x.words ≡ 1) → length (W.left_words ds x y) ≡ W.result_size ds x y
  left_size Scalars s = s refl
  left_size ArrayAndScalar s = refl
  left_size ScalarAndArray s = length_replicated (size y) (first_word x.words)
  left_size Arrays s = refl

  right_size : (ds : Operands) → (right_array ds ≡ false → length y.words ≡ 1) → W.are_alike ds x y ≡ true
      → length (W.right_words ds x y) ≡ W.result_size ds x y
  right_size Scalars s a = s refl
  right_size ArrayAndScalar s a = length_replicated (size x) (first_word y.words)
  right_size ScalarAndArray s a = refl
  right_size Arrays s a = sym (eqb-true (size x) (size y) a)

  left_low : (ds : Operands) → InRange taken (W.left_words ds x y)
  left_low Scalars = left_in
  left_low ArrayAndScalar = left_in
  left_low ScalarAndArray = replicate_below (bound taken) (size y) (first_word x.words) (first_below (bound taken) x.words (some_bound taken) left_in)
  left_low Arrays = left_in

  right_low : (ds : Operands) → InRange taken (W.right_words ds x y)
  right_low Scalars = right_in
  right_low ArrayAndScalar = replicate_below (bound taken) (size x) (first_word y.words) (first_below (bound taken) y.words (some_bound taken) right_in)
  right_low ScalarAndArray = right_in
  right_low Arrays = right_in

  result_low : InRange (element_made op) (W.result_words op ds x y)
  result_low = operator_range op (W.left_words ds x y) (W.right_words ds x y) (left_low ds) (right_low ds)

  size_small : (ds : Operands) → W.result_size ds x y < 2 ^ 64
  size_small Scalars = omega arith
  size_small ArrayAndScalar = h.left.small
  size_small ScalarAndArray = h.right.small
  size_small Arrays = h.left.small

  result_small : W.are_alike ds x y ≡ true → length (W.result_words op ds x y) < 2 ^ 64
  result_small alike =
      let left = left_size ds h.left_single in
      let right = right_size ds h.right_single alike in
      subst (λ n. n < 2 ^ 64) (sym (length-each_two (W.meaning op) (W.left_words ds x y) (W.right_words ds x y) (left ∙ sym right) ∙ left)) (size_small ds)

  left_one : is_scalar_left ds ≡ true → length x.words ≡ 1
  left_one e = h.left_single (go ds e)
    where
      go : (ds : Operands) → is_scalar_left ds ≡ true → left_array ds ≡ false
      go Scalars e = refl
      go ArrayAndScalar e = sym e
      go ScalarAndArray e = refl
      go Arrays e = sym e

  right_one : is_scalar_right ds ≡ true → length y.words ≡ 1
  right_one e = h.right_single (go ds e)
    where
      go : (ds : Operands) → is_scalar_right ds ≡ true → right_array ds ≡ false
      go Scalars e = refl
      go ArrayAndScalar e = refl
      go ScalarAndArray e = sym e
      go Arrays e = sym e

  module _ (w : World) (d : Dealt) where
    abbrev both : List Fact
    both = facts_of x ++ facts_of y

    tell_left : Tell both (facts_of x)
    tell_left = record { from = λ r k. first_stand r (facts_of x) (facts_of y) k }

    tell_right : Tell both (facts_of y)
    tell_right = record { from = λ r k. second_stand r (facts_of x) (facts_of y) k }

    private_suits : has_gates op ≡ true → W.are_alike ds x y ≡ true → Suits w d both none_of (private_result w op ds x y) none_of facts_of IsProper
    private_suits gates alike =
        let ring = ring_for taken in
        let owed = drawn_by (words_of_operator op n) in
        let us = W.left_words ds x y in
        let vs = W.right_words ds x y in
        suits_bind w d (draw_suits w d both (words_of_operator op n)) (λ _ _.
        suits_bind w d (number_as w d both owed taken x h.left_element tell_left left_in) (λ j _.
        suits_bind w d (number_as w d (fact j ring (gate_words taken x.words) ∷ both) owed taken y h.right_element
        (record { from = λ r k. tell_right.from r k.1 }) right_in)
        (λ k _.
        suits_bind w d
        (subst (λ e. Suits w d (fact k ring (gate_words taken y.words) ∷ (fact j ring (gate_words taken x.words) ∷ both)) owed
        (stretched e (is_scalar_left ds) n j) owed (Numbered ring (gate_words taken us)) (Any {A = ℕ})) (sym h.left_element)
        (in_terms w d (ap (gate_words taken) (left_stretch ds))
        (stretched_suits w d (fact k ring (gate_words taken y.words) ∷ (fact j ring (gate_words taken x.words) ∷ both)) owed taken (is_scalar_left ds) n j
        x.words
        (record { from = λ r k. (k.1.0, tt) }) left_one))) (λ u _.
        suits_bind w d
        (subst (λ e. Suits w d
        (fact u ring (gate_words taken us) ∷ (fact k ring (gate_words taken y.words) ∷ (fact j ring (gate_words taken x.words) ∷ both))) owed
        (stretched e (is_scalar_right ds) n k) owed (Numbered ring (gate_words taken vs)) (Any {A = ℕ})) (sym h.right_element)
        (in_terms w d (ap (gate_words taken) (right_stretch ds))
        (stretched_suits w d
        (fact u ring (gate_words taken us) ∷ (fact k ring (gate_words taken y.words) ∷ (fact j ring (gate_words taken x.words) ∷ both))) owed taken
        (is_scalar_right ds) n k y.words
        (record { from = λ r k. (k.1.0, tt) }) right_one))) (λ v _.
        suits_bind w d
        (operator_suits w d (fact v ring (gate_words taken vs) ∷ (fact u ring (gate_words taken us) ∷ (fact k ring (gate_words taken y.words)
        ∷ (fact j ring (gate_words taken x.words) ∷ both)))) n u v us vs (left_size ds h.left_single)
        (right_size ds h.right_single alike) op gates (record { from = λ r k. (k.1.0, (k.0, tt)) }) (left_low ds) (right_low ds)) (λ r _.
        given_as w d _ (element_made op) (result_shape op ds) (W.result_words op ds x y) r (made_element op ds) (tell_first _ _) result_low
        (result_small alike)))))))

-- ---- a private operand and public words

-- what the ring makes of the words is the words of what it makes of the elements
product_words : (e : DataType) (us known : List ℕ) → length us ≡ length known → InRange e us → InRange e known
    → each_two (ring_of (ring_for e)).mul (gate_words e us) (gate_words e known) ≡ gate_words e (each_two (ring_of (ring_for e)).mul us known)
product_words Uint64 us known same p q = refl
product_words Int64 us known same p q = refl
product_words datatype.Bool us known same p q = sym (packed-and xor_ring.mul us known same (λ k l. and_parity (at us k) (at known k) (p k) (q k)))

-- the product of the ring is what the operator means
product_meaning : (op : BinaryOperator) → is_product op ≡ true → (x y : ℕ) → x < bound (element_taken op) → y < bound (element_taken op)
    → (ring_of (ring_for (element_taken op))).mul x y ≡ W.meaning op x y
product_meaning (Words word.Multiply) h x y p q = refl
product_meaning (Ints word.Multiply) h x y p q = refl
product_meaning (Bools truth.And) h x y p q = and_bits x y p q
product_meaning op h x y p q = cc

product_element : (op : BinaryOperator) → is_product op ≡ true → element_made op ≡ element_taken op
product_element (Words word.Multiply) h = refl
product_element (Ints word.Multiply) h = refl
product_element (Bools op) h = refl
product_element op h = cc

product_swaps : (e : DataType) (x y : ℕ) → (ring_of (ring_for e)).mul x y ≡ (ring_of (ring_for e)).mul y x
product_swaps Uint64 x y = add_ring_laws.mul_comm x y
product_swaps Int64 x y = add_ring_laws.mul_comm x y
product_swaps datatype.Bool x y = xor_ring_laws.mul_comm x y

module _ (w : World) (d : Dealt) (op : BinaryOperator) (ds : Operands) where
  product_suits :
      (fs : List Fact) (scalar : Bool) (x : Value) (known us words : List ℕ) → is_product op ≡ true → Tell fs (facts_of x) → HasRange x
      → x.shape.element ≡ element_taken op → (scalar ≡ true → length x.words ≡ 1) → stretched_words scalar (length known) x.words ≡ us
      → length us ≡ length known → InRange x.shape.element us → InRange x.shape.element known
      → each_two (ring_of (ring_for (element_taken op))).mul us known ≡ words → InRange (element_made op) words → length words < 2 ^ 64
      → Suits w d fs none_of (product_with op ds scalar x known words) none_of facts_of IsProper
  product_suits fs scalar x known us words product t range e single stretch same us_low known_low mean low small =
      let ring = ring_for x.shape.element in
      let gw = gate_words x.shape.element in
      let made = made_element op ds ∙ product_element op product ∙ sym e in
      suits_bind w d (number_suits w d fs none_of x t range) (λ j _.
      suits_bind w d (in_terms w d (ap gw stretch) (stretched_suits w d (fact j ring (gw x.words) ∷ fs) none_of x.shape.element scalar (length known) j x.words
      (tell_first _ _) single)) (λ u _.
      suits_bind w d
      (in_terms w d (product_words x.shape.element us known same us_low known_low
      ∙ ap gw (subst (λ z. each_two (ring_of (ring_for z)).mul us known ≡ words) (sym e) mean))
      (gate_suits w d (fact u ring (gw us) ∷ (fact j ring (gw x.words) ∷ fs)) none_of none_of none_of (MulPub ring u (gw known)) ring
      (each_two (ring_of ring).mul (gw us) (gw known)) (λ m. refl) refl
      (λ r good facts. mulpub_gain r good u ring (gw us) facts.0 (gw known) (same_gate_size x.shape.element us known same)))) (λ r _.
      given_as w d _ x.shape.element (result_shape op ds) words r made (tell_first _ _)
      (subst (λ z. InRange z words) (product_element op product ∙ sym e) low) small)))

module _ (w : World) (d : Dealt) (op : BinaryOperator) (ds : Operands) (x y : Value) (h : OperandsSuit op ds x y) (alike : W.are_alike ds x y ≡ true) where
  abbrev all : List Fact
  all = facts_of x ++ facts_of y

  left_product : is_product op ≡ true
      → Suits w d all none_of (product_with op ds (is_scalar_left ds) x (W.right_words ds x y) (W.result_words op ds x y)) none_of facts_of IsProper
  left_product product =
      let us = W.left_words ds x y in
      let vs = W.right_words ds x y in
      let size = right_size op ds x y h ds h.right_single alike in
      product_suits w d op ds all (is_scalar_left ds) x vs us (W.result_words op ds x y) product (tell_left op ds x y h w d) h.left.range h.left_element
      (left_one op ds x y h) (ap (λ n. stretched_words (is_scalar_left ds) n x.words) size ∙ left_stretch op ds x y h ds)
      (left_size op ds x y h ds h.left_single ∙ sym size)
      (subst (λ e. InRange e us) (sym h.left_element) (left_low op ds x y h ds)) (subst (λ e. InRange e vs) (sym h.left_element) (right_low op ds x y h ds))
      (two_same (bound (element_taken op)) (ring_of (ring_for (element_taken op))).mul (W.meaning op) us vs (product_meaning op product)
      (left_low op ds x y h ds) (right_low op ds x y h ds))
      (result_low op ds x y h) (result_small op ds x y h alike)

  right_product : is_product op ≡ true
      → Suits w d all none_of (product_with op ds (is_scalar_right ds) y (W.left_words ds x y) (W.result_words op ds x y)) none_of facts_of IsProper
  right_product product =
      let us = W.left_words ds x y in
      let vs = W.right_words ds x y in
      let mul = (ring_of (ring_for (element_taken op))).mul in
      let size = left_size op ds x y h ds h.left_single in
      product_suits w d op ds all (is_scalar_right ds) y us vs (W.result_words op ds x y) product (tell_right op ds x y h w d) h.right.range h.right_element
      (right_one op ds x y h) (ap (λ n. stretched_words (is_scalar_right ds) n y.words) size ∙ right_stretch op ds x y h ds)
      (right_size op ds x y h ds h.right_single alike ∙ sym size)
      (subst (λ e. InRange e vs) (sym h.right_element) (right_low op ds x y h ds)) (subst (λ e. InRange e us) (sym h.right_element) (left_low op ds x y h ds))
      (two_swapped mul us vs ∙ two_ext (λ x y. mul y x) mul us vs (λ x y. product_swaps (element_taken op) y x)
      ∙ two_same (bound (element_taken op)) mul (W.meaning op) us vs (product_meaning op product) (left_low op ds x y h ds) (right_low op ds x y h ds))
      (result_low op ds x y h) (result_small op ds x y h alike)

  combined_suits : (a b : Secrecy) → secrecy_suits op (is_secret a) (is_secret b)
      → Suits w d all none_of (combined_from a b w op ds x y) none_of facts_of IsProper
  combined_suits Plain Plain s =
      shown_suits w d all (result_shape op ds) (W.result_words op ds x y)
      (subst (λ z. InRange z (W.result_words op ds x y)) (sym (made_element op ds)) (result_low op ds x y h)) (result_small op ds x y h alike)
  combined_suits (Private j) (Private k) s = private_suits op ds x y h w d s alike
  combined_suits (Private j) Plain s = left_product s
  combined_suits Plain (Private k) s = right_product s

-- ---- the row

pub operated_suits : (w : World) (d : Dealt) (line : ℕ) (op : BinaryOperator) (ds : Operands) (x y : Value) → OperandsSuit op ds x y
    → Suits w d (facts_of x ++ facts_of y) none_of (operated w line op ds x y) none_of facts_of IsProper
operated_suits w d line op ds x y h =
    let fs = facts_of x ++ facts_of y in
    suits_bind w d
    (charged_suits w d fs (operator_traps line op ds x y) (W.result_size ds x y) (W.are_alike ds x y ≡ true)
    (suits_bind w d (test_suits w d fs (W.are_alike ds x y) trap.Length line) (λ _ alike.
    suits_with w d (test_suits w d fs (W.may_divide op (visible_words y)) trap.Div line) (λ _ _. tell_same []) (λ _ _. alike)))) (λ _ alike.
    combined_suits w d op ds x y h alike x.secrecy y.secrecy h.secrecy)
