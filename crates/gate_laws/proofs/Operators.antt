-- The gates of operators between private operands.
use Rattle.std.proofs.Common.{◌≡◌, ℕ, ◌*◌, ◌<◌, ◌^◌, List, [], ◌∷◌, length, map, true, false, refl, sym, ap, ◌∙◌, subst, arith}
use Rattle.std.specs.Prelude.{nat_eq, nat_lt, replicate, bit_and, bit_xor, ◌%◌, ◌+◌}
use Rattle.shared_plans.proofs.Models.{length-each_two}
use Rattle.proto_core.specs.Rings.{add_ring, xor_ring}
use Rattle.gates.specs.declared.ring_kind.RingKind.{RingKind}
use Rattle.gates.specs.declared.ring_kind.RingKind.TheVariants.{Arithmetic, Boolean}
use Rattle.gates.specs.declared.gate.Gate.TheVariants as gates
use Rattle.gates.specs.Clear.{each_two}
use Rattle.gates.specs.Counts.{Miner, Miner1, Miner2, Miner3}
use Rattle.gates.specs.WordTests.{zero_test, less_test}
use Rattle.plans.specs.Equality.{eq_plan}
use Rattle.plans.specs.EqualityLaw as equality
use Rattle.plans.specs.Compare.{less_plan}
use Rattle.plans.specs.CompareLaw as compare
use Rattle.plans.specs.Signed.{signed_less_plan}
use Rattle.signed_words.specs.Signed.{signed_less}
use Rattle.shared_plans.specs.Plans.{zero_test_kinds, comparison_kinds, signed_comparison_kinds}
use Rattle.program_trees.specs.declared.operators.OperatorSign.{OperatorSign}
use Rattle.program_trees.specs.declared.operators.OperatorSign.TheVariants as word
use Rattle.program_trees.specs.declared.operators.BoolOperator.{BoolOperator}
use Rattle.program_trees.specs.declared.operators.BoolOperator.TheVariants as truth
use Rattle.program_trees.specs.declared.operators.BinaryOperator.{BinaryOperator}
use Rattle.program_trees.specs.declared.operators.BinaryOperator.TheVariants.{Words, Ints, Bools}
use Rattle.program_trees.specs.Operators.{element_made}
use Rattle.language_model.specs.Effects.{World, Effect, ◌>>=◌, gate, words_each}
use Rattle.language_model.specs.Values.{ring_for, gate_words}
use Rattle.language_model.specs.Words.{flipped, meaning}
use Rattle.language_model.specs.Operations.{flip, words_for_equality, words_for_order, words_of_operator}
use Rattle.language_model.specs.Operations.{zero_gates, equal_gates, less_gates, signed_less_gates, or_gates, operator_gates}
use Rattle.gate_laws.specs.Facts.{none_of, Fact, Suits}
use Rattle.gate_laws.specs.Dealt.{InRange, drawn_by, Dealt}
use Rattle.gate_laws.specs.Rows.{element_taken, has_gates}
use Rattle.gate_laws.proofs.Effects.{Tell, Any, suits_bind}
use Rattle.gate_laws.proofs.Gains.{fact, gate_suits, planned_suits}
use Rattle.gate_laws.proofs.Singles.{add_gain, sub_gain, mul_gain, xor_gain, and_gain, pack_gain}
use Rattle.gates.specs.Bits.{words_for}
use Rattle.gates.specs.Gathered.{packed}
use Rattle.gates.proofs.Packing.{length-packed, packed-words, packed-flip, packed-xor, packed-and}
use Rattle.proto_core.specs.Lists.{at}
use Rattle.gate_laws.proofs.Plans.{zero_gain, less_gain, signed_less_gain}
use Rattle.gate_laws.proofs.Parts.{tell_first, const_suits}
use Rattle.gate_laws.proofs.Ranges.{Below, two_same, two_below, replicate_below, length_replicated, below_more, truth_below}
use Rattle.gate_laws.proofs.Meanings.{map_two, two_of_two, two_ext, two_swapped, equal_word, less_word, flipped_truth, at_most_word}
use Rattle.gate_laws.proofs.Meanings.{signed_below, flip_parity, xor_parity, differ_parity, and_word_parity, or_words, equal_words, xor_small, and_small}

packed_alike : (xs ys : List ℕ) → length xs ≡ length ys → length (packed xs) ≡ length (packed ys)
packed_alike xs ys e = length-packed xs ∙ ap words_for e ∙ sym (length-packed ys)

false_true : false ≡ true → ⊥
false_true h = cc

abbrev pub Numbered : RingKind → List ℕ → ℕ → List Fact
Numbered ring ws k = fact k ring ws ∷ []

-- these facts tell of both operands
abbrev pub Both : List Fact → (u v : ℕ) → RingKind → (us vs : List ℕ) → Type 0
Both fs u v ring us vs = Tell fs (fact u ring us ∷ fact v ring vs ∷ [])

pub same_each : (n : ℕ) (m : Miner) → drawn_by (words_each n) m ≡ n
same_each n Miner1 = refl
same_each n Miner2 = refl
same_each n Miner3 = refl

pub equality_words : (n : ℕ) (m : Miner) → drawn_by (words_for_equality n) m ≡ equality.words_taken m n
equality_words n Miner1 = refl
equality_words n Miner2 = refl
equality_words n Miner3 = refl

pub order_words : (n : ℕ) (m : Miner) → drawn_by (words_for_order n) m ≡ compare.words_taken m n
order_words n Miner1 = refl
order_words n Miner2 = refl
order_words n Miner3 = refl

module _ (w : World) (d : Dealt) where
  -- the same words in other terms
  pub in_terms : {fs : List Fact} {before after : Miner → ℕ} {c : Effect ℕ} {ring : RingKind} {xs ys : List ℕ} → xs ≡ ys
      → Suits w d fs before c after (Numbered ring xs) (Any {A = ℕ})
      → Suits w d fs before c after (Numbered ring ys) (Any {A = ℕ})
  in_terms {fs = fs} {before = before} {after = after} {c = c} {ring = ring} e h = subst (λ z. Suits w d fs before c after (Numbered ring z) (Any {A = ℕ})) e h

  pub flip_suits : (fs : List Fact) (owed : Miner → ℕ) (n u : ℕ) (us : List ℕ) → Tell fs (fact u Boolean (packed us) ∷ []) → length us ≡ n → Below 2 us
      → Suits w d fs owed (flip n u) owed (Numbered Boolean (packed (map flipped us))) (Any {A = ℕ})
  flip_suits fs owed n u us t size low =
      let ones = replicate n 1 in
      suits_bind w d (const_suits w d fs owed Boolean (packed ones) (packed-words ones)) (λ k _.
      in_terms (sym (packed-flip flipped us (λ k lt. flip_parity (at us k) (low k))
      ∙ ap (λ n. each_two xor_ring.add (packed us) (packed (replicate n 1))) size))
      (gate_suits w d (fact k Boolean (packed ones) ∷ fs) owed (λ m. 0 * length (packed us)) owed (gates.Xor u k) Boolean
      (each_two xor_ring.add (packed us) (packed ones)) (λ m. omega arith) refl
      (λ r good facts. xor_gain r good u k (packed us) (packed ones) (packed_alike us ones (size ∙ sym (length_replicated n 1))) (t.from r facts.1).0 facts.0)))

  -- numbers are tested for 0
  pub zero_suits : (fs : List Fact) (n u : ℕ) (us : List ℕ) → Tell fs (fact u Arithmetic us ∷ []) → length us ≡ n
      → Suits w d fs (drawn_by (words_for_equality n)) (zero_gates u) none_of (Numbered Boolean (packed (map zero_test us))) (Any {A = ℕ})
  zero_suits fs n u us t size =
      suits_bind w d
      (planned_suits w d fs (drawn_by (words_for_equality n)) (λ m. equality.words_taken m (length us)) none_of (λ first. eq_plan first u) zero_test_kinds
      16 Boolean (map zero_test us) (λ m. let e = equality_words n m ∙ ap (equality.words_taken m) (sym size) in omega (arith, e)) (λ first. refl)
      (λ r good facts. zero_gain r good u us (t.from r facts).0)) (λ z _.
      gate_suits w d (fact z Boolean (map zero_test us) ∷ fs) none_of none_of none_of (gates.Pack z) Boolean (packed (map zero_test us)) (λ m. refl) refl
      (λ r good facts. pack_gain r good z (map zero_test us) facts.0))

  module _ (fs : List Fact) (n u v : ℕ) (us vs : List ℕ) (left : length us ≡ n) (right : length vs ≡ n) where
    abbrev same : length us ≡ length vs
    same = left ∙ sym right

    -- ---- the order of numbers

    -- gates of an order, and what they tell of each two words
    abbrev Compares : (ℕ → ℕ → ℕ → Effect ℕ) → (ℕ → ℕ → ℕ) → Type 0
    Compares less f =
        (a b : ℕ) (xs ys : List ℕ) → Both fs a b Arithmetic xs ys → length xs ≡ n → length ys ≡ n → Below (2 ^ 64) xs → Below (2 ^ 64) ys
        → Suits w d fs (drawn_by (words_for_order n)) (less n a b) none_of (Numbered Boolean (packed (each_two f xs ys))) (Any {A = ℕ})

    unsigned_suits : Compares less_gates less_test
    unsigned_suits a b xs ys s e f p q =
        suits_bind w d
        (planned_suits w d fs (drawn_by (words_for_order n)) (λ m. compare.words_taken m n) none_of (λ first. less_plan first a b n) comparison_kinds
        109 Boolean (each_two less_test xs ys) (λ m. let g = order_words n m in omega (arith, g)) (λ first. refl)
        (λ r good facts. less_gain r good n a b xs ys (s.from r facts).0 (s.from r facts).1.0 e f)) (λ z _.
        gate_suits w d (fact z Boolean (each_two less_test xs ys) ∷ fs) none_of none_of none_of (gates.Pack z) Boolean
        (packed (each_two less_test xs ys)) (λ m. refl) refl
        (λ r good facts. pack_gain r good z (each_two less_test xs ys) facts.0))

    signed_suits : Compares signed_less_gates signed_less
    signed_suits a b xs ys s e f p q =
        suits_bind w d
        (planned_suits w d fs (drawn_by (words_for_order n)) (λ m. compare.words_taken m n) none_of (λ first. signed_less_plan first a b n)
        signed_comparison_kinds
        112 Boolean (each_two signed_less xs ys) (λ m. let g = order_words n m in omega (arith, g)) (λ first. refl)
        (λ r good facts. signed_less_gain r good n a b xs ys p q (s.from r facts).0 (s.from r facts).1.0 e f)) (λ z _.
        gate_suits w d (fact z Boolean (each_two signed_less xs ys) ∷ fs) none_of none_of none_of (gates.Pack z) Boolean
        (packed (each_two signed_less xs ys)) (λ m. refl) refl
        (λ r good facts. pack_gain r good z (each_two signed_less xs ys) facts.0))

    -- ---- numbers

    module _ (t : Both fs u v Arithmetic us vs) (p : Below (2 ^ 64) us) (q : Below (2 ^ 64) vs) where
      exchanged : Both fs v u Arithmetic vs us
      exchanged = record { from = λ r facts. ((t.from r facts).1.0, ((t.from r facts).0, tt)) }

      equal_suits : Suits w d fs (drawn_by (words_for_equality n)) (equal_gates u v) none_of
          (Numbered Boolean (packed (each_two (meaning (Words word.Equal)) us vs)))
          (Any {A = ℕ})
      equal_suits =
          let ds = each_two add_ring.sub us vs in
          let size : length ds ≡ n = length-each_two add_ring.sub us vs same ∙ left in
          suits_bind w d
          (gate_suits w d fs (drawn_by (words_for_equality n)) (λ m. 0 * length us) (drawn_by (words_for_equality n)) (gates.Sub u v) Arithmetic ds
          (λ m. omega arith) refl
          (λ r good facts. sub_gain r good u v us vs same (t.from r facts).0 (t.from r facts).1.0)) (λ k _.
          in_terms (ap packed (map_two zero_test add_ring.sub us vs ∙ two_same (2 ^ 64) (λ x y. zero_test (add_ring.sub x y))
          (meaning (Words word.Equal)) us vs equal_word p q))
          (zero_suits (fact k Arithmetic ds ∷ fs) n k ds (tell_first (fact k Arithmetic ds) fs) size))

      -- the first of each two is less
      less_suits : Suits w d fs (drawn_by (words_for_order n)) (less_gates n u v) none_of
          (Numbered Boolean (packed (each_two (meaning (Words word.Less)) us vs)))
          (Any {A = ℕ})
      less_suits = in_terms (ap packed (two_ext less_test (meaning (Words word.Less)) us vs less_word)) (unsigned_suits u v us vs t left right p q)

      greater_suits : Suits w d fs (drawn_by (words_for_order n)) (less_gates n v u) none_of
          (Numbered Boolean (packed (each_two (meaning (Words word.Greater)) us vs))) (Any {A = ℕ})
      greater_suits =
          in_terms (ap packed (two_ext less_test (meaning (Words word.Less)) vs us less_word ∙ two_swapped (meaning (Words word.Less)) us vs))
          (unsigned_suits v u vs us exchanged right left q p)

      signed_less_suits : Suits w d fs (drawn_by (words_for_order n)) (signed_less_gates n u v) none_of
          (Numbered Boolean (packed (each_two signed_less us vs))) (Any {A = ℕ})
      signed_less_suits = signed_suits u v us vs t left right p q

      signed_greater_suits : Suits w d fs (drawn_by (words_for_order n)) (signed_less_gates n v u) none_of
          (Numbered Boolean (packed (each_two (meaning (Ints word.Greater)) us vs))) (Any {A = ℕ})
      signed_greater_suits = in_terms (ap packed (two_swapped signed_less us vs)) (signed_suits v u vs us exchanged right left q p)

      -- turned after
      turned_suits : (before : Miner → ℕ) (c : Effect ℕ) (f g : ℕ → ℕ → ℕ)
          → Suits w d fs before c none_of (Numbered Boolean (packed (each_two f us vs))) (Any {A = ℕ})
          → ((x y : ℕ) → f x y < 2) → ((x y : ℕ) → flipped (f x y) ≡ g x y)
          → Suits w d fs before (c >>= flip n) none_of (Numbered Boolean (packed (each_two g us vs))) (Any {A = ℕ})
      turned_suits before c f g h low e =
          suits_bind w d h (λ k _.
          in_terms (ap packed (map_two flipped f us vs ∙ two_ext (λ x y. flipped (f x y)) g us vs e))
          (flip_suits (fact k Boolean (packed (each_two f us vs)) ∷ fs) none_of n k (each_two f us vs)
          (tell_first (fact k Boolean (packed (each_two f us vs))) fs)
          (length-each_two f us vs same ∙ left)
          (two_below (2 ^ 64) 2 f us vs (omega arith) (λ x y a b. low x y) p q)))

      differ_suits : Suits w d fs (drawn_by (words_for_equality n)) (equal_gates u v >>= flip n) none_of
          (Numbered Boolean (packed (each_two (meaning (Words word.NotEqual)) us vs))) (Any {A = ℕ})
      differ_suits =
          turned_suits (drawn_by (words_for_equality n)) (equal_gates u v) (meaning (Words word.Equal)) (meaning (Words word.NotEqual)) equal_suits
          (λ x y. truth_below (nat_eq x y)) (λ x y. flipped_truth (nat_eq x y))

      sum_suits : Suits w d fs (drawn_by (words_each 0)) (gate (gates.Add u v)) none_of (Numbered Arithmetic (each_two add_ring.add us vs)) (Any {A = ℕ})
      sum_suits =
          gate_suits w d fs (drawn_by (words_each 0)) (λ m. 0 * length us) none_of (gates.Add u v) Arithmetic (each_two add_ring.add us vs)
          (λ m. let e = same_each 0 m in omega (arith, e)) refl (λ r good facts. add_gain r good u v us vs same (t.from r facts).0 (t.from r facts).1.0)

      difference_suits : Suits w d fs (drawn_by (words_each 0)) (gate (gates.Sub u v)) none_of
          (Numbered Arithmetic (each_two add_ring.sub us vs)) (Any {A = ℕ})
      difference_suits =
          gate_suits w d fs (drawn_by (words_each 0)) (λ m. 0 * length us) none_of (gates.Sub u v) Arithmetic (each_two add_ring.sub us vs)
          (λ m. let e = same_each 0 m in omega (arith, e)) refl (λ r good facts. sub_gain r good u v us vs same (t.from r facts).0 (t.from r facts).1.0)

      product_suits : Suits w d fs (drawn_by (words_each (3 * n))) (gate (gates.Mul u v)) none_of
          (Numbered Arithmetic (each_two add_ring.mul us vs)) (Any {A = ℕ})
      product_suits =
          gate_suits w d fs (drawn_by (words_each (3 * n))) (λ m. 3 * length us) none_of (gates.Mul u v) Arithmetic (each_two add_ring.mul us vs)
          (λ m. let e = same_each (3 * n) m in omega (arith, e, left)) refl
          (λ r good facts. mul_gain r good u v us vs same (t.from r facts).0 (t.from r facts).1.0)

      word_suits : (op : OperatorSign) → has_gates (Words op) ≡ true
          → Suits w d fs (drawn_by (words_of_operator (Words op) n)) (operator_gates (Words op) n u v) none_of
          (Numbered (ring_for (element_made (Words op))) (gate_words (element_made (Words op)) (each_two (meaning (Words op)) us vs))) (Any {A = ℕ})
      word_suits word.Add h = sum_suits
      word_suits word.Subtract h = difference_suits
      word_suits word.Multiply h = product_suits
      word_suits word.Equal h = equal_suits
      word_suits word.NotEqual h = differ_suits
      word_suits word.Less h = less_suits
      word_suits word.Greater h = greater_suits
      word_suits word.GreaterOrEqual h =
          turned_suits (drawn_by (words_for_order n)) (less_gates n u v) (meaning (Words word.Less)) (meaning (Words word.GreaterOrEqual)) less_suits
          (λ x y. truth_below (nat_lt x y)) at_most_word
      word_suits word.LessOrEqual h =
          turned_suits (drawn_by (words_for_order n)) (less_gates n v u) (meaning (Words word.Greater)) (meaning (Words word.LessOrEqual)) greater_suits
          (λ x y. truth_below (nat_lt y x)) (λ x y. at_most_word y x)
      word_suits word.Divide h = absurd (false_true h)
      word_suits word.Remainder h = absurd (false_true h)
      word_suits word.And h = absurd (false_true h)
      word_suits word.Or h = absurd (false_true h)
      word_suits word.Xor h = absurd (false_true h)

      -- the order alone is another one
      int_suits : (op : OperatorSign) → has_gates (Ints op) ≡ true
          → Suits w d fs (drawn_by (words_of_operator (Ints op) n)) (operator_gates (Ints op) n u v) none_of
          (Numbered (ring_for (element_made (Ints op))) (gate_words (element_made (Ints op)) (each_two (meaning (Ints op)) us vs))) (Any {A = ℕ})
      int_suits word.Add h = sum_suits
      int_suits word.Subtract h = difference_suits
      int_suits word.Multiply h = product_suits
      int_suits word.Equal h = equal_suits
      int_suits word.NotEqual h = differ_suits
      int_suits word.Less h = signed_less_suits
      int_suits word.Greater h = signed_greater_suits
      int_suits word.GreaterOrEqual h =
          turned_suits (drawn_by (words_for_order n)) (signed_less_gates n u v) signed_less (meaning (Ints word.GreaterOrEqual)) signed_less_suits
          signed_below (λ x y. refl)
      int_suits word.LessOrEqual h =
          turned_suits (drawn_by (words_for_order n)) (signed_less_gates n v u) (meaning (Ints word.Greater)) (meaning (Ints word.LessOrEqual))
          signed_greater_suits (λ x y. signed_below y x) (λ x y. refl)
      int_suits word.Divide h = absurd (false_true h)
      int_suits word.Remainder h = absurd (false_true h)
      int_suits word.And h = absurd (false_true h)
      int_suits word.Or h = absurd (false_true h)
      int_suits word.Xor h = absurd (false_true h)

    -- ---- truth values

    module _ (t : Both fs u v Boolean (packed us) (packed vs)) (p : Below 2 us) (q : Below 2 vs) where
      xor_suits : (gs : List Fact) (before after : Miner → ℕ) → Both gs u v Boolean (packed us) (packed vs) → ((m : Miner) → before m ≡ after m)
          → (f : ℕ → ℕ → ℕ) → ((x y : ℕ) → x < 2 → y < 2 → f x y % 2 ≡ (x + y) % 2)
          → Suits w d gs before (gate (gates.Xor u v)) after (Numbered Boolean (packed (each_two f us vs))) (Any {A = ℕ})
      xor_suits gs before after tell e f parity =
          in_terms (sym (packed-xor f us vs same (λ k lt. parity (at us k) (at vs k) (p k) (q k))))
          (gate_suits w d gs before (λ m. 0 * length (packed us)) after (gates.Xor u v) Boolean (each_two xor_ring.add (packed us) (packed vs))
          (λ m. let g = e m in omega (arith, g)) refl
          (λ r good facts. xor_gain r good u v (packed us) (packed vs) (packed_alike us vs same) (tell.from r facts).0 (tell.from r facts).1.0))

      abbrev words : ℕ
      words = words_for n

      packed_size : length (packed us) ≡ words
      packed_size = length-packed us ∙ ap words_for left

      and_suits : Suits w d fs (drawn_by (words_each (3 * words))) (gate (gates.And u v)) none_of
          (Numbered Boolean (packed (each_two bit_and us vs))) (Any {A = ℕ})
      and_suits =
          in_terms (sym (packed-and bit_and us vs same (λ k lt. and_word_parity (at us k) (at vs k) (p k) (q k))))
          (gate_suits w d fs (drawn_by (words_each (3 * words))) (λ m. 3 * length (packed us)) none_of (gates.And u v) Boolean
          (each_two xor_ring.mul (packed us) (packed vs))
          (λ m. let e = same_each (3 * words) m in omega (arith, e, packed_size)) refl
          (λ r good facts. and_gain r good u v (packed us) (packed vs) (packed_alike us vs same) (t.from r facts).0 (t.from r facts).1.0))

      -- one of them is true, or both are
      or_suits : Suits w d fs (drawn_by (words_each (3 * words))) (or_gates u v) none_of
          (Numbered Boolean (packed (each_two (meaning (Bools truth.Or)) us vs))) (Any {A = ℕ})
      or_suits =
          let one_words = each_two bit_xor us vs in
          let both_words = each_two bit_and us vs in
          let long = length-each_two bit_xor us vs same ∙ sym (length-each_two bit_and us vs same) in
          let one_low = two_below 2 2 bit_xor us vs (omega arith) xor_small p q in
          let both_low = two_below 2 2 bit_and us vs (omega arith) and_small p q in
          suits_bind w d and_suits (λ both _.
          suits_bind w d (xor_suits (fact both Boolean (packed both_words) ∷ fs) none_of none_of (record { from = λ r facts. t.from r facts.1 }) (λ m. refl)
          bit_xor xor_parity) (λ one _.
          in_terms (sym (packed-xor bit_xor one_words both_words long (λ k lt. xor_parity (at one_words k) (at both_words k) (one_low k) (both_low k)))
          ∙ ap packed (two_of_two bit_xor bit_xor bit_and us vs
          ∙ two_same 2 (λ x y. bit_xor (bit_xor x y) (bit_and x y)) (meaning (Bools truth.Or)) us vs or_words p q))
          (gate_suits w d (fact one Boolean (packed one_words) ∷ (fact both Boolean (packed both_words) ∷ fs)) none_of
          (λ m. 0 * length (packed one_words)) none_of (gates.Xor one both) Boolean
          (each_two xor_ring.add (packed one_words) (packed both_words)) (λ m. omega arith) refl
          (λ r good facts. xor_gain r good one both (packed one_words) (packed both_words) (packed_alike one_words both_words long)
          facts.0 facts.1.0))))

      none_each : (m : Miner) → drawn_by (words_each 0) m ≡ none_of m
      none_each m = same_each 0 m

      bool_suits : (op : BoolOperator)
          → Suits w d fs (drawn_by (words_of_operator (Bools op) n)) (operator_gates (Bools op) n u v) none_of
          (Numbered Boolean (packed (each_two (meaning (Bools op)) us vs)))
          (Any {A = ℕ})
      bool_suits truth.Xor = xor_suits fs (drawn_by (words_each 0)) none_of t none_each (meaning (Bools truth.Xor)) xor_parity
      bool_suits truth.NotEqual = xor_suits fs (drawn_by (words_each 0)) none_of t none_each (meaning (Bools truth.NotEqual)) differ_parity
      bool_suits truth.And = and_suits
      bool_suits truth.Or = or_suits
      bool_suits truth.Equal =
          let xs = each_two bit_xor us vs in
          suits_bind w d (xor_suits fs (drawn_by (words_each 0)) none_of t none_each bit_xor xor_parity) (λ k _.
          in_terms (ap packed (map_two flipped bit_xor us vs ∙ two_same 2 (λ x y. flipped (bit_xor x y)) (meaning (Bools truth.Equal)) us vs equal_words p q))
          (flip_suits (fact k Boolean (packed xs) ∷ fs) none_of n k xs (tell_first (fact k Boolean (packed xs)) fs) (length-each_two bit_xor us vs same ∙ left)
          (two_below 2 2 bit_xor us vs (omega arith) xor_small p q)))

    -- ---- all of them

    pub operator_suits : (op : BinaryOperator) → has_gates op ≡ true
        → Both fs u v (ring_for (element_taken op)) (gate_words (element_taken op) us) (gate_words (element_taken op) vs) → InRange (element_taken op) us
        → InRange (element_taken op) vs
        → Suits w d fs (drawn_by (words_of_operator op n)) (operator_gates op n u v) none_of
        (Numbered (ring_for (element_made op)) (gate_words (element_made op) (each_two (meaning op) us vs))) (Any {A = ℕ})
    operator_suits (Words op) h t p q = word_suits t p q op h
    operator_suits (Ints op) h t p q = int_suits t p q op h
    operator_suits (Bools op) h t p q = bool_suits t p q op
