-- Rows with one operand.
use Rattle.std.proofs.Common.{◌≡◌, ℕ, ◌*◌, ◌<◌, ◌≤◌, ◌^◌, ◌%◌, List, [], ◌∷◌, length, map, Bool, true, false, not, refl, sym, ap, ◌∙◌, subst, arith}
use Rattle.std.proofs.Common.{length-append}
use Rattle.std.specs.Prelude.{sum, ◌==◌, nat_le, IsTrue, if◌then◌else◌}
use Rattle.std.specs.List.{flat_map, range_with_len}
use Rattle.std.specs.Int.{bit_at}
use Rattle.std.proofs.lemmas.Nat.Bits.{bit_at-lt}
use Rattle.std.proofs.lemmas.Bool.{leb-true}
use Rattle.std.proofs.lemmas.List.{length-map}
use Rattle.std.proofs.lemmas.Nat.{mod_below}
use Rattle.sc_text.specs.declared.end.TrapKind.TheVariants as trap
use Rattle.program_trees.specs.declared.expression.DataType.{DataType}
use Rattle.program_trees.specs.declared.expression.DataType.TheVariants.{Uint64, Int64}
use Rattle.program_trees.specs.declared.expression.DataType.TheVariants as datatype
use Rattle.gates.specs.declared.ring_kind.RingKind.TheVariants.{Arithmetic, Boolean}
use Rattle.gates.specs.declared.gate.Gate.TheVariants as gates
use Rattle.gates.specs.Clear.{bits_of}
use Rattle.gates.specs.Counts.{Miner, Miner1, Miner2, Miner3, words_of_conversion}
use Rattle.gates.specs.WordTests.{zero_test}
use Rattle.plans.specs.BitExtract.{bits_plan}
use Rattle.plans.specs.BitExtractLaw as bits
use Rattle.shared_plans.specs.Plans.{bits_kinds}
use Rattle.program_trees.specs.declared.operators.Cast.{Cast}
use Rattle.program_trees.specs.Operators.{cast_between}
use Rattle.program_trees.specs.Shapes.{shape_of}
use Rattle.language_model.specs.Effects.{World, Effect, ◌>>=◌, done, draw}
use Rattle.language_model.specs.Values.{Secrecy, Plain, Private, Value, plain, size}
use Rattle.language_model.specs.Words.{flipped, truth_word}
use Rattle.language_model.specs.Operations.{negated_from, negated, words_for_equality, words_for_conversion, words_for_bits, size_told}
use Rattle.language_model.specs.Operations.{number_of, made_private, truth_gates, conversion_gates, converted, relabelled, cast_from, cast_to}
use Rattle.language_model.specs.Operations.{summed_from, summed, bits_from, bits_extracted, largest, not_too_large}
use Rattle.verified_code.specs.Fitting.{is_number}
use Rattle.gate_laws.specs.Facts.{IsProper, none_of, Fact, fact_from, facts_of, Suits}
use Rattle.gate_laws.specs.Dealt.{InRange, drawn_by, Dealt}
use Rattle.code_model.specs.Kinded.{cast_source}
use Rattle.gate_laws.specs.Rows.{IsOfElements, IsOfNumbers}
use Rattle.gate_laws.proofs.Effects.{Tell, suits_bind, suits_done, charge_suits, test_suits, draw_suits}
use Rattle.gate_laws.proofs.Gains.{fact, gate_suits, planned_suits}
use Rattle.gate_laws.proofs.Singles.{sum_gain, unpack_gain, conv_gain}
use Rattle.gate_laws.proofs.Plans.{bits_gain}
use Rattle.gates.specs.Gathered.{packed, unpacked}
use Rattle.gates.proofs.Packing.{length-packed, packed-spread, unpacked-packed}
use Rattle.proto_core.specs.Lists.{AreWords}
use Rattle.gate_laws.proofs.Parts.{tell_same, tell_first, charged_suits, plain_charge, number_as, given_as, given_suits, shown_suits, itself_suits}
use Rattle.gate_laws.proofs.Parts.{range_words, number_range, number_facts, number_of_numbers, given_numbers}
use Rattle.gate_laws.proofs.Ranges.{Below, map_below, map_same, below_cons, append_below, one_below, truth_below}
use Rattle.gate_laws.proofs.Meanings.{conversion_bits, zero_flipped}
use Rattle.gate_laws.proofs.Operators.{in_terms, flip_suits, zero_suits}

mapped_twice : (f g : ℕ → ℕ) (xs : List ℕ) → map f (map g xs) ≡ map (λ x. f (g x)) xs
mapped_twice f g [] = refl
mapped_twice f g (x ∷ xs) = ap (λ z. f (g x) ∷ z) (mapped_twice f g xs)

mapped_alike : (f g : ℕ → ℕ) (xs : List ℕ) → ((x : ℕ) → f x ≡ g x) → map f xs ≡ map g xs
mapped_alike f g [] h = refl
mapped_alike f g (x ∷ xs) h = ap (λ z. z ∷ map f xs) (h x) ∙ ap (λ z. g x ∷ z) (mapped_alike f g xs h)

mapped_small : (f : ℕ → ℕ) (xs : List ℕ) → length xs < 2 ^ 64 → length (map f xs) < 2 ^ 64
mapped_small f xs h = subst (λ n. n < 2 ^ 64) (sym (length-map xs f)) h

mapped_low : (f : ℕ → ℕ) (xs : List ℕ) → ((x : ℕ) → f x < 2) → Below 2 (map f xs)
mapped_low f [] h = λ k. omega arith
mapped_low f (x ∷ xs) h = below_cons 2 (f x) (map f xs) (h x) (mapped_low f xs h)

conversion_words : (n : ℕ) (m : Miner) → drawn_by (words_for_conversion n) m ≡ words_of_conversion m n
conversion_words n Miner1 = refl
conversion_words n Miner2 = refl
conversion_words n Miner3 = refl

bits_words : (n : ℕ) (m : Miner) → drawn_by (words_for_bits n) m ≡ bits.words_taken m n
bits_words n Miner1 = refl
bits_words n Miner2 = refl
bits_words n Miner3 = refl

zero_low : (x : ℕ) → zero_test x < 2
zero_low x = go (x == 0)
  where
    go : (b : Bool) → (if b then 1 else 0) < 2
    go true = omega arith
    go false = omega arith

-- ---- bits

bits_low : (x : ℕ) → Below 2 (bits_of x)
unfolding bits_of
bits_low x = mapped_low (bit_at x) (range_with_len 0 64) (λ k. bit_at-lt x k)

all_bits_low : (xs : List ℕ) → Below 2 (flat_map bits_of xs)
all_bits_low [] = λ k. omega arith
all_bits_low (x ∷ xs) = append_below 2 (bits_of x) (flat_map bits_of xs) (bits_low x) (all_bits_low xs)

bits_length : (x : ℕ) → length (bits_of x) ≡ 64
unfolding bits_of
bits_length x = refl

-- the words of a number are the bits of it, packed
bits_packed : (xs : List ℕ) → AreWords xs → packed (flat_map bits_of xs) ≡ xs
unfolding bits_of
bits_packed xs are = packed-spread xs are

all_bits_length : (xs : List ℕ) → length (flat_map bits_of xs) ≡ 64 * length xs
all_bits_length [] = refl
all_bits_length (x ∷ xs) = let e = all_bits_length xs in omega (arith, e, bits_length x, length-append (bits_of x) (flat_map bits_of xs))

all_bits_small : (xs : List ℕ) → 64 * length xs ≤ largest → length (flat_map bits_of xs) < 2 ^ 64
all_bits_small xs few = let e = all_bits_length xs in omega (arith, e, few)

module _ (w : World) (d : Dealt) (v : Value) where
  abbrev fs : List Fact
  fs = facts_of v

  range_of : (e : DataType) → IsOfElements e v → InRange e v.words
  range_of e h = subst (λ z. InRange z v.words) h.element h.proper.range

  -- ---- truth values turned

  turned : IsOfElements datatype.Bool v → InRange v.shape.element (map flipped v.words)
  turned h = subst (λ z. InRange z (map flipped v.words)) (sym h.element) (mapped_low flipped v.words (λ x. truth_below (x == 0)))

  negated_from_suits : (a : Secrecy) → IsOfElements datatype.Bool v → Suits w d fs none_of (negated_from a v) none_of facts_of IsProper
  negated_from_suits Plain h = shown_suits w d fs v.shape (map flipped v.words) (turned h) (mapped_small flipped v.words h.proper.small)
  negated_from_suits (Private k) h =
      suits_bind w d (number_as w d fs none_of datatype.Bool v h.element (tell_same fs) (range_of datatype.Bool h)) (λ u _.
      suits_bind w d (flip_suits w d (fact u Boolean (packed v.words) ∷ fs) none_of (size v) u v.words (tell_first _ _) refl (range_of datatype.Bool h)) (λ r _.
      given_as w d _ datatype.Bool v.shape (map flipped v.words) r h.element (tell_first _ _)
      (mapped_low flipped v.words (λ x. truth_below (x == 0))) (mapped_small flipped v.words h.proper.small)))

  pub negated_suits : IsOfElements datatype.Bool v → Suits w d fs none_of (negated v) none_of facts_of IsProper
  negated_suits h = suits_bind w d (plain_charge w d fs (size v)) (λ _ _. negated_from_suits v.secrecy h)

  -- ---- casts

  -- to another type of numbers
  relabelled_suits : (e f : DataType) → IsTrue (is_number e) → IsTrue (is_number f) → IsOfElements e v
      → Suits w d fs none_of (done (relabelled (cast_between e f) v)) none_of facts_of IsProper
  relabelled_suits e f ok fine h =
      let words = range_words e v.words (range_of e h) in
      let same : facts_of v ≡ fact_from v.secrecy f v.words =
      ap (λ z. fact_from v.secrecy z v.words) h.element ∙ number_facts v.secrecy e v.words ok ∙ sym (number_facts v.secrecy f v.words fine) in
      suits_done w d (subst (Tell fs) same (tell_same fs)) (record { range = number_range f v.words fine words; small = h.proper.small })

  abbrev truths : List ℕ
  truths = map (λ x. truth_word (not (x == 0))) v.words

  truths_low : Below 2 truths
  truths_low = mapped_low (λ x. truth_word (not (x == 0))) v.words (λ x. truth_below (not (x == 0)))

  -- of a number
  abbrev to_truth : Secrecy → Effect Value
  to_truth Plain = done (plain (shape_of datatype.Bool v.shape.array) truths)
  to_truth (Private k) =
      draw w (words_for_equality (size v)) >>= λ _. number_of v >>= λ u. truth_gates (size v) u
      >>= made_private (shape_of datatype.Bool v.shape.array) truths

  to_truth_suits : (a : Secrecy) (e : DataType) → IsTrue (is_number e) → IsOfElements e v → Suits w d fs none_of (to_truth a) none_of facts_of IsProper
  to_truth_suits Plain e ok h =
      shown_suits w d fs (shape_of datatype.Bool v.shape.array) truths truths_low (mapped_small (λ x. truth_word (not (x == 0))) v.words h.proper.small)
  to_truth_suits (Private k) e ok h =
      let owed = drawn_by (words_for_equality (size v)) in
      let zeros = map zero_test v.words in
      suits_bind w d (draw_suits w d fs (words_for_equality (size v))) (λ _ _.
      suits_bind w d
      (number_of_numbers w d fs owed v (subst (λ z. IsTrue (is_number z)) (sym h.element) ok) (tell_same fs) h.proper.range) (λ u _.
      suits_bind w d
      (suits_bind w d (zero_suits w d (fact u Arithmetic v.words ∷ fs) (size v) u v.words (tell_first _ _) refl) (λ z _.
      in_terms w d
      (ap packed (mapped_twice flipped zero_test v.words
      ∙ mapped_alike (λ x. flipped (zero_test x)) (λ x. truth_word (not (x == 0))) v.words zero_flipped))
      (flip_suits w d (fact z Boolean (packed zeros) ∷ (fact u Arithmetic v.words ∷ fs)) none_of (size v) z zeros
      (tell_first _ _) (length-map v.words zero_test)
      (mapped_low zero_test v.words zero_low)))) (λ r _.
      given_suits w d _ (shape_of datatype.Bool v.shape.array) truths r (tell_first _ _) truths_low
      (mapped_small (λ x. truth_word (not (x == 0))) v.words h.proper.small))))

  abbrev kept : List ℕ
  kept = map (λ x. x) v.words

  kept_same : IsOfElements datatype.Bool v → map (λ x. x % 2) v.words ≡ kept
  kept_same h = map_same 2 (λ x. x % 2) (λ x. x) v.words conversion_bits (range_of datatype.Bool h)

  kept_words : IsOfElements datatype.Bool v → AreWords kept
  kept_words h = map_below 2 (2 ^ 64) (λ x. x) v.words (omega arith) (λ x lt. omega (arith, lt)) (range_of datatype.Bool h)

  -- of a truth value
  abbrev to_number : Secrecy → DataType → Effect Value
  to_number Plain e = done (plain (shape_of e v.shape.array) kept)
  to_number (Private k) e =
      draw w (words_for_conversion (size v)) >>= λ _. number_of v >>= λ u. conversion_gates (size v) u >>= made_private (shape_of e v.shape.array) kept

  to_number_suits : (a : Secrecy) (e : DataType) → IsTrue (is_number e) → IsOfElements datatype.Bool v
      → Suits w d fs none_of (to_number a e) none_of facts_of IsProper
  to_number_suits Plain e ok h =
      shown_suits w d fs (shape_of e v.shape.array) kept (number_range e kept ok (kept_words h)) (mapped_small (λ x. x) v.words h.proper.small)
  to_number_suits (Private k) e ok h =
      let owed = drawn_by (words_for_conversion (size v)) in
      suits_bind w d (draw_suits w d fs (words_for_conversion (size v))) (λ _ _.
      suits_bind w d (number_as w d fs owed datatype.Bool v h.element (tell_same fs) (range_of datatype.Bool h)) (λ u _.
      suits_bind w d
      (suits_bind w d
      (in_terms w d (unpacked-packed v.words (range_of datatype.Bool h))
      (gate_suits w d (fact u Boolean (packed v.words) ∷ fs) owed none_of owed (gates.Unpack u (size v)) Boolean (unpacked (packed v.words) (size v))
      (λ m. omega arith) refl (λ r good facts. unpack_gain r good u (packed v.words) facts.0 (size v) (length-packed v.words)))) (λ z _.
      in_terms w d (kept_same h)
      (gate_suits w d (fact z Boolean v.words ∷ (fact u Boolean (packed v.words) ∷ fs)) owed
      (λ m. words_of_conversion m (size v)) none_of (gates.Conv z) Arithmetic
      (map (λ x. x % 2) v.words)
      (λ m. let e = conversion_words (size v) m in omega (arith, e)) refl (λ r good facts. conv_gain r good z v.words facts.0)))) (λ r _.
      given_numbers w d _ (shape_of e v.shape.array) kept r ok (tell_first _ _) (kept_words h) (mapped_small (λ x. x) v.words h.proper.small))))

  -- the casts between numbers and truth values are these
  abbrev Converts : (e f : DataType) → Secrecy → Type 0
  Converts e f a = IsOfElements e v → Suits w d fs none_of (converted w a (cast_between e f) v) none_of facts_of IsProper

  word_to_truth : (a : Secrecy) → Converts Uint64 datatype.Bool a
  word_to_truth Plain h = to_truth_suits Plain Uint64 refl h
  word_to_truth (Private k) h = to_truth_suits (Private k) Uint64 refl h

  int_to_truth : (a : Secrecy) → Converts Int64 datatype.Bool a
  int_to_truth Plain h = to_truth_suits Plain Int64 refl h
  int_to_truth (Private k) h = to_truth_suits (Private k) Int64 refl h

  truth_to_word : (a : Secrecy) → Converts datatype.Bool Uint64 a
  truth_to_word Plain h = to_number_suits Plain Uint64 refl h
  truth_to_word (Private k) h = to_number_suits (Private k) Uint64 refl h

  truth_to_int : (a : Secrecy) → Converts datatype.Bool Int64 a
  truth_to_int Plain h = to_number_suits Plain Int64 refl h
  truth_to_int (Private k) h = to_number_suits (Private k) Int64 refl h

  cast_from_suits : (e f : DataType) → IsOfElements e v → Suits w d fs none_of (cast_from e f w (cast_between e f) v) none_of facts_of IsProper
  cast_from_suits Uint64 Uint64 h = itself_suits w d fs v (tell_same fs) h.proper
  cast_from_suits Int64 Int64 h = itself_suits w d fs v (tell_same fs) h.proper
  cast_from_suits datatype.Bool datatype.Bool h = itself_suits w d fs v (tell_same fs) h.proper
  cast_from_suits Uint64 Int64 h = relabelled_suits Uint64 Int64 refl refl h
  cast_from_suits Int64 Uint64 h = relabelled_suits Int64 Uint64 refl refl h
  cast_from_suits Uint64 datatype.Bool h = word_to_truth v.secrecy h
  cast_from_suits Int64 datatype.Bool h = int_to_truth v.secrecy h
  cast_from_suits datatype.Bool Uint64 h = truth_to_word v.secrecy h
  cast_from_suits datatype.Bool Int64 h = truth_to_int v.secrecy h

  pub cast_suits : (c : Cast) → IsOfElements (cast_source c) v → Suits w d fs none_of (cast_to w c v) none_of facts_of IsProper
  cast_suits c h = suits_bind w d (plain_charge w d fs (size v)) (λ _ _. cast_from_suits c.given c.wanted h)

  -- ---- sizes and sums

  pub size_suits : IsProper v → Suits w d fs none_of (size_told v) none_of facts_of IsProper
  size_suits h = suits_bind w d (charge_suits w d fs 1) (λ _ _. shown_suits w d fs (shape_of Uint64 false) (size v ∷ [])
      (one_below (2 ^ 64) (size v) h.small) (omega arith))

  abbrev total : List ℕ
  total = sum v.words % 2 ^ 64 ∷ []

  total_low : AreWords total
  total_low = one_below (2 ^ 64) (sum v.words % 2 ^ 64) (mod_below (sum v.words) (2 ^ 64) (omega arith))

  summed_from_suits : (a : Secrecy) → IsOfNumbers v → Suits w d fs none_of (summed_from a v) none_of facts_of IsProper
  summed_from_suits Plain h =
      shown_suits w d fs (shape_of v.shape.element false) total (number_range v.shape.element total h.numbers total_low) (omega arith)
  summed_from_suits (Private k) h =
      suits_bind w d (number_of_numbers w d fs none_of v h.numbers (tell_same fs) h.proper.range) (λ u _.
      suits_bind w d
      (gate_suits w d (fact u Arithmetic v.words ∷ fs) none_of none_of none_of (gates.Sum u) Arithmetic total (λ m. refl) refl
      (λ r good facts. sum_gain r good u v.words facts.0)) (λ r _.
      given_numbers w d _ (shape_of v.shape.element false) total r h.numbers (tell_first _ _) total_low (omega arith)))

  pub summed_suits : IsOfNumbers v → Suits w d fs none_of (summed v) none_of facts_of IsProper
  summed_suits h = suits_bind w d (charge_suits w d fs 1) (λ _ _. summed_from_suits v.secrecy h)

  -- ---- bits

  bits_from_suits : (a : Secrecy) → IsOfElements Uint64 v → 64 * size v ≤ largest → Suits w d fs none_of (bits_from w a v) none_of facts_of IsProper
  bits_from_suits Plain h few =
      shown_suits w d fs (shape_of datatype.Bool true) (flat_map bits_of v.words) (all_bits_low v.words) (all_bits_small v.words few)
  bits_from_suits (Private k) h few =
      let owed = drawn_by (words_for_bits (size v)) in
      suits_bind w d (draw_suits w d fs (words_for_bits (size v))) (λ _ _.
      suits_bind w d (number_as w d fs owed Uint64 v h.element (tell_same fs) (range_of Uint64 h)) (λ u _.
      suits_bind w d
      (in_terms w d (sym (bits_packed v.words (range_of Uint64 h)))
      (planned_suits w d (fact u Arithmetic v.words ∷ fs) owed (λ m. bits.words_taken m (size v)) none_of (λ first. bits_plan first u (size v)) bits_kinds
      53 Boolean v.words (λ m. let e = bits_words (size v) m in omega (arith, e)) (λ first. refl) (λ r good facts. bits_gain r good u v.words facts.0))) (λ b _.
      given_suits w d _ (shape_of datatype.Bool true) (flat_map bits_of v.words) b (tell_first _ _) (all_bits_low v.words) (all_bits_small v.words few))))

  pub bits_suits : (line : ℕ) → IsOfElements Uint64 v → Suits w d fs none_of (bits_extracted w line v) none_of facts_of IsProper
  bits_suits line h =
      suits_bind w d
      (charged_suits w d fs (not_too_large line (64 * size v)) (64 * size v) (nat_le (64 * size v) largest ≡ true)
      (test_suits w d fs (nat_le (64 * size v) largest) trap.Large line)) (λ _ few.
      bits_from_suits v.secrecy h (leb-true (64 * size v) largest few))
