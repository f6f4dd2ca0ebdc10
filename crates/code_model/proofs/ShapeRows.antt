-- Of which shape the values are that rows give, and that scalars have one element.
use Rattle.std.proofs.Common.{◌≡◌, ℕ, ◌+◌, ◌-◌, ◌*◌, List, [], ◌∷◌, ◌++◌, length, Option, Some, None, Ok, Err, Bool, true, false, cond}
use Rattle.std.proofs.Common.{refl, sym, ap, ◌∙◌, subst, arith, inl, inr}
use Rattle.std.specs.Prelude.{get_or, map, nat_le, take, drop, nat_lt, bytes_eq, if◌then◌else◌, sum, replicate, set, ◌%◌, ◌^◌}
use Rattle.std.specs.List.{flat_map}
use Rattle.std.proofs.lemmas.Bool.{leb-true, and_parts}
use Rattle.std.proofs.lemmas.List.{length-map, length-take-le}
use Rattle.program_trees.specs.declared.expression.DataType.{DataType}
use Rattle.program_trees.specs.declared.expression.DataType.TheVariants.{Uint64, Int64}
use Rattle.program_trees.specs.declared.expression.DataType.TheVariants as datatype
use Rattle.sc_text.specs.Lists.{Among}
use Rattle.sc_text.specs.declared.end.Ending.TheVariants as ending
use Rattle.sc_text.specs.declared.end.TrapKind.{TrapKind}
use Rattle.sc_text.specs.declared.end.TrapKind.TheVariants as trap
use Rattle.sc_text.specs.declared.event.Event.TheVariants as event
use Rattle.gates.specs.declared.gate.Gate.TheVariants as gates
use Rattle.gates.specs.Clear.{each_two, first_word, bits_of}
use Rattle.blind_evaluation.specs.BitExtract.{bits_plan}
use Rattle.blind_evaluation.specs.Lookup.{looked, lookup_plan}
use Rattle.program_trees.specs.declared.kinds.Shape.{Shape}
use Rattle.program_trees.specs.declared.operators.BinaryOperator.{BinaryOperator}
use Rattle.program_trees.specs.declared.operators.Operands.{Operands}
use Rattle.program_trees.specs.declared.operators.Operands.TheVariants.{Scalars, ArrayAndScalar, ScalarAndArray, Arrays}
use Rattle.program_trees.specs.declared.operators.Cast as casts
use Rattle.program_trees.specs.Shapes.{shape_of}
use Rattle.blind_evaluation.specs.Effects.{World, GivenInput, Source, Clear, Answers, Stage, Short, done, test, charge, draw, gate}
use Rattle.blind_evaluation.specs.Effects.{planned, show, emit, words_each, answer}
use Rattle.blind_evaluation.specs.Values.{Secrecy, Plain, Private, Value, plain, size, elements_of, ring_for, gate_words, gate_size}
use Rattle.blind_evaluation.specs.Words as W
use Rattle.blind_evaluation.specs.Operations as row
use Rattle.blind_evaluation.specs.Evaluation.{same_type, same_truth, same_shape, is_as_declared, behind, input_from, given_value, asked_for}
use Rattle.code_model.specs.Kinded.{IsSingle, cast_source, left_array, right_array}
use Rattle.code_model.proofs.Makes.{MakesAt, Makes, makes_done, makes_end, makes_bind, makes_fact, makes_after}

-- of this shape, and of one element where it is no array
pub record IsShaped (shape : Shape) (v : Value) : Type 0 where
  pub same : v.shape ≡ shape
  pub single : shape.array ≡ false → length v.words ≡ 1

pub clash : true ≡ false → ⊥
clash h = cc

two_single : (f : ℕ → ℕ → ℕ) (xs ys : List ℕ) → length xs ≡ 1 → length ys ≡ 1 → length (each_two f xs ys) ≡ 1
two_single f [] ys h k = absurd (omega arith)
two_single f (x ∷ xs) [] h k = absurd (omega (arith, k))
two_single f (x ∷ []) (y ∷ ys) h k = refl
two_single f (x ∷ x' ∷ xs) (y ∷ ys) h k = absurd (omega (arith, h))

pub made : (shape : Shape) (words : List ℕ) (r : ℕ) → (shape.array ≡ false → length words ≡ 1) → Makes (row.made_private shape words r) (IsShaped shape)
made shape words r h = makes_done (record { same = refl; single = h })

pub shown : (shape : Shape) (words : List ℕ) → (shape.array ≡ false → length words ≡ 1) → Makes (done (plain shape words)) (IsShaped shape)
shown shape words h = makes_done (record { same = refl; single = h })

pub itself : (v : Value) → (v.shape.array ≡ false → length v.words ≡ 1) → Makes (done v) (IsShaped v.shape)
itself v h = makes_done (record { same = refl; single = h })

module _ (w : World) where
  -- ---- OPERATORS

  combined_makes : (a b : Secrecy) (op : BinaryOperator) (ds : Operands) (x y : Value) → ((row.result_shape op ds).array ≡ false → length
      (W.result_words op ds x y) ≡ 1) → Makes (row.combined_from a b w op ds x y) (IsShaped (row.result_shape op ds))
  combined_makes Plain Plain op ds x y h = shown (row.result_shape op ds) (W.result_words op ds x y) h
  combined_makes (Private j) (Private k) op ds x y h =
      let n = W.result_size ds x y in
      makes_after (draw w (row.words_of_operator op n)) _ (λ _. makes_after (row.number_of x) _ (λ j. makes_after (row.number_of y) _ (λ k.
      makes_after (row.stretched x.shape.element (row.is_scalar_left ds) n j) _ (λ u.
      makes_after (row.stretched y.shape.element (row.is_scalar_right ds) n k) _ (λ v.
      makes_after (row.operator_gates op n u v) _ (λ r. made (row.result_shape op ds) (W.result_words op ds x y) r h))))))
  combined_makes (Private j) Plain op ds x y h =
      makes_after (row.number_of x) _ (λ j. makes_after (row.stretched x.shape.element (row.is_scalar_left ds) (length (W.right_words ds x y)) j) _ (λ u.
      makes_after (gate (gates.MulPub (ring_for x.shape.element) u (gate_words x.shape.element (W.right_words ds x y)))) _ (λ r.
      made (row.result_shape op ds) (W.result_words op ds x y) r h)))
  combined_makes Plain (Private k) op ds x y h =
      makes_after (row.number_of y) _ (λ j. makes_after (row.stretched y.shape.element (row.is_scalar_right ds) (length (W.left_words ds x y)) j) _ (λ u.
      makes_after (gate (gates.MulPub (ring_for y.shape.element) u (gate_words y.shape.element (W.left_words ds x y)))) _ (λ r.
      made (row.result_shape op ds) (W.result_words op ds x y) r h)))

  result_single : (op : BinaryOperator) (ds : Operands) (x y : Value) → (left_array ds ≡ false → length x.words ≡ 1)
      → (right_array ds ≡ false → length y.words ≡ 1) → (row.result_shape op ds).array ≡ false → length (W.result_words op ds x y) ≡ 1
  result_single op Scalars x y h k e = two_single (W.meaning op) x.words y.words (h refl) (k refl)
  result_single op ArrayAndScalar x y h k e = absurd (clash e)
  result_single op ScalarAndArray x y h k e = absurd (clash e)
  result_single op Arrays x y h k e = absurd (clash e)

  pub operated_makes : (line : ℕ) (op : BinaryOperator) (ds : Operands) (x y : Value) → (left_array ds ≡ false → length x.words ≡ 1)
      → (right_array ds ≡ false → length y.words ≡ 1) → Makes (row.operated w line op ds x y) (IsShaped (row.result_shape op ds))
  operated_makes line op ds x y h k =
      makes_after (row.charged (row.operator_traps line op ds x y) (W.result_size ds x y)) _ (λ _. combined_makes x.secrecy y.secrecy op ds x y
      (result_single op ds x y h k))

  -- ---- OTHER ROWS

  pub negated_makes : (x : Value) → (x.shape.array ≡ false → length x.words ≡ 1) → Makes (row.negated x) (IsShaped x.shape)
  negated_makes x h = makes_after (row.charged row.no_traps (size x)) _ (λ _. go x.secrecy)
    where
      single : x.shape.array ≡ false → length (map W.flipped x.words) ≡ 1
      single e = length-map x.words W.flipped ∙ h e

      go : (a : Secrecy) → Makes (row.negated_from a x) (IsShaped x.shape)
      go Plain = shown x.shape (map W.flipped x.words) single
      go (Private k) = makes_after (row.number_of x) _ (λ u. makes_after (row.flip (size x) u) _ (λ r. made x.shape (map W.flipped x.words) r single))

  -- between numbers and truth values
  converted_makes : (a : Secrecy) (c : casts.Cast) (x : Value) → (x.shape.array ≡ false → length x.words ≡ 1)
      → Makes (row.converted w a c x) (IsShaped (row.cast_shape c x.shape.array))
  converted_makes a c x h = go a
    where
      single : x.shape.array ≡ false → length (map (W.cast_word c) x.words) ≡ 1
      single e = length-map x.words (W.cast_word c) ∙ h e

      go : (a : Secrecy) → Makes (row.converted w a c x) (IsShaped (row.cast_shape c x.shape.array))
      go Plain = shown (row.cast_shape c x.shape.array) (map (W.cast_word c) x.words) single
      go (Private k) =
          makes_after (draw w (row.words_of_cast c (size x))) _ (λ _. makes_after (row.number_of x) _ (λ u. makes_after (row.cast_gates c (size x) u) _
          (λ r. made (row.cast_shape c x.shape.array) (map (W.cast_word c) x.words) r single)))

  cast_from_makes : (given wanted : DataType) (c : casts.Cast) (x : Value) → c.wanted ≡ wanted → x.shape.element ≡ given
      → (x.shape.array ≡ false → length x.words ≡ 1) → Makes (row.cast_from given wanted w c x) (IsShaped (row.cast_shape c x.shape.array))
  cast_from_makes given wanted c x f e h = go given wanted f e
    where
      -- the same value, of the type that it has
      kept : x.shape.element ≡ c.wanted → Makes (done x) (IsShaped (row.cast_shape c x.shape.array))
      kept e = makes_done (record { same = ap (λ z. record { element = z; array = x.shape.array }) e; single = h })

      relabelled : Makes (done (row.relabelled c x)) (IsShaped (row.cast_shape c x.shape.array))
      relabelled = makes_done (record { same = refl; single = h })

      go : (given wanted : DataType) → c.wanted ≡ wanted → x.shape.element ≡ given
          → Makes (row.cast_from given wanted w c x) (IsShaped (row.cast_shape c x.shape.array))
      go Uint64 Uint64 f e = kept (e ∙ sym f)
      go Uint64 Int64 f e = relabelled
      go Uint64 datatype.Bool f e = converted_makes x.secrecy c x h
      go Int64 Uint64 f e = relabelled
      go Int64 Int64 f e = kept (e ∙ sym f)
      go Int64 datatype.Bool f e = converted_makes x.secrecy c x h
      go datatype.Bool Uint64 f e = converted_makes x.secrecy c x h
      go datatype.Bool Int64 f e = converted_makes x.secrecy c x h
      go datatype.Bool datatype.Bool f e = kept (e ∙ sym f)

  pub cast_makes : (c : casts.Cast) (x : Value) → x.shape.element ≡ cast_source c → (x.shape.array ≡ false → length x.words ≡ 1) → Makes (row.cast_to w c x)
      (IsShaped (row.cast_shape c x.shape.array))
  cast_makes c x e h = makes_after (row.charged row.no_traps (size x)) _ (λ _. cast_from_makes c.given c.wanted c x refl e h)

  pub classified_makes : (x : Value) → (x.shape.array ≡ false → length x.words ≡ 1) → Makes (row.classified x) (IsShaped x.shape)
  classified_makes x h = go x.secrecy
    where
      go : (a : Secrecy) → Makes (row.classified_from a x) (IsShaped x.shape)
      go (Private k) = itself x h
      go Plain = makes_after (row.charged row.no_traps (size x)) _ (λ _.
          makes_after (gate (gates.Const (gate_words x.shape.element x.words))) _ (λ k. made x.shape x.words k h))

  pub filled_makes : (line : ℕ) (n x : Value) → Makes (row.filled line n x) (IsShaped (shape_of x.shape.element true))
  filled_makes line n x = makes_after (row.charged (row.not_too_large line (row.position n)) (row.position n)) _ (λ _. go x.secrecy)
    where
      go : (a : Secrecy) → Makes (row.filled_from a (row.position n) x) (IsShaped (shape_of x.shape.element true))
      go Plain = shown (shape_of x.shape.element true) (replicate (row.position n) (first_word x.words)) (λ e. absurd (clash e))
      go (Private k) = makes_after (row.number_of x) _ (λ u. makes_after (gate (row.repeated_gate x.shape.element u (row.position n))) _
          (λ r. made (shape_of x.shape.element true) (replicate (row.position n) (first_word x.words)) r (λ e. absurd (clash e))))

  pub element_makes : (line : ℕ) (x i : Value) → Makes (row.element_of_array line x i) (IsShaped (shape_of x.shape.element false))
  element_makes line x i = makes_after (charge 1) _ (λ _. makes_after (test (nat_lt (row.position i) (size x)) trap.Index line) _ (λ _. go x.secrecy))
    where
      words : List ℕ
      words = get_or x.words (row.position i) 0 ∷ []

      go : (a : Secrecy) → Makes (row.element_from a x (row.position i)) (IsShaped (shape_of x.shape.element false))
      go Plain = shown (shape_of x.shape.element false) words (λ e. refl)
      go (Private k) = makes_after (row.number_of x) _ (λ u. makes_after (gate (row.element_gate x.shape.element u (row.position i))) _
          (λ r. made (shape_of x.shape.element false) words r (λ e. refl)))

  pub with_element_makes : (line : ℕ) (x i y : Value) → x.shape.array ≡ true → Makes (row.with_element line x i y) (IsShaped x.shape)
  with_element_makes line x i y h = makes_after (charge 1) _ (λ _. makes_after (test (nat_lt (row.position i) (size x)) trap.Index line) _ (λ _. go x.secrecy))
    where
      never : {n : ℕ} → x.shape.array ≡ false → n ≡ 1
      never e = absurd (clash (sym h ∙ e))

      go : (a : Secrecy) → Makes (row.with_element_from a x (row.position i) y) (IsShaped x.shape)
      go Plain = shown x.shape _ never
      go (Private k) = makes_after (row.number_of x) _ (λ u. makes_after (row.number_of y) _ (λ e.
          makes_after (gate (row.stored_gate x.shape.element u (row.position i) e)) _ (λ r. made x.shape (set x.words (row.position i) (first_word y.words)) r never)))

  pub size_makes : (x : Value) → Makes (row.size_told x) (IsShaped (shape_of Uint64 false))
  size_makes x = makes_after (charge 1) _ (λ _. shown (shape_of Uint64 false) (size x ∷ []) (λ e. refl))

  pub summed_makes : (x : Value) → Makes (row.summed x) (IsShaped (shape_of x.shape.element false))
  summed_makes x = makes_after (charge 1) _ (λ _. go x.secrecy)
    where
      go : (a : Secrecy) → Makes (row.summed_from a x) (IsShaped (shape_of x.shape.element false))
      go Plain = shown (shape_of x.shape.element false) (sum x.words % 2 ^ 64 ∷ []) (λ e. refl)
      go (Private k) = makes_after (row.number_of x) _ (λ u. makes_after (gate (gates.Sum u)) _
          (λ r. made (shape_of x.shape.element false) (sum x.words % 2 ^ 64 ∷ []) r (λ e. refl)))

  pub bits_makes : (line : ℕ) (x : Value) → Makes (row.bits_extracted w line x) (IsShaped (shape_of datatype.Bool true))
  bits_makes line x = makes_after (row.charged (row.not_too_large line (64 * size x)) (64 * size x)) _ (λ _. go x.secrecy)
    where
      go : (a : Secrecy) → Makes (row.bits_from w a x) (IsShaped (shape_of datatype.Bool true))
      go Plain = shown (shape_of datatype.Bool true) (flat_map bits_of x.words) (λ e. absurd (clash e))
      go (Private k) =
          makes_after (draw w (row.words_for_bits (size x))) _
          (λ _. makes_after (row.number_of x) _ (λ u. makes_after (planned (λ first. bits_plan first u (size x))) _
          (λ b. made (shape_of datatype.Bool true) (flat_map bits_of x.words) b (λ e. absurd (clash e)))))

  pub looked_up_makes : (line : ℕ) (a i : Value) → (i.shape.array ≡ false → length i.words ≡ 1)
      → Makes (row.looked_up w line a i) (IsShaped (shape_of a.shape.element i.shape.array))
  looked_up_makes line a i h =
      let n = size a * size i in
      makes_after (row.charged (row.not_too_large line n) n) _ (λ _. makes_after (draw w (row.words_for_lookup n)) _
      (λ _. makes_after (row.number_of a) _ (λ u. makes_after (row.number_of i) _
      (λ v. makes_after (planned (λ first. lookup_plan first u v (size a) (size i))) _
      (λ r. made (shape_of a.shape.element i.shape.array) (looked a.words i.words) r (λ e. length-map i.words (λ k. get_or a.words k 0) ∙ h e))))))

  pub concatenated_makes : (line : ℕ) (x y : Value) → x.shape.array ≡ true → Makes (row.concatenated line x y) (IsShaped x.shape)
  concatenated_makes line x y h = makes_after (row.charged (row.not_too_large line (size x + size y)) (size x + size y)) _ (λ _. go x.secrecy y.secrecy)
    where
      never : {n : ℕ} → x.shape.array ≡ false → n ≡ 1
      never e = absurd (clash (sym h ∙ e))

      put_together : Makes (row.concatenated_from (Private None) Plain x y) (IsShaped x.shape)
      put_together = makes_after (row.number_of x) _ (λ u. makes_after (row.number_of y) _
          (λ v. makes_after (gate (row.joined_gate x.shape.element u (size x) v (size y))) _ (λ r. made x.shape (x.words ++ y.words) r never)))

      go : (a b : Secrecy) → Makes (row.concatenated_from a b x y) (IsShaped x.shape)
      go Plain Plain = shown x.shape (x.words ++ y.words) never
      go Plain (Private k) = put_together
      go (Private j) Plain = put_together
      go (Private j) (Private k) = put_together

  -- ---- OPENING

  answered : (o : Source) (words : List ℕ) → Makes (answer o words) (λ ws. length ws ≡ length words)
  answered Clear words = makes_done refl
  answered Answers words = record { from = λ s. go s (nat_le (length words) (length s.answers)) refl }
    where
      go : (s : Stage) (c : Bool) → nat_le (length words) (length s.answers) ≡ c → MakesAt
          (cond c (Ok (take (length words) s.answers, record s { answers = drop (length words) s.answers })) (Err (Short, s))) (λ ws. length ws ≡ length words)
      go s true e = length-take-le (length words) s.answers (leb-true (length words) (length s.answers) e)
      go s false e = tt

  read_length : (e : DataType) (ws : List ℕ) → length (row.read_answer e ws) ≡ length ws
  read_length Uint64 ws = refl
  read_length Int64 ws = refl
  read_length datatype.Bool ws = length-map ws (λ x. x % 2)

  revealed_makes : (x : Value) → (x.shape.array ≡ false → length x.words ≡ 1) → Makes (row.revealed w x) (IsShaped x.shape)
  revealed_makes x h =
      makes_bind (answer w.source x.words) _ (λ ws. length ws ≡ length x.words) (answered w.source x.words) (λ ws q.
      let known = row.read_answer x.shape.element ws in
      makes_after (show known) _ (λ _. makes_after (emit (event.Open (elements_of (plain x.shape known)))) _ (λ _.
      shown x.shape known (λ e. read_length x.shape.element ws ∙ q ∙ h e))))

  pub declassified_makes : (x : Value) → (x.shape.array ≡ false → length x.words ≡ 1) → Makes (row.declassified w x) (IsShaped x.shape)
  declassified_makes x h = makes_after (row.charged row.no_traps (size x)) _ (λ _. go x.secrecy)
    where
      go : (a : Secrecy) → Makes (row.opened_from w a x) (IsShaped x.shape)
      go Plain = itself x h
      go (Private k) = makes_after (draw w (words_each (gate_size x.shape.element (size x)))) _
          (λ _. makes_after (row.number_of x) _ (λ u. makes_after (gate (gates.Open (ring_for x.shape.element) u)) _ (λ _. revealed_makes x h)))

  -- ---- INPUTS

  tested : (b : Bool) (kind : TrapKind) (line : ℕ) → Makes (test b kind line) (λ u. b ≡ true)
  tested true kind line = makes_done refl
  tested false kind line = record { from = λ s. tt }

  charged_test : (b : Bool) (kind : TrapKind) (line n : ℕ) → Makes (row.charged (test b kind line) n) (λ u. b ≡ true)
  charged_test b kind line n = makes_after (charge 1) _ (λ _. makes_bind (test b kind line) _ (λ u. b ≡ true) (tested b kind line)
      (λ u q. makes_fact (charge (n - 1)) q))

  types_same : (a b : DataType) → same_type a b ≡ true → a ≡ b
  types_same Uint64 Uint64 h = refl
  types_same Uint64 Int64 h = cc
  types_same Uint64 datatype.Bool h = cc
  types_same Int64 Uint64 h = cc
  types_same Int64 Int64 h = refl
  types_same Int64 datatype.Bool h = cc
  types_same datatype.Bool Uint64 h = cc
  types_same datatype.Bool Int64 h = cc
  types_same datatype.Bool datatype.Bool h = refl

  truths_same : (a b : Bool) → same_truth a b ≡ true → a ≡ b
  truths_same true true h = refl
  truths_same true false h = cc
  truths_same false true h = cc
  truths_same false false h = refl

  shapes_same : (s t : Shape) → same_shape s t ≡ true → s ≡ t
  shapes_same s t h =
      let two = and_parts (same_type s.element t.element) (same_truth s.array t.array) h in
      ap (λ z. record { element = z; array = s.array }) (types_same s.element t.element two.0) ∙ ap (λ z. record { element = t.element; array = z })
      (truths_same s.array t.array two.1)

  given_makes : (secret : Bool) (x : GivenInput) (k : ℕ) → IsSingle x → Makes (given_value secret x k) (IsShaped x.shape)
  given_makes false x k h = shown x.shape x.words h
  given_makes true x k h = makes_after (gate (gates.Input k)) _ (λ r. made x.shape x.words r h)

  pub asked_makes : (secret : Bool) (shape : Shape) (line : ℕ) (o : Option (GivenInput × ℕ)) → ((x : GivenInput × ℕ) → o ≡ Some x → IsSingle x.0) → Makes
      (asked_for secret shape line o) (IsShaped shape)
  asked_makes secret shape line None h = makes_after (charge 1) _ (λ _. makes_end (ending.Trap trap.Argument line))
  asked_makes secret shape line (Some x) h =
      makes_bind (row.charged (test (is_as_declared secret shape x.0) trap.Argument line) (length x.0.words)) _ (λ u. is_as_declared secret shape x.0 ≡ true)
      (charged_test (is_as_declared secret shape x.0) trap.Argument line (length x.0.words)) (λ u q.
      let same = shapes_same x.0.shape shape (and_parts (same_truth x.0.secret secret) (same_shape x.0.shape shape) q).1 in
      subst (λ z. Makes (given_value secret x.0 x.1) (IsShaped z)) same (given_makes secret x.0 x.1 (h x refl)))

pub input_there : (k : ℕ) (text : List ℕ) (xs : List GivenInput) (x : GivenInput × ℕ) → input_from k text xs ≡ Some x → Among x.0 xs
input_there k text [] x e = cc
input_there k text (y ∷ ys) x e = go (bytes_eq text y.text) e (input_there (behind y k) text ys x)
  where
    found : (a b : GivenInput × ℕ) → ◌≡◌ {A = Option (GivenInput × ℕ)} (Some a) (Some b) → b.0 ≡ a.0
    found a b e = sym (ap first e)
      where
        first : Option (GivenInput × ℕ) → GivenInput
        first None = a.0
        first (Some z) = z.0

    go : (b : Bool) → (if b then Some (y, k) else input_from (behind y k) text ys) ≡ Some x → (input_from (behind y k) text ys ≡ Some x → Among x.0 ys)
        → Among x.0 (y ∷ ys)
    go true e rest = inl (found (y, k) x e)
    go false e rest = inr (rest e)
