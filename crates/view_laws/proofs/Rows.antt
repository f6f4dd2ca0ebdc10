-- The operations of a run: each end of one can be written, where its line has 32 bits.
use Rattle.std.proofs.Common.{ℕ, ◌+◌, ◌*◌, ◌<◌, ◌≤◌, ◌^◌, List, length, map, Option, Some, None, Bool, true, false, arith}
use Rattle.std.specs.List.{flat_map}
use Rattle.sc_text.specs.declared.end.TrapKind.TheVariants as trap
use Rattle.sc_text.specs.declared.event.Event.TheVariants as event
use Rattle.program_trees.specs.declared.expression.DataType.{DataType}
use Rattle.program_trees.specs.declared.expression.DataType.TheVariants.{Uint64, Int64}
use Rattle.program_trees.specs.declared.expression.DataType.TheVariants as datatype
use Rattle.gates.specs.Clear.{bits_of}
use Rattle.gates.specs.declared.gate.Gate.{Gate}
use Rattle.gates.specs.declared.gate.Gate.TheVariants.{Const, Sub, And, Xor, Pack, Unpack, Conv}
use Rattle.plans.specs.Equality.{eq_plan}
use Rattle.plans.specs.BitExtract.{bits_plan}
use Rattle.plans.specs.Compare.{less_plan}
use Rattle.plans.specs.Signed.{signed_less_plan}
use Rattle.program_trees.specs.Shapes.{shape_of}
use Rattle.program_trees.specs.declared.kinds.Shape.{Shape}
use Rattle.program_trees.specs.declared.operators.OperatorSign.{OperatorSign}
use Rattle.program_trees.specs.declared.operators.OperatorSign.TheVariants as word
use Rattle.program_trees.specs.declared.operators.BoolOperator.TheVariants as truth
use Rattle.program_trees.specs.declared.operators.BinaryOperator.{BinaryOperator}
use Rattle.program_trees.specs.declared.operators.BinaryOperator.TheVariants as binary
use Rattle.program_trees.specs.declared.operators.Operands.{Operands}
use Rattle.program_trees.specs.declared.operators.Cast.{Cast}
use Rattle.language_model.specs.Lookup.{looked, lookup_plan}
use Rattle.language_model.specs.Effects.{World, GivenInput, Source, Clear, Answers, Effect, planned, answer, words_each}
use Rattle.language_model.specs.Values.{Secrecy, Plain, Private, Value, plain, hidden, size, visible_words, gate_words, gate_size, elements_of}
use Rattle.language_model.specs.Words.{flipped, result_size, are_alike, may_divide}
use Rattle.language_model.specs.Operations.{no_traps, made_private, read_answer, words_of_operator, words_on_numbers, is_scalar_left, is_scalar_right}
use Rattle.language_model.specs.Operations.{number_from, number_of}
use Rattle.language_model.specs.Operations.{classified_from, classified, revealed, opened_from, declassified, stretched, flip}
use Rattle.language_model.specs.Operations.{zero_gates, equal_gates, less_gates, signed_less_gates, or_gates, number_gates}
use Rattle.language_model.specs.Operations.{operator_gates, private_result, product_with, combined_from, operator_traps, operated}
use Rattle.language_model.specs.Operations.{words_between, words_of_cast, words_for_bits, words_for_lookup, not_too_large}
use Rattle.language_model.specs.Operations.{negated_from, negated, truth_gates, conversion_gates, gates_between, changed, converted, cast_from, cast_to}
use Rattle.language_model.specs.Operations.{size_told, summed_from, summed, bits_from, looked_up}
use Rattle.language_model.specs.Operations.{bits_extracted, concatenated_from, concatenated, element_from, element_of_array, with_element_from, with_element}
use Rattle.language_model.specs.Operations.{filled_from, filled, handed_over, published, tested, asserted}
use Rattle.language_model.specs.Evaluation.{given_value, asked_for, is_as_declared}
use Rattle.view_laws.specs.Ends.{HasRoom}
use Rattle.view_laws.proofs.Effects.{AreFew, Ends, bind, on_done, on_end, on_charge, on_test, charged_then, on_draw, on_gate, on_number, on_gates}
use Rattle.view_laws.proofs.Effects.{on_emit, on_show, on_answers}

-- ---- RANDOM WORDS

each_few : (n : ℕ) → n < 2 ^ 127 → AreFew (words_each n)
each_few n h = record { first = h; second = h; third = h }

-- a value has no more words in the gates than elements
size_few : (e : DataType) (n : ℕ) → n ≤ 2 ^ 64 → gate_size e n ≤ 2 ^ 64
size_few Uint64 n h = h
size_few Int64 n h = h
size_few datatype.Bool n h = omega (arith, h)

told_few : (e : DataType) (n : ℕ) → n ≤ 2 ^ 64 → AreFew (words_each (gate_size e n))
told_few e n h = let s = size_few e n h in each_few (gate_size e n) (omega (arith, s))

no_words : AreFew (words_each 0)
no_words = each_few 0 (omega arith)

word_few : (op : OperatorSign) (n : ℕ) → n ≤ 2 ^ 64 → AreFew (words_on_numbers op n)
word_few word.Multiply n h = each_few (3 * n) (omega (arith, h))
word_few word.Equal n h = record { first = omega (arith, h); second = omega (arith, h); third = omega (arith, h) }
word_few word.NotEqual n h = record { first = omega (arith, h); second = omega (arith, h); third = omega (arith, h) }
word_few word.Less n h = record { first = omega (arith, h); second = omega (arith, h); third = omega (arith, h) }
word_few word.LessOrEqual n h = record { first = omega (arith, h); second = omega (arith, h); third = omega (arith, h) }
word_few word.Greater n h = record { first = omega (arith, h); second = omega (arith, h); third = omega (arith, h) }
word_few word.GreaterOrEqual n h = record { first = omega (arith, h); second = omega (arith, h); third = omega (arith, h) }
word_few word.Add n h = no_words
word_few word.Subtract n h = no_words
word_few word.Divide n h = no_words
word_few word.Remainder n h = no_words
word_few word.And n h = no_words
word_few word.Or n h = no_words
word_few word.Xor n h = no_words

operator_few : (op : BinaryOperator) (n : ℕ) → n ≤ 2 ^ 64 → AreFew (words_of_operator op n)
operator_few (binary.Words op) n h = word_few op n h
operator_few (binary.Ints op) n h = word_few op n h
operator_few (binary.Bools truth.And) n h = let s = size_few datatype.Bool n h in each_few (3 * gate_size datatype.Bool n) (omega (arith, s))
operator_few (binary.Bools truth.Or) n h = let s = size_few datatype.Bool n h in each_few (3 * gate_size datatype.Bool n) (omega (arith, s))
operator_few (binary.Bools truth.Equal) n h = no_words
operator_few (binary.Bools truth.NotEqual) n h = no_words
operator_few (binary.Bools truth.Xor) n h = no_words

cast_few : (given wanted : DataType) (n : ℕ) → n ≤ 2 ^ 64 → AreFew (words_between given wanted n)
cast_few Uint64 datatype.Bool n h = record { first = omega (arith, h); second = omega (arith, h); third = omega (arith, h) }
cast_few Int64 datatype.Bool n h = record { first = omega (arith, h); second = omega (arith, h); third = omega (arith, h) }
cast_few datatype.Bool Uint64 n h = record { first = omega (arith, h); second = omega (arith, h); third = omega (arith, h) }
cast_few datatype.Bool Int64 n h = record { first = omega (arith, h); second = omega (arith, h); third = omega (arith, h) }
cast_few given wanted n h = no_words

bits_few : (n : ℕ) → 64 * n ≤ 2 ^ 64 → AreFew (words_for_bits n)
bits_few n h = record { first = omega (arith, h); second = omega (arith, h); third = omega (arith, h) }

lookup_few : (n : ℕ) → n ≤ 2 ^ 64 → AreFew (words_for_lookup n)
lookup_few n h = record { first = omega (arith, h); second = omega (arith, h); third = omega (arith, h) }

module _ (w : World) (budget : ℕ) (room : HasRoom w budget) where
  -- ---- PARTS

  number_ends : (v : Value) → Ends w budget room (number_of v)
  number_ends v = go v.secrecy (gate_words v.shape.element v.words)
    where
      go : (x : Secrecy) (words : List ℕ) → Ends w budget room (number_from x words)
      go (Private (Some k)) words = on_done w budget room k
      go (Private None) words = on_gate w budget room (Const words)
      go Plain words = on_gate w budget room (Const words)

  made_ends : (shape : Shape) (words : List ℕ) (k : ℕ) → Ends w budget room (made_private shape words k)
  made_ends shape words k = on_done w budget room (hidden shape k words)

  pub classified_ends : (v : Value) → Ends w budget room (classified v)
  classified_ends v = go v.secrecy
    where
      go : (x : Secrecy) → Ends w budget room (classified_from x v)
      go (Private k) = on_done w budget room v
      go Plain =
          charged_then w budget room no_traps (size v) _ (on_done w budget room tt)
          (λ few. bind w budget room (on_gate w budget room _) (λ k. on_done w budget room _))

  answer_ends : (o : Source) (words : List ℕ) → Ends w budget room (answer o words)
  answer_ends Clear words = on_done w budget room words
  answer_ends Answers words = on_answers w budget room (length words)

  revealed_ends : (v : Value) → Ends w budget room (revealed w v)
  revealed_ends v =
      bind w budget room (answer_ends w.source v.words)
      (λ words. bind w budget room (on_show w budget room (read_answer v.shape.element words))
      (λ _. bind w budget room (on_emit w budget room (event.Open (elements_of (plain v.shape (read_answer v.shape.element words)))))
      (λ _. on_done w budget room (plain v.shape (read_answer v.shape.element words)))))

  pub declassified_ends : (v : Value) → Ends w budget room (declassified w v)
  declassified_ends v = charged_then w budget room no_traps (size v) _ (on_done w budget room tt) (λ few. go few v.secrecy)
    where
      go : size v ≤ 2 ^ 64 → (x : Secrecy) → Ends w budget room (opened_from w x v)
      go few Plain = on_done w budget room v
      go few (Private k) =
          bind w budget room (on_draw w budget room (words_each (gate_size v.shape.element (size v))) (told_few v.shape.element (size v) few))
          (λ _. bind w budget room (number_ends v) (λ u. bind w budget room (on_gate w budget room _) (λ _. revealed_ends v)))

  stretched_ends : (e : DataType) (scalar : Bool) (n u : ℕ) → Ends w budget room (stretched e scalar n u)
  stretched_ends e true n u = on_gate w budget room _
  stretched_ends e false n u = on_done w budget room u

  flip_ends : (n u : ℕ) → Ends w budget room (flip n u)
  flip_ends n u = bind w budget room (on_gate w budget room _) (λ ones. on_gate w budget room _)

  planned_ends : (plan : ℕ → List Gate) → Ends w budget room (planned plan)
  planned_ends plan = bind w budget room (on_number w budget room) (λ first. on_gates w budget room (plan first))

  zero_ends : (d : ℕ) → Ends w budget room (zero_gates d)
  zero_ends d = bind w budget room (planned_ends (λ first. eq_plan first d)) (λ z. on_gate w budget room (Pack z))

  equal_ends : (u v : ℕ) → Ends w budget room (equal_gates u v)
  equal_ends u v = bind w budget room (on_gate w budget room (Sub u v)) zero_ends

  less_ends : (n u v : ℕ) → Ends w budget room (less_gates n u v)
  less_ends n u v = bind w budget room (planned_ends (λ first. less_plan first u v n)) (λ z. on_gate w budget room (Pack z))

  signed_less_ends : (n u v : ℕ) → Ends w budget room (signed_less_gates n u v)
  signed_less_ends n u v = bind w budget room (planned_ends (λ first. signed_less_plan first u v n)) (λ z. on_gate w budget room (Pack z))

  or_ends : (u v : ℕ) → Ends w budget room (or_gates u v)
  or_ends u v =
      bind w budget room (on_gate w budget room (And u v))
      (λ both. bind w budget room (on_gate w budget room (Xor u v)) (λ one. on_gate w budget room (Xor one both)))

  -- ---- OPERATORS

  module _ (less : ℕ → ℕ → ℕ → Effect ℕ) (ends : (n u v : ℕ) → Ends w budget room (less n u v)) where
    numbers_end : (op : OperatorSign) (n u v : ℕ) → Ends w budget room (number_gates less op n u v)
    numbers_end word.Add n u v = on_gate w budget room _
    numbers_end word.Subtract n u v = on_gate w budget room _
    numbers_end word.Multiply n u v = on_gate w budget room _
    numbers_end word.Equal n u v = equal_ends u v
    numbers_end word.NotEqual n u v = bind w budget room (equal_ends u v) (flip_ends n)
    numbers_end word.Less n u v = ends n u v
    numbers_end word.Greater n u v = ends n v u
    numbers_end word.GreaterOrEqual n u v = bind w budget room (ends n u v) (flip_ends n)
    numbers_end word.LessOrEqual n u v = bind w budget room (ends n v u) (flip_ends n)
    numbers_end op n u v = on_number w budget room

  gates_end : (op : BinaryOperator) (n u v : ℕ) → Ends w budget room (operator_gates op n u v)
  gates_end (binary.Words op) n u v = numbers_end less_gates less_ends op n u v
  gates_end (binary.Ints op) n u v = numbers_end signed_less_gates signed_less_ends op n u v
  gates_end (binary.Bools truth.Xor) n u v = on_gate w budget room _
  gates_end (binary.Bools truth.And) n u v = on_gate w budget room _
  gates_end (binary.Bools truth.Or) n u v = or_ends u v
  gates_end (binary.Bools truth.NotEqual) n u v = on_gate w budget room _
  gates_end (binary.Bools truth.Equal) n u v = bind w budget room (on_gate w budget room _) (flip_ends n)

  private_ends : (op : BinaryOperator) (ds : Operands) (x y : Value) → result_size ds x y ≤ 2 ^ 64 → Ends w budget room (private_result w op ds x y)
  private_ends op ds x y few =
      let n = result_size ds x y in
      bind w budget room (on_draw w budget room (words_of_operator op n) (operator_few op n few))
      (λ _. bind w budget room (number_ends x)
      (λ j. bind w budget room (number_ends y)
      (λ k. bind w budget room (stretched_ends x.shape.element (is_scalar_left ds) n j)
      (λ u. bind w budget room (stretched_ends y.shape.element (is_scalar_right ds) n k)
      (λ v. bind w budget room (gates_end op n u v) (λ r. on_done w budget room _))))))

  product_ends : (op : BinaryOperator) (ds : Operands) (scalar : Bool) (x : Value) (known words : List ℕ)
      → Ends w budget room (product_with op ds scalar x known words)
  product_ends op ds scalar x known words =
      bind w budget room (number_ends x)
      (λ j. bind w budget room (stretched_ends x.shape.element scalar _ j) (λ u. bind w budget room (on_gate w budget room _) (λ r. on_done w budget room _)))

  pub operated_ends : (line : ℕ) (op : BinaryOperator) (ds : Operands) (x y : Value) → line < 2 ^ 32 → Ends w budget room (operated w line op ds x y)
  operated_ends line op ds x y h =
      charged_then w budget room (operator_traps line op ds x y) (result_size ds x y) _
      (bind w budget room (on_test w budget room (are_alike ds x y) trap.Length line h)
      (λ _. on_test w budget room (may_divide op (visible_words y)) trap.Div line h))
      (λ few. go few x.secrecy y.secrecy)
    where
      go : result_size ds x y ≤ 2 ^ 64 → (a b : Secrecy) → Ends w budget room (combined_from a b w op ds x y)
      go few Plain Plain = on_done w budget room _
      go few (Private j) (Private k) = private_ends op ds x y few
      go few (Private j) Plain = product_ends op ds _ x _ _
      go few Plain (Private k) = product_ends op ds _ y _ _

  -- ---- OPERATIONS OF ONE OPERAND

  pub negated_ends : (v : Value) → Ends w budget room (negated v)
  negated_ends v = charged_then w budget room no_traps (size v) _ (on_done w budget room tt) (λ few. go v.secrecy)
    where
      go : (x : Secrecy) → Ends w budget room (negated_from x v)
      go Plain = on_done w budget room _
      go (Private k) = bind w budget room (number_ends v) (λ u. bind w budget room (flip_ends (size v) u) (λ r. made_ends v.shape (map flipped v.words) r))

  truth_ends : (n u : ℕ) → Ends w budget room (truth_gates n u)
  truth_ends n u = bind w budget room (zero_ends u) (flip_ends n)

  conversion_ends : (n u : ℕ) → Ends w budget room (conversion_gates n u)
  conversion_ends n u = bind w budget room (on_gate w budget room (Unpack u n)) (λ z. on_gate w budget room (Conv z))

  between_ends : (given wanted : DataType) (n u : ℕ) → Ends w budget room (gates_between given wanted n u)
  between_ends Uint64 datatype.Bool n u = truth_ends n u
  between_ends Int64 datatype.Bool n u = truth_ends n u
  between_ends datatype.Bool Uint64 n u = conversion_ends n u
  between_ends datatype.Bool Int64 n u = conversion_ends n u
  between_ends given wanted n u = on_done w budget room u

  changed_ends : (c : Cast) (v : Value) → size v ≤ 2 ^ 64 → Ends w budget room (changed w c v)
  changed_ends c v few =
      bind w budget room (on_draw w budget room (words_of_cast c (size v)) (cast_few c.given c.wanted (size v) few))
      (λ _. bind w budget room (number_ends v) (λ u. bind w budget room (between_ends c.given c.wanted _ u) (λ r. on_done w budget room _)))

  converted_ends : (x : Secrecy) (c : Cast) (v : Value) → size v ≤ 2 ^ 64 → Ends w budget room (converted w x c v)
  converted_ends Plain c v few = on_done w budget room _
  converted_ends (Private k) c v few = changed_ends c v few

  pub cast_ends : (c : Cast) (v : Value) → Ends w budget room (cast_to w c v)
  cast_ends c v = charged_then w budget room no_traps (size v) _ (on_done w budget room tt) (λ few. go few c.given c.wanted)
    where
      go : size v ≤ 2 ^ 64 → (given wanted : DataType) → Ends w budget room (cast_from given wanted w c v)
      go few Uint64 Uint64 = on_done w budget room v
      go few Int64 Int64 = on_done w budget room v
      go few datatype.Bool datatype.Bool = on_done w budget room v
      go few Uint64 Int64 = on_done w budget room _
      go few Int64 Uint64 = on_done w budget room _
      go few given wanted = converted_ends v.secrecy c v few

  pub size_ends : (v : Value) → Ends w budget room (size_told v)
  size_ends v = bind w budget room (on_charge w budget room 1) (λ _. on_done w budget room _)

  pub summed_ends : (v : Value) → Ends w budget room (summed v)
  summed_ends v = bind w budget room (on_charge w budget room 1) (λ _. go v.secrecy)
    where
      go : (x : Secrecy) → Ends w budget room (summed_from x v)
      go Plain = on_done w budget room _
      go (Private k) = bind w budget room (number_ends v) (λ u. bind w budget room (on_gate w budget room _) (λ r. on_done w budget room _))

  pub bits_end : (line : ℕ) (v : Value) → line < 2 ^ 32 → Ends w budget room (bits_extracted w line v)
  bits_end line v h =
      charged_then w budget room (not_too_large line (64 * size v)) (64 * size v) _ (on_test w budget room _ trap.Large line h) (λ few. go few v.secrecy)
    where
      go : 64 * size v ≤ 2 ^ 64 → (x : Secrecy) → Ends w budget room (bits_from w x v)
      go few Plain = on_done w budget room _
      go few (Private k) =
          bind w budget room (on_draw w budget room (words_for_bits (size v)) (bits_few (size v) few))
          (λ _. bind w budget room (number_ends v)
          (λ u. bind w budget room (planned_ends (λ first. bits_plan first u (size v)))
          (λ b. made_ends (shape_of datatype.Bool true) (flat_map bits_of v.words) b)))

  -- ---- ARRAYS

  pub concatenated_ends : (line : ℕ) (x y : Value) → line < 2 ^ 32 → Ends w budget room (concatenated line x y)
  concatenated_ends line x y h =
      charged_then w budget room (not_too_large line (size x + size y)) (size x + size y) _ (on_test w budget room _ trap.Large line h)
      (λ few. go x.secrecy y.secrecy)
    where
      both : Ends w budget room (concatenated_from (Private None) Plain x y)
      both =
          bind w budget room (number_ends x)
          (λ u. bind w budget room (number_ends y) (λ v. bind w budget room (on_gate w budget room _) (λ r. on_done w budget room _)))

      go : (a b : Secrecy) → Ends w budget room (concatenated_from a b x y)
      go Plain Plain = on_done w budget room _
      go Plain (Private k) = both
      go (Private j) Plain = both
      go (Private j) (Private k) = both

  pub looked_up_ends : (line : ℕ) (a i : Value) → line < 2 ^ 32 → Ends w budget room (looked_up w line a i)
  looked_up_ends line a i h =
      charged_then w budget room (not_too_large line (size a * size i)) (size a * size i) _ (on_test w budget room _ trap.Large line h)
      (λ few. bind w budget room (on_draw w budget room (words_for_lookup (size a * size i)) (lookup_few (size a * size i) few))
      (λ _. bind w budget room (number_ends a)
      (λ u. bind w budget room (number_ends i)
      (λ v. bind w budget room (planned_ends (λ first. lookup_plan first u v (size a) (size i)))
      (λ r. made_ends (shape_of a.shape.element i.shape.array) (looked a.words i.words) r)))))

  pub element_ends : (line : ℕ) (v i : Value) → line < 2 ^ 32 → Ends w budget room (element_of_array line v i)
  element_ends line v i h =
      bind w budget room (on_charge w budget room 1) (λ _. bind w budget room (on_test w budget room _ trap.Index line h) (λ _. go v.secrecy _))
    where
      go : (x : Secrecy) (k : ℕ) → Ends w budget room (element_from x v k)
      go Plain k = on_done w budget room _
      go (Private n) k = bind w budget room (number_ends v) (λ u. bind w budget room (on_gate w budget room _) (λ r. on_done w budget room _))

  pub with_element_ends : (line : ℕ) (v i x : Value) → line < 2 ^ 32 → Ends w budget room (with_element line v i x)
  with_element_ends line v i x h =
      bind w budget room (on_charge w budget room 1) (λ _. bind w budget room (on_test w budget room _ trap.Index line h) (λ _. go v.secrecy _))
    where
      go : (a : Secrecy) (k : ℕ) → Ends w budget room (with_element_from a v k x)
      go Plain k = on_done w budget room _
      go (Private n) k =
          bind w budget room (number_ends v)
          (λ u. bind w budget room (number_ends x) (λ e. bind w budget room (on_gate w budget room _) (λ r. on_done w budget room _)))

  pub filled_ends : (line : ℕ) (n x : Value) → line < 2 ^ 32 → Ends w budget room (filled line n x)
  filled_ends line n x h = charged_then w budget room _ _ _ (on_test w budget room _ trap.Large line h) (λ few. go x.secrecy _)
    where
      go : (a : Secrecy) (k : ℕ) → Ends w budget room (filled_from a k x)
      go Plain k = on_done w budget room _
      go (Private n) k = bind w budget room (number_ends x) (λ u. bind w budget room (on_gate w budget room _) (λ r. on_done w budget room _))

  -- ---- WHAT IS TOLD, TESTED AND ASKED FOR

  pub published_ends : (text : List ℕ) (v : Value) → Ends w budget room (published w text v)
  published_ends text v =
      charged_then w budget room no_traps (size v) _ (on_done w budget room tt)
      (λ few. bind w budget room (go few v.secrecy) (λ _. on_emit w budget room _))
    where
      go : size v ≤ 2 ^ 64 → (x : Secrecy) → Ends w budget room (handed_over w x v)
      go few Plain = on_done w budget room tt
      go few (Private k) =
          bind w budget room (on_draw w budget room (words_each (gate_size v.shape.element (size v))) (told_few v.shape.element (size v) few))
          (λ _. bind w budget room (number_ends v) (λ u. bind w budget room (on_gate w budget room _) (λ _. on_done w budget room tt)))

  pub tested_ends : (v : Value) → Ends w budget room (tested v)
  tested_ends v = bind w budget room (on_charge w budget room 1) (λ _. on_done w budget room _)

  pub asserted_ends : (line : ℕ) (v : Value) → line < 2 ^ 32 → Ends w budget room (asserted line v)
  asserted_ends line v h = bind w budget room (on_charge w budget room 1) (λ _. on_test w budget room _ trap.Assert line h)

  pub asked_ends : (secret : Bool) (shape : Shape) (line : ℕ) (o : Option (GivenInput × ℕ)) → line < 2 ^ 32
      → Ends w budget room (asked_for secret shape line o)
  asked_ends secret shape line None h = bind w budget room (on_charge w budget room 1) (λ _. on_end w budget room _ h)
  asked_ends secret shape line (Some x) h =
      charged_then w budget room _ _ _ (on_test w budget room (is_as_declared secret shape x.0) trap.Argument line h) (λ few. go secret)
    where
      go : (b : Bool) → Ends w budget room (given_value b x.0 x.1)
      go false = on_done w budget room _
      go true = bind w budget room (on_gate w budget room _) (λ r. on_done w budget room _)
