-- All operations but an opening are quiet.
use Rattle.std.proofs.Common.{ℕ, ◌+◌, ◌*◌, ◌-◌, ◌%◌, ◌^◌, List, [], ◌∷◌, ◌++◌, Bool, true, false, Option, Some, None, length}
use Rattle.std.specs.Prelude.{get_or, map, replicate, nat_lt, sum}
use Rattle.std.specs.List.{flat_map}
use Rattle.sc_text.specs.declared.end.Ending.TheVariants as ending
use Rattle.sc_text.specs.declared.end.TrapKind.TheVariants as trap
use Rattle.sc_text.specs.declared.event.Event.TheVariants as event
use Rattle.program_trees.specs.declared.expression.DataType.{DataType}
use Rattle.program_trees.specs.declared.expression.DataType.TheVariants.{Uint64, Int64}
use Rattle.program_trees.specs.declared.expression.DataType.TheVariants as datatype
use Rattle.gates.specs.declared.gate.Gate.TheVariants.{Const, Add, Sub, MulPub, Mul, Xor, And, Sum, Conv, Input, Result, Pack, Unpack}
use Rattle.gates.specs.Clear.{bits_of, first_word}
use Rattle.plans.specs.Equality.{eq_plan}
use Rattle.plans.specs.BitExtract.{bits_plan}
use Rattle.language_model.specs.Compare.{less_plan}
use Rattle.language_model.specs.Signed.{signed_less_plan}
use Rattle.language_model.specs.Lookup.{looked, lookup_plan}
use Rattle.program_trees.specs.declared.kinds.Shape.{Shape}
use Rattle.program_trees.specs.declared.operators.OperatorSign.{OperatorSign}
use Rattle.program_trees.specs.declared.operators.OperatorSign.TheVariants as word
use Rattle.program_trees.specs.declared.operators.BoolOperator.{BoolOperator}
use Rattle.program_trees.specs.declared.operators.BoolOperator.TheVariants as truth
use Rattle.program_trees.specs.declared.operators.BinaryOperator.{BinaryOperator}
use Rattle.program_trees.specs.declared.operators.BinaryOperator.TheVariants as binary
use Rattle.program_trees.specs.declared.operators.Operands.{Operands}
use Rattle.program_trees.specs.declared.operators.Cast.{Cast}
use Rattle.program_trees.specs.Shapes.{shape_of}
use Rattle.language_model.specs.Effects.{World, GivenInput, Effect, ◌>>=◌, words_each}
use Rattle.language_model.specs.Values.{Secrecy, Plain, Private, Value, plain, hidden, size, visible_words, is_true, ring_for, gate_words, gate_size}
use Rattle.language_model.specs.Values.{elements_of}
use Rattle.language_model.specs.Words as W
use Rattle.language_model.specs.Operations.{charged, no_traps, not_too_large, number_from, number_of, made_private, classified_from}
use Rattle.language_model.specs.Operations.{classified, repeated_gate, element_gate, stored_gate, joined_gate, stretched, is_scalar_left}
use Rattle.language_model.specs.Operations.{is_scalar_right, flip, words_of_operator, zero_gates, equal_gates, less_gates, signed_less_gates, or_gates}
use Rattle.language_model.specs.Operations.{number_gates, operator_gates}
use Rattle.language_model.specs.Operations.{result_shape, private_result, product_with, combined_from, operator_traps, operated, negated_from}
use Rattle.language_model.specs.Operations.{negated, words_of_cast}
use Rattle.language_model.specs.Operations.{cast_shape, truth_gates, conversion_gates, gates_between, changed, converted, relabelled, cast_from, cast_to, scalar_word, size_told}
use Rattle.language_model.specs.Operations.{summed_from, summed, words_for_lookup, looked_up}
use Rattle.language_model.specs.Operations.{words_for_bits, bits_from}
use Rattle.language_model.specs.Operations.{bits_extracted, concatenated_from, concatenated, position, element_from, element_of_array}
use Rattle.language_model.specs.Operations.{with_element_from, with_element}
use Rattle.language_model.specs.Operations.{filled_from, filled, handed_over, publication, published, tested, asserted}
use Rattle.language_model.specs.Evaluation.{is_as_declared, given_value, asked_for}
use Rattle.code_places.proofs.Quiet.{Quiet, quiet_bind, quiet_done, quiet_end, quiet_charge, quiet_test, quiet_draw, quiet_gate, quiet_number}
use Rattle.code_places.proofs.Quiet.{quiet_planned, quiet_emit}

module _ (told : Bool) where
  bind : {A B : Type 0} {m : Effect A} {f : A → Effect B} → Quiet told m → ((a : A) → Quiet told (f a)) → Quiet told (m >>= f)
  bind h k = quiet_bind told h k

  -- ---- THE PARTS OF AN OPERATION

  pub charged_quiet : {traps : Effect (Unit {0})} (n : ℕ) → Quiet told traps → Quiet told (charged traps n)
  charged_quiet n h = bind (quiet_charge told 1) (λ _. bind h (λ _. quiet_charge told (n - 1)))

  pub untrapped_quiet : (n : ℕ) → Quiet told (charged no_traps n)
  untrapped_quiet n = charged_quiet {traps = no_traps} n (quiet_done told tt)

  large_quiet : (line n : ℕ) → Quiet told (charged (not_too_large line n) n)
  large_quiet line n = charged_quiet {traps = not_too_large line n} n (quiet_test told _ trap.Large line)

  number_from_quiet : (x : Secrecy) (words : List ℕ) → Quiet told (number_from x words)
  number_from_quiet (Private (Some k)) words = quiet_done told k
  number_from_quiet (Private None) words = quiet_gate told (Const words)
  number_from_quiet Plain words = quiet_gate told (Const words)

  pub number_quiet : (v : Value) → Quiet told (number_of v)
  number_quiet v = number_from_quiet v.secrecy (gate_words v.shape.element v.words)

  made_quiet : (shape : Shape) (words : List ℕ) (k : ℕ) → Quiet told (made_private shape words k)
  made_quiet shape words k = quiet_done told (hidden shape k words)

  classified_from_quiet : (x : Secrecy) (v : Value) → Quiet told (classified_from x v)
  classified_from_quiet (Private k) v = quiet_done told v
  classified_from_quiet Plain v =
      bind (untrapped_quiet (size v)) (λ _. bind (quiet_gate told (Const (gate_words v.shape.element v.words))) (λ k. made_quiet v.shape v.words k))

  pub classified_quiet : (v : Value) → Quiet told (classified v)
  classified_quiet v = classified_from_quiet v.secrecy v

  -- ---- OPERATORS

  stretched_quiet : (e : DataType) (scalar : Bool) (n u : ℕ) → Quiet told (stretched e scalar n u)
  stretched_quiet e true n u = quiet_gate told (repeated_gate e u n)
  stretched_quiet e false n u = quiet_done told u

  flip_quiet : (n u : ℕ) → Quiet told (flip n u)
  flip_quiet n u = bind (quiet_gate told (Const (gate_words datatype.Bool (replicate n 1)))) (λ ones. quiet_gate told (Xor u ones))

  zero_quiet : (d : ℕ) → Quiet told (zero_gates d)
  zero_quiet d = bind (quiet_planned told (λ first. eq_plan first d)) (λ z. quiet_gate told (Pack z))

  equal_quiet : (u v : ℕ) → Quiet told (equal_gates u v)
  equal_quiet u v = bind (quiet_gate told (Sub u v)) zero_quiet

  less_quiet : (n u v : ℕ) → Quiet told (less_gates n u v)
  less_quiet n u v = bind (quiet_planned told (λ first. less_plan first u v n)) (λ z. quiet_gate told (Pack z))

  signed_less_quiet : (n u v : ℕ) → Quiet told (signed_less_gates n u v)
  signed_less_quiet n u v = bind (quiet_planned told (λ first. signed_less_plan first u v n)) (λ z. quiet_gate told (Pack z))

  -- of numbers, by the gates that tell which of two is less
  module _ (less : ℕ → ℕ → ℕ → Effect ℕ) (less_is : (n u v : ℕ) → Quiet told (less n u v)) where
    number_gates_quiet : (op : OperatorSign) (n u v : ℕ) → Quiet told (number_gates less op n u v)
    number_gates_quiet word.Add n u v = quiet_gate told (Add u v)
    number_gates_quiet word.Subtract n u v = quiet_gate told (Sub u v)
    number_gates_quiet word.Multiply n u v = quiet_gate told (Mul u v)
    number_gates_quiet word.Equal n u v = equal_quiet u v
    number_gates_quiet word.NotEqual n u v = bind (equal_quiet u v) (flip_quiet n)
    number_gates_quiet word.Less n u v = less_is n u v
    number_gates_quiet word.Greater n u v = less_is n v u
    number_gates_quiet word.GreaterOrEqual n u v = bind (less_is n u v) (flip_quiet n)
    number_gates_quiet word.LessOrEqual n u v = bind (less_is n v u) (flip_quiet n)
    number_gates_quiet op n u v = quiet_number told

  or_quiet : (u v : ℕ) → Quiet told (or_gates u v)
  or_quiet u v =
      bind (quiet_gate told (And u v)) (λ both. bind (quiet_gate told (Xor u v)) (λ one. quiet_gate told (Xor one both)))

  truth_quiet : (op : BoolOperator) (n u v : ℕ) → Quiet told (operator_gates (binary.Bools op) n u v)
  truth_quiet truth.Xor n u v = quiet_gate told (Xor u v)
  truth_quiet truth.And n u v = quiet_gate told (And u v)
  truth_quiet truth.Or n u v = or_quiet u v
  truth_quiet truth.NotEqual n u v = quiet_gate told (Xor u v)
  truth_quiet truth.Equal n u v = bind (quiet_gate told (Xor u v)) (flip_quiet n)

  operator_quiet : (op : BinaryOperator) (n u v : ℕ) → Quiet told (operator_gates op n u v)
  operator_quiet (binary.Words op) n u v = number_gates_quiet less_gates less_quiet op n u v
  operator_quiet (binary.Ints op) n u v = number_gates_quiet signed_less_gates signed_less_quiet op n u v
  operator_quiet (binary.Bools op) n u v = truth_quiet op n u v

  private_quiet : (w : World) (op : BinaryOperator) (ds : Operands) (x y : Value) → Quiet told (private_result w op ds x y)
  private_quiet w op ds x y =
      let n = W.result_size ds x y in
      bind (quiet_draw told w (words_of_operator op n)) (λ _. bind (number_quiet x) (λ j. bind (number_quiet y) (λ k.
      bind (stretched_quiet x.shape.element (is_scalar_left ds) n j) (λ u. bind (stretched_quiet y.shape.element (is_scalar_right ds) n k) (λ v.
      bind (operator_quiet op n u v) (λ r. made_quiet (result_shape op ds) (W.result_words op ds x y) r))))))

  product_quiet : (op : BinaryOperator) (ds : Operands) (scalar : Bool) (x : Value) (known words : List ℕ)
      → Quiet told (product_with op ds scalar x known words)
  product_quiet op ds scalar x known words =
      bind (number_quiet x) (λ j. bind (stretched_quiet x.shape.element scalar (length known) j) (λ u.
      bind (quiet_gate told (MulPub (ring_for x.shape.element) u (gate_words x.shape.element known))) (λ r. made_quiet (result_shape op ds) words r)))

  combined_quiet : (a b : Secrecy) (w : World) (op : BinaryOperator) (ds : Operands) (x y : Value) → Quiet told (combined_from a b w op ds x y)
  combined_quiet Plain Plain w op ds x y = quiet_done told (plain (result_shape op ds) (W.result_words op ds x y))
  combined_quiet (Private j) (Private k) w op ds x y = private_quiet w op ds x y
  combined_quiet (Private j) Plain w op ds x y = product_quiet op ds (is_scalar_left ds) x (W.right_words ds x y) (W.result_words op ds x y)
  combined_quiet Plain (Private k) w op ds x y = product_quiet op ds (is_scalar_right ds) y (W.left_words ds x y) (W.result_words op ds x y)

  traps_quiet : (line : ℕ) (op : BinaryOperator) (ds : Operands) (x y : Value) → Quiet told (operator_traps line op ds x y)
  traps_quiet line op ds x y =
      bind (quiet_test told (W.are_alike ds x y) trap.Length line) (λ _. quiet_test told (W.may_divide op (visible_words y)) trap.Div line)

  pub operated_quiet : (w : World) (line : ℕ) (op : BinaryOperator) (ds : Operands) (x y : Value) → Quiet told (operated w line op ds x y)
  operated_quiet w line op ds x y =
      bind (charged_quiet (W.result_size ds x y) (traps_quiet line op ds x y)) (λ _. combined_quiet x.secrecy y.secrecy w op ds x y)

  -- ---- OPERATIONS OF ONE OPERAND

  negated_from_quiet : (x : Secrecy) (v : Value) → Quiet told (negated_from x v)
  negated_from_quiet Plain v = quiet_done told (plain v.shape (map W.flipped v.words))
  negated_from_quiet (Private k) v =
      bind (number_quiet v) (λ u. bind (flip_quiet (size v) u) (λ r. made_quiet v.shape (map W.flipped v.words) r))

  pub negated_quiet : (v : Value) → Quiet told (negated v)
  negated_quiet v = bind (untrapped_quiet (size v)) (λ _. negated_from_quiet v.secrecy v)

  truth_gates_quiet : (n u : ℕ) → Quiet told (truth_gates n u)
  truth_gates_quiet n u = bind (zero_quiet u) (flip_quiet n)

  conversion_quiet : (n u : ℕ) → Quiet told (conversion_gates n u)
  conversion_quiet n u = bind (quiet_gate told (Unpack u n)) (λ z. quiet_gate told (Conv z))

  gates_between_quiet : (given wanted : DataType) (n u : ℕ) → Quiet told (gates_between given wanted n u)
  gates_between_quiet Uint64 datatype.Bool n u = truth_gates_quiet n u
  gates_between_quiet Int64 datatype.Bool n u = truth_gates_quiet n u
  gates_between_quiet datatype.Bool Uint64 n u = conversion_quiet n u
  gates_between_quiet datatype.Bool Int64 n u = conversion_quiet n u
  gates_between_quiet given wanted n u = quiet_done told u

  changed_quiet : (w : World) (c : Cast) (v : Value) → Quiet told (changed w c v)
  changed_quiet w c v =
      bind (quiet_draw told w (words_of_cast c (size v))) (λ _. bind (number_quiet v) (λ u. bind (gates_between_quiet c.given c.wanted (size v) u) (λ r.
      made_quiet (cast_shape c v.shape.array) (map (W.cast_word c) v.words) r)))

  converted_quiet : (w : World) (x : Secrecy) (c : Cast) (v : Value) → Quiet told (converted w x c v)
  converted_quiet w Plain c v = quiet_done told (plain (cast_shape c v.shape.array) (map (W.cast_word c) v.words))
  converted_quiet w (Private k) c v = changed_quiet w c v

  cast_from_quiet : (given wanted : DataType) (w : World) (c : Cast) (v : Value) → Quiet told (cast_from given wanted w c v)
  cast_from_quiet Uint64 Uint64 w c v = quiet_done told v
  cast_from_quiet Int64 Int64 w c v = quiet_done told v
  cast_from_quiet datatype.Bool datatype.Bool w c v = quiet_done told v
  cast_from_quiet Uint64 Int64 w c v = quiet_done told (relabelled c v)
  cast_from_quiet Int64 Uint64 w c v = quiet_done told (relabelled c v)
  cast_from_quiet given wanted w c v = converted_quiet w v.secrecy c v

  pub cast_quiet : (w : World) (c : Cast) (v : Value) → Quiet told (cast_to w c v)
  cast_quiet w c v = bind (untrapped_quiet (size v)) (λ _. cast_from_quiet c.given c.wanted w c v)

  pub size_quiet : (v : Value) → Quiet told (size_told v)
  size_quiet v = bind (quiet_charge told 1) (λ _. quiet_done told (scalar_word (size v)))

  summed_from_quiet : (x : Secrecy) (v : Value) → Quiet told (summed_from x v)
  summed_from_quiet Plain v = quiet_done told (plain (shape_of v.shape.element false) (sum v.words % 2 ^ 64 ∷ []))
  summed_from_quiet (Private k) v =
      bind (number_quiet v) (λ u. bind (quiet_gate told (Sum u)) (λ r. made_quiet (shape_of v.shape.element false) (sum v.words % 2 ^ 64 ∷ []) r))

  pub summed_quiet : (v : Value) → Quiet told (summed v)
  summed_quiet v = bind (quiet_charge told 1) (λ _. summed_from_quiet v.secrecy v)

  bits_from_quiet : (w : World) (x : Secrecy) (v : Value) → Quiet told (bits_from w x v)
  bits_from_quiet w Plain v = quiet_done told (plain (shape_of datatype.Bool true) (flat_map bits_of v.words))
  bits_from_quiet w (Private k) v =
      bind (quiet_draw told w (words_for_bits (size v))) (λ _. bind (number_quiet v) (λ u.
      bind (quiet_planned told (λ first. bits_plan first u (size v))) (λ b.
      made_quiet (shape_of datatype.Bool true) (flat_map bits_of v.words) b)))

  pub bits_quiet : (w : World) (line : ℕ) (v : Value) → Quiet told (bits_extracted w line v)
  bits_quiet w line v = bind (large_quiet line (64 * size v)) (λ _. bits_from_quiet w v.secrecy v)

  -- ---- ARRAYS

  pub looked_up_quiet : (w : World) (line : ℕ) (a i : Value) → Quiet told (looked_up w line a i)
  looked_up_quiet w line a i =
      bind (large_quiet line (size a * size i)) (λ _. bind (quiet_draw told w (words_for_lookup (size a * size i))) (λ _.
      bind (number_quiet a) (λ u. bind (number_quiet i) (λ v.
      bind (quiet_planned told (λ first. lookup_plan first u v (size a) (size i))) (λ r.
      made_quiet (shape_of a.shape.element i.shape.array) (looked a.words i.words) r)))))

  cat_quiet : (x y : Value) → Quiet told (concatenated_from (Private None) Plain x y)
  cat_quiet x y =
      bind (number_quiet x) (λ u. bind (number_quiet y) (λ v.
      bind (quiet_gate told (joined_gate x.shape.element u (size x) v (size y))) (λ r. made_quiet x.shape (x.words ++ y.words) r)))

  concatenated_from_quiet : (a b : Secrecy) (x y : Value) → Quiet told (concatenated_from a b x y)
  concatenated_from_quiet Plain Plain x y = quiet_done told (plain x.shape (x.words ++ y.words))
  concatenated_from_quiet Plain (Private k) x y = cat_quiet x y
  concatenated_from_quiet (Private j) Plain x y = cat_quiet x y
  concatenated_from_quiet (Private j) (Private k) x y = cat_quiet x y

  pub concatenated_quiet : (line : ℕ) (x y : Value) → Quiet told (concatenated line x y)
  concatenated_quiet line x y = bind (large_quiet line (size x + size y)) (λ _. concatenated_from_quiet x.secrecy y.secrecy x y)

  element_from_quiet : (x : Secrecy) (v : Value) (i : ℕ) → Quiet told (element_from x v i)
  element_from_quiet Plain v i = quiet_done told (plain (shape_of v.shape.element false) (get_or v.words i 0 ∷ []))
  element_from_quiet (Private k) v i =
      bind (number_quiet v) (λ u.
      bind (quiet_gate told (element_gate v.shape.element u i)) (λ r. made_quiet (shape_of v.shape.element false) (get_or v.words i 0 ∷ []) r))

  pub element_quiet : (line : ℕ) (v i : Value) → Quiet told (element_of_array line v i)
  element_quiet line v i =
      bind (quiet_charge told 1) (λ _. bind (quiet_test told (nat_lt (position i) (size v)) trap.Index line) (λ _.
      element_from_quiet v.secrecy v (position i)))

  with_element_from_quiet : (s : Secrecy) (v : Value) (i : ℕ) (x : Value) → Quiet told (with_element_from s v i x)
  with_element_from_quiet Plain v i x = quiet_done told _
  with_element_from_quiet (Private k) v i x =
      bind (number_quiet v) (λ u. bind (number_quiet x) (λ e. bind (quiet_gate told (stored_gate v.shape.element u i e)) (λ r. quiet_done told _)))

  pub with_element_quiet : (line : ℕ) (v i x : Value) → Quiet told (with_element line v i x)
  with_element_quiet line v i x =
      bind (quiet_charge told 1) (λ _. bind (quiet_test told (nat_lt (position i) (size v)) trap.Index line) (λ _.
      with_element_from_quiet v.secrecy v (position i) x))

  filled_from_quiet : (s : Secrecy) (n : ℕ) (x : Value) → Quiet told (filled_from s n x)
  filled_from_quiet Plain n x = quiet_done told (plain (shape_of x.shape.element true) (replicate n (first_word x.words)))
  filled_from_quiet (Private k) n x =
      bind (number_quiet x) (λ u. bind (quiet_gate told (repeated_gate x.shape.element u n)) (λ r.
      made_quiet (shape_of x.shape.element true) (replicate n (first_word x.words)) r))

  pub filled_quiet : (line : ℕ) (n x : Value) → Quiet told (filled line n x)
  filled_quiet line n x = bind (large_quiet line (position n)) (λ _. filled_from_quiet x.secrecy (position n) x)

  -- ---- CONTROL, AND INPUTS

  pub tested_quiet : (v : Value) → Quiet told (tested v)
  tested_quiet v = bind (quiet_charge told 1) (λ _. quiet_done told (is_true v))

  pub asserted_quiet : (line : ℕ) (v : Value) → Quiet told (asserted line v)
  asserted_quiet line v = bind (quiet_charge told 1) (λ _. quiet_test told (is_true v) trap.Assert line)

  given_quiet : (secret : Bool) (x : GivenInput) (k : ℕ) → Quiet told (given_value secret x k)
  given_quiet false x k = quiet_done told (plain x.shape x.words)
  given_quiet true x k = bind (quiet_gate told (Input k)) (λ r. made_quiet x.shape x.words r)

  pub asked_quiet : (secret : Bool) (shape : Shape) (line : ℕ) (x : Option (GivenInput × ℕ)) → Quiet told (asked_for secret shape line x)
  asked_quiet secret shape line None = bind (quiet_charge told 1) (λ _. quiet_end told (ending.Trap trap.Argument line))
  asked_quiet secret shape line (Some x) =
      bind (charged_quiet (length x.0.words) (quiet_test told (is_as_declared secret shape x.0) trap.Argument line)) (λ _.
      given_quiet secret x.0 x.1)

-- ---- WHAT GOES TO THE CLIENT

handed_quiet : (w : World) (s : Secrecy) (v : Value) → Quiet true (handed_over w s v)
handed_quiet w Plain v = quiet_done true tt
handed_quiet w (Private k) v =
    quiet_bind true (quiet_draw true w (words_each (gate_size v.shape.element (size v)))) (λ _. quiet_bind true (number_quiet true v) (λ u.
    quiet_bind true (quiet_gate true (Result (ring_for v.shape.element) u)) (λ _. quiet_done true tt)))

pub published_quiet : (w : World) (text : List ℕ) (v : Value) → Quiet true (published w text v)
published_quiet w text v =
    quiet_bind true (untrapped_quiet true (size v)) (λ _. quiet_bind true (handed_quiet w v.secrecy v) (λ _.
    quiet_emit (publication v.secrecy v.shape.element text (elements_of v))))
