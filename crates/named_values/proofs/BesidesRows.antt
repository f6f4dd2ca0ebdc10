-- All operations do the same, whatever gates were made before.
use Rattle.std.proofs.Common.{ℕ, ◌+◌, ◌*◌, ◌-◌, ◌%◌, ◌^◌, List, [], ◌∷◌, ◌++◌, Bool, true, false, Option, Some, None, length}
use Rattle.std.specs.Prelude.{get_or, map, replicate, nat_lt, sum}
use Rattle.std.specs.List.{flat_map}
use Rattle.sc_text.specs.declared.end.Ending.TheVariants as ending
use Rattle.sc_text.specs.declared.end.TrapKind.TheVariants as trap
use Rattle.sc_text.specs.declared.event.Event.TheVariants as event
use Rattle.program_trees.specs.declared.expression.DataType.{DataType}
use Rattle.program_trees.specs.declared.expression.DataType.TheVariants.{Uint64, Int64}
use Rattle.program_trees.specs.declared.expression.DataType.TheVariants as datatype
use Rattle.gates.specs.declared.gate.Gate.TheVariants.{Const, Add, Sub, MulPub, Mul, Xor, And, Sum, Conv, Input, Open, Result}
use Rattle.gates.specs.declared.gate.Gate.TheVariants.{Pack, Unpack}
use Rattle.gates.specs.Clear.{bits_of, first_word}
use Rattle.plans.specs.Equality.{eq_plan}
use Rattle.plans.specs.BitExtract.{bits_plan}
use Rattle.plans.specs.Compare.{less_plan}
use Rattle.plans.specs.Signed.{signed_less_plan}
use Rattle.language_model.specs.Lookup.{looked, lookup_plan}
use Rattle.program_trees.specs.declared.kinds.Shape.{Shape}
use Rattle.program_trees.specs.declared.operators.OperatorSign.{OperatorSign}
use Rattle.program_trees.specs.declared.operators.OperatorSign.TheVariants as word
use Rattle.program_trees.specs.declared.operators.BoolOperator.{BoolOperator}
use Rattle.program_trees.specs.declared.operators.BoolOperator.TheVariants as truth
use Rattle.program_trees.specs.declared.operators.BinaryOperator.{BinaryOperator}
use Rattle.program_trees.specs.declared.operators.BinaryOperator.TheVariants as binary
use Rattle.program_trees.specs.declared.operators.Operands.{Operands}
use Rattle.program_trees.specs.declared.operators.Cast.{Cast}
use Rattle.program_trees.specs.Shapes.{shape_of}
use Rattle.language_model.specs.Effects.{World, GivenInput, Effect, words_each}
use Rattle.language_model.specs.Values.{Secrecy, Plain, Private, Value, plain, hidden, size, visible_words, is_true, elements_of}
use Rattle.language_model.specs.Values.{ring_for, gate_words, gate_size}
use Rattle.language_model.specs.Words as W
use Rattle.language_model.specs.Operations.{charged, no_traps, not_too_large, number_from, number_of, made_private, classified_from}
use Rattle.language_model.specs.Operations.{read_answer, revealed, opened_from, declassified}
use Rattle.language_model.specs.Operations.{classified, stretched, is_scalar_left, repeated_gate, element_gate, stored_gate, joined_gate, zero_gates}
use Rattle.language_model.specs.Operations.{is_scalar_right, flip, words_of_operator, equal_gates, less_gates, signed_less_gates, number_gates, or_gates}
use Rattle.language_model.specs.Operations.{operator_gates}
use Rattle.language_model.specs.Operations.{result_shape, private_result, product_with, combined_from, operator_traps, operated, negated_from}
use Rattle.language_model.specs.Operations.{negated, words_of_cast}
use Rattle.language_model.specs.Operations.{cast_shape, truth_gates, conversion_gates, gates_between, changed, converted, relabelled, cast_from, cast_to}
use Rattle.language_model.specs.Operations.{scalar_word, size_told, summed_from, summed, words_for_lookup, looked_up}
use Rattle.language_model.specs.Operations.{words_for_bits, bits_from}
use Rattle.language_model.specs.Operations.{bits_extracted, concatenated_from, concatenated, position, element_from, element_of_array}
use Rattle.language_model.specs.Operations.{with_element_from, with_element}
use Rattle.language_model.specs.Operations.{filled_from, filled, handed_over, publication, published, tested, asserted}
use Rattle.language_model.specs.Evaluation.{is_as_declared, given_value, asked_for}
use Rattle.named_values.proofs.Besides.{Besides, besides_bind, besides_done, besides_end, besides_charge, besides_test, besides_draw}
use Rattle.named_values.proofs.Besides.{besides_gate, besides_number, besides_planned, besides_emit, besides_show, besides_answer}

-- ---- THE PARTS OF AN OPERATION

pub charged_besides : {traps : Effect (Unit {0})} (n : ℕ) → Besides traps → Besides (charged traps n)
charged_besides n h = besides_bind (besides_charge 1) (λ _. besides_bind h (λ _. besides_charge (n - 1)))

pub untrapped_besides : (n : ℕ) → Besides (charged no_traps n)
untrapped_besides n = charged_besides {traps = no_traps} n (besides_done tt)

large_besides : (line n : ℕ) → Besides (charged (not_too_large line n) n)
large_besides line n = charged_besides {traps = not_too_large line n} n (besides_test _ trap.Large line)

number_from_besides : (x : Secrecy) (words : List ℕ) → Besides (number_from x words)
number_from_besides (Private (Some k)) words = besides_done k
number_from_besides (Private None) words = besides_gate (Const words)
number_from_besides Plain words = besides_gate (Const words)

pub number_besides : (v : Value) → Besides (number_of v)
number_besides v = number_from_besides v.secrecy (gate_words v.shape.element v.words)

made_besides : (shape : Shape) (words : List ℕ) (k : ℕ) → Besides (made_private shape words k)
made_besides shape words k = besides_done (hidden shape k words)

classified_from_besides : (x : Secrecy) (v : Value) → Besides (classified_from x v)
classified_from_besides (Private k) v = besides_done v
classified_from_besides Plain v =
    besides_bind (untrapped_besides (size v)) (λ _. besides_bind (besides_gate (Const (gate_words v.shape.element v.words))) (λ k.
    made_besides v.shape v.words k))

pub classified_besides : (v : Value) → Besides (classified v)
classified_besides v = classified_from_besides v.secrecy v

-- ---- OPENING

revealed_besides : (w : World) (v : Value) → Besides (revealed w v)
revealed_besides w v =
    besides_bind (besides_answer w.source v.words) (λ words. besides_bind (besides_show (read_answer v.shape.element words)) (λ _.
    besides_bind (besides_emit (event.Open (elements_of (plain v.shape (read_answer v.shape.element words))))) (λ _.
    besides_done (plain v.shape (read_answer v.shape.element words)))))

opened_from_besides : (w : World) (s : Secrecy) (v : Value) → Besides (opened_from w s v)
opened_from_besides w Plain v = besides_done v
opened_from_besides w (Private k) v =
    besides_bind (besides_draw w (words_each (gate_size v.shape.element (size v)))) (λ _. besides_bind (number_besides v) (λ u.
    besides_bind (besides_gate (Open (ring_for v.shape.element) u)) (λ _. revealed_besides w v)))

pub declassified_besides : (w : World) (v : Value) → Besides (declassified w v)
declassified_besides w v = besides_bind (untrapped_besides (size v)) (λ _. opened_from_besides w v.secrecy v)

-- ---- OPERATORS

stretched_besides : (e : DataType) (scalar : Bool) (n u : ℕ) → Besides (stretched e scalar n u)
stretched_besides e true n u = besides_gate (repeated_gate e u n)
stretched_besides e false n u = besides_done u

flip_besides : (n u : ℕ) → Besides (flip n u)
flip_besides n u = besides_bind (besides_gate (Const (gate_words datatype.Bool (replicate n 1)))) (λ ones. besides_gate (Xor u ones))

zero_besides : (d : ℕ) → Besides (zero_gates d)
zero_besides d = besides_bind (besides_planned (λ first. eq_plan first d)) (λ z. besides_gate (Pack z))

equal_besides : (u v : ℕ) → Besides (equal_gates u v)
equal_besides u v = besides_bind (besides_gate (Sub u v)) (λ d. zero_besides d)

less_besides : (n u v : ℕ) → Besides (less_gates n u v)
less_besides n u v = besides_bind (besides_planned (λ first. less_plan first u v n)) (λ z. besides_gate (Pack z))

signed_less_besides : (n u v : ℕ) → Besides (signed_less_gates n u v)
signed_less_besides n u v = besides_bind (besides_planned (λ first. signed_less_plan first u v n)) (λ z. besides_gate (Pack z))

number_gates_besides : (less : ℕ → ℕ → ℕ → Effect ℕ) → ((n u v : ℕ) → Besides (less n u v)) → (op : OperatorSign) (n u v : ℕ)
    → Besides (number_gates less op n u v)
number_gates_besides less h word.Add n u v = besides_gate (Add u v)
number_gates_besides less h word.Subtract n u v = besides_gate (Sub u v)
number_gates_besides less h word.Multiply n u v = besides_gate (Mul u v)
number_gates_besides less h word.Equal n u v = equal_besides u v
number_gates_besides less h word.NotEqual n u v = besides_bind (equal_besides u v) (flip_besides n)
number_gates_besides less h word.Less n u v = h n u v
number_gates_besides less h word.Greater n u v = h n v u
number_gates_besides less h word.GreaterOrEqual n u v = besides_bind (h n u v) (flip_besides n)
number_gates_besides less h word.LessOrEqual n u v = besides_bind (h n v u) (flip_besides n)
number_gates_besides less h op n u v = besides_number

or_besides : (u v : ℕ) → Besides (or_gates u v)
or_besides u v =
    besides_bind (besides_gate (And u v)) (λ both. besides_bind (besides_gate (Xor u v)) (λ one. besides_gate (Xor one both)))

truth_besides : (op : BoolOperator) (n u v : ℕ) → Besides (operator_gates (binary.Bools op) n u v)
truth_besides truth.Xor n u v = besides_gate (Xor u v)
truth_besides truth.And n u v = besides_gate (And u v)
truth_besides truth.Or n u v = or_besides u v
truth_besides truth.NotEqual n u v = besides_gate (Xor u v)
truth_besides truth.Equal n u v = besides_bind (besides_gate (Xor u v)) (flip_besides n)

operator_besides : (op : BinaryOperator) (n u v : ℕ) → Besides (operator_gates op n u v)
operator_besides (binary.Words op) n u v = number_gates_besides less_gates less_besides op n u v
operator_besides (binary.Ints op) n u v = number_gates_besides signed_less_gates signed_less_besides op n u v
operator_besides (binary.Bools op) n u v = truth_besides op n u v

private_besides : (w : World) (op : BinaryOperator) (ds : Operands) (x y : Value) → Besides (private_result w op ds x y)
private_besides w op ds x y =
    let n = W.result_size ds x y in
    besides_bind (besides_draw w (words_of_operator op n)) (λ _. besides_bind (number_besides x) (λ j. besides_bind (number_besides y) (λ k.
    besides_bind (stretched_besides x.shape.element (is_scalar_left ds) n j) (λ u.
    besides_bind (stretched_besides y.shape.element (is_scalar_right ds) n k) (λ v.
    besides_bind (operator_besides op n u v) (λ r. made_besides (result_shape op ds) (W.result_words op ds x y) r))))))

product_besides : (op : BinaryOperator) (ds : Operands) (scalar : Bool) (x : Value) (known words : List ℕ)
    → Besides (product_with op ds scalar x known words)
product_besides op ds scalar x known words =
    besides_bind (number_besides x) (λ j. besides_bind (stretched_besides x.shape.element scalar (length known) j) (λ u.
    besides_bind (besides_gate (MulPub (ring_for x.shape.element) u (gate_words x.shape.element known))) (λ r. made_besides (result_shape op ds) words r)))

combined_besides : (a b : Secrecy) (w : World) (op : BinaryOperator) (ds : Operands) (x y : Value) → Besides (combined_from a b w op ds x y)
combined_besides Plain Plain w op ds x y = besides_done (plain (result_shape op ds) (W.result_words op ds x y))
combined_besides (Private j) (Private k) w op ds x y = private_besides w op ds x y
combined_besides (Private j) Plain w op ds x y = product_besides op ds (is_scalar_left ds) x (W.right_words ds x y) (W.result_words op ds x y)
combined_besides Plain (Private k) w op ds x y = product_besides op ds (is_scalar_right ds) y (W.left_words ds x y) (W.result_words op ds x y)

traps_besides : (line : ℕ) (op : BinaryOperator) (ds : Operands) (x y : Value) → Besides (operator_traps line op ds x y)
traps_besides line op ds x y =
    besides_bind (besides_test (W.are_alike ds x y) trap.Length line) (λ _. besides_test (W.may_divide op (visible_words y)) trap.Div line)

pub operated_besides : (w : World) (line : ℕ) (op : BinaryOperator) (ds : Operands) (x y : Value) → Besides (operated w line op ds x y)
operated_besides w line op ds x y =
    besides_bind (charged_besides (W.result_size ds x y) (traps_besides line op ds x y)) (λ _. combined_besides x.secrecy y.secrecy w op ds x y)

-- ---- OPERATIONS OF ONE OPERAND

negated_from_besides : (x : Secrecy) (v : Value) → Besides (negated_from x v)
negated_from_besides Plain v = besides_done (plain v.shape (map W.flipped v.words))
negated_from_besides (Private k) v =
    besides_bind (number_besides v) (λ u. besides_bind (flip_besides (size v) u) (λ r. made_besides v.shape (map W.flipped v.words) r))

pub negated_besides : (v : Value) → Besides (negated v)
negated_besides v = besides_bind (untrapped_besides (size v)) (λ _. negated_from_besides v.secrecy v)

truth_gates_besides : (n u : ℕ) → Besides (truth_gates n u)
truth_gates_besides n u = besides_bind (zero_besides u) (flip_besides n)

conversion_besides : (n u : ℕ) → Besides (conversion_gates n u)
conversion_besides n u = besides_bind (besides_gate (Unpack u n)) (λ z. besides_gate (Conv z))

between_besides : (given wanted : DataType) (n u : ℕ) → Besides (gates_between given wanted n u)
between_besides Uint64 Uint64 n u = besides_done u
between_besides Uint64 Int64 n u = besides_done u
between_besides Uint64 datatype.Bool n u = truth_gates_besides n u
between_besides Int64 Uint64 n u = besides_done u
between_besides Int64 Int64 n u = besides_done u
between_besides Int64 datatype.Bool n u = truth_gates_besides n u
between_besides datatype.Bool Uint64 n u = conversion_besides n u
between_besides datatype.Bool Int64 n u = conversion_besides n u
between_besides datatype.Bool datatype.Bool n u = besides_done u

changed_besides : (w : World) (c : Cast) (v : Value) → Besides (changed w c v)
changed_besides w c v =
    besides_bind (besides_draw w (words_of_cast c (size v))) (λ _. besides_bind (number_besides v) (λ u. besides_bind (between_besides c.given c.wanted (size v) u) (λ r.
    made_besides (cast_shape c v.shape.array) (map (W.cast_word c) v.words) r)))

converted_besides : (w : World) (x : Secrecy) (c : Cast) (v : Value) → Besides (converted w x c v)
converted_besides w Plain c v = besides_done (plain (cast_shape c v.shape.array) (map (W.cast_word c) v.words))
converted_besides w (Private k) c v = changed_besides w c v

cast_from_besides : (given wanted : DataType) (w : World) (c : Cast) (v : Value) → Besides (cast_from given wanted w c v)
cast_from_besides Uint64 Uint64 w c v = besides_done v
cast_from_besides Uint64 Int64 w c v = besides_done (relabelled c v)
cast_from_besides Uint64 datatype.Bool w c v = converted_besides w v.secrecy c v
cast_from_besides Int64 Uint64 w c v = besides_done (relabelled c v)
cast_from_besides Int64 Int64 w c v = besides_done v
cast_from_besides Int64 datatype.Bool w c v = converted_besides w v.secrecy c v
cast_from_besides datatype.Bool Uint64 w c v = converted_besides w v.secrecy c v
cast_from_besides datatype.Bool Int64 w c v = converted_besides w v.secrecy c v
cast_from_besides datatype.Bool datatype.Bool w c v = besides_done v

pub cast_besides : (w : World) (c : Cast) (v : Value) → Besides (cast_to w c v)
cast_besides w c v = besides_bind (untrapped_besides (size v)) (λ _. cast_from_besides c.given c.wanted w c v)

pub size_besides : (v : Value) → Besides (size_told v)
size_besides v = besides_bind (besides_charge 1) (λ _. besides_done (scalar_word (size v)))

summed_from_besides : (x : Secrecy) (v : Value) → Besides (summed_from x v)
summed_from_besides Plain v = besides_done (plain (shape_of v.shape.element false) (sum v.words % 2 ^ 64 ∷ []))
summed_from_besides (Private k) v =
    besides_bind (number_besides v) (λ u. besides_bind (besides_gate (Sum u)) (λ r. made_besides (shape_of v.shape.element false) (sum v.words % 2 ^ 64 ∷ []) r))

pub summed_besides : (v : Value) → Besides (summed v)
summed_besides v = besides_bind (besides_charge 1) (λ _. summed_from_besides v.secrecy v)

bits_from_besides : (w : World) (x : Secrecy) (v : Value) → Besides (bits_from w x v)
bits_from_besides w Plain v = besides_done (plain (shape_of datatype.Bool true) (flat_map bits_of v.words))
bits_from_besides w (Private k) v =
    besides_bind (besides_draw w (words_for_bits (size v))) (λ _. besides_bind (number_besides v) (λ u.
    besides_bind (besides_planned (λ first. bits_plan first u (size v))) (λ b.
    made_besides (shape_of datatype.Bool true) (flat_map bits_of v.words) b)))

pub bits_besides : (w : World) (line : ℕ) (v : Value) → Besides (bits_extracted w line v)
bits_besides w line v = besides_bind (large_besides line (64 * size v)) (λ _. bits_from_besides w v.secrecy v)

-- ---- ARRAYS

cat_besides : (x y : Value) → Besides (concatenated_from (Private None) Plain x y)
cat_besides x y =
    besides_bind (number_besides x) (λ u. besides_bind (number_besides y) (λ v.
    besides_bind (besides_gate (joined_gate x.shape.element u (size x) v (size y))) (λ r. made_besides x.shape (x.words ++ y.words) r)))

concatenated_from_besides : (a b : Secrecy) (x y : Value) → Besides (concatenated_from a b x y)
concatenated_from_besides Plain Plain x y = besides_done (plain x.shape (x.words ++ y.words))
concatenated_from_besides Plain (Private k) x y = cat_besides x y
concatenated_from_besides (Private j) Plain x y = cat_besides x y
concatenated_from_besides (Private j) (Private k) x y = cat_besides x y

pub concatenated_besides : (line : ℕ) (x y : Value) → Besides (concatenated line x y)
concatenated_besides line x y = besides_bind (large_besides line (size x + size y)) (λ _. concatenated_from_besides x.secrecy y.secrecy x y)

pub looked_up_besides : (w : World) (line : ℕ) (a i : Value) → Besides (looked_up w line a i)
looked_up_besides w line a i =
    let n = size a * size i in
    besides_bind (large_besides line n) (λ _. besides_bind (besides_draw w (words_for_lookup n)) (λ _. besides_bind (number_besides a) (λ u.
    besides_bind (number_besides i) (λ v. besides_bind (besides_planned (λ first. lookup_plan first u v (size a) (size i))) (λ r.
    made_besides (shape_of a.shape.element i.shape.array) (looked a.words i.words) r)))))

element_from_besides : (x : Secrecy) (v : Value) (i : ℕ) → Besides (element_from x v i)
element_from_besides Plain v i = besides_done (plain (shape_of v.shape.element false) (get_or v.words i 0 ∷ []))
element_from_besides (Private k) v i =
    besides_bind (number_besides v) (λ u. besides_bind (besides_gate (element_gate v.shape.element u i)) (λ r.
    made_besides (shape_of v.shape.element false) (get_or v.words i 0 ∷ []) r))

pub element_besides : (line : ℕ) (v i : Value) → Besides (element_of_array line v i)
element_besides line v i =
    besides_bind (besides_charge 1) (λ _. besides_bind (besides_test (nat_lt (position i) (size v)) trap.Index line) (λ _.
    element_from_besides v.secrecy v (position i)))

with_element_from_besides : (s : Secrecy) (v : Value) (i : ℕ) (x : Value) → Besides (with_element_from s v i x)
with_element_from_besides Plain v i x = besides_done _
with_element_from_besides (Private k) v i x =
    besides_bind (number_besides v) (λ u. besides_bind (number_besides x) (λ e.
    besides_bind (besides_gate (stored_gate v.shape.element u i e)) (λ r. besides_done _)))

pub with_element_besides : (line : ℕ) (v i x : Value) → Besides (with_element line v i x)
with_element_besides line v i x =
    besides_bind (besides_charge 1) (λ _. besides_bind (besides_test (nat_lt (position i) (size v)) trap.Index line) (λ _.
    with_element_from_besides v.secrecy v (position i) x))

filled_from_besides : (s : Secrecy) (n : ℕ) (x : Value) → Besides (filled_from s n x)
filled_from_besides Plain n x = besides_done (plain (shape_of x.shape.element true) (replicate n (first_word x.words)))
filled_from_besides (Private k) n x =
    besides_bind (number_besides x) (λ u. besides_bind (besides_gate (repeated_gate x.shape.element u n)) (λ r.
    made_besides (shape_of x.shape.element true) (replicate n (first_word x.words)) r))

pub filled_besides : (line : ℕ) (n x : Value) → Besides (filled line n x)
filled_besides line n x = besides_bind (large_besides line (position n)) (λ _. filled_from_besides x.secrecy (position n) x)

-- ---- CONTROL, AND INPUTS

pub tested_besides : (v : Value) → Besides (tested v)
tested_besides v = besides_bind (besides_charge 1) (λ _. besides_done (is_true v))

pub asserted_besides : (line : ℕ) (v : Value) → Besides (asserted line v)
asserted_besides line v = besides_bind (besides_charge 1) (λ _. besides_test (is_true v) trap.Assert line)

given_besides : (secret : Bool) (x : GivenInput) (k : ℕ) → Besides (given_value secret x k)
given_besides false x k = besides_done (plain x.shape x.words)
given_besides true x k = besides_bind (besides_gate (Input k)) (λ r. made_besides x.shape x.words r)

pub asked_besides : (secret : Bool) (shape : Shape) (line : ℕ) (x : Option (GivenInput × ℕ)) → Besides (asked_for secret shape line x)
asked_besides secret shape line None = besides_bind (besides_charge 1) (λ _. besides_end (ending.Trap trap.Argument line))
asked_besides secret shape line (Some x) =
    besides_bind (charged_besides (length x.0.words) (besides_test (is_as_declared secret shape x.0) trap.Argument line)) (λ _.
    given_besides secret x.0 x.1)

-- ---- WHAT GOES TO THE CLIENT

handed_besides : (w : World) (s : Secrecy) (v : Value) → Besides (handed_over w s v)
handed_besides w Plain v = besides_done tt
handed_besides w (Private k) v =
    besides_bind (besides_draw w (words_each (gate_size v.shape.element (size v)))) (λ _. besides_bind (number_besides v) (λ u.
    besides_bind (besides_gate (Result (ring_for v.shape.element) u)) (λ _. besides_done tt)))

pub published_besides : (w : World) (text : List ℕ) (v : Value) → Besides (published w text v)
published_besides w text v =
    besides_bind (untrapped_besides (size v)) (λ _. besides_bind (handed_besides w v.secrecy v) (λ _.
    besides_emit (publication v.secrecy v.shape.element text (elements_of v))))
