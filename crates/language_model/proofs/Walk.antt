-- A relation between two runs that each step of a run keeps, and that passes on from step to step, holds of whole programs.
use Rattle.std.proofs.Common.{◌≡◌, ℕ, zero, suc, ◌+◌, ◌-◌, ◌*◌, List, [], ◌∷◌, Option, Some, None, Bool, true, false, subst}
use Rattle.std.specs.Prelude.{length, map, sum}
use Rattle.std.specs.List.{slice_get, flat_map}
use Rattle.sc_text.specs.declared.end.Ending.{Ending}
use Rattle.sc_text.specs.declared.end.TrapKind.{TrapKind}
use Rattle.sc_text.specs.declared.end.TrapKind.TheVariants as trap
use Rattle.sc_text.specs.declared.elements.Element.{Element}
use Rattle.sc_text.specs.declared.event.Event.TheVariants as event
use Rattle.plans.specs.Gate.{Gate}
use Rattle.plans.specs.Gate.TheVariants.{Const, Sub, And, Xor, Pack, Unpack, Conv}
use Rattle.plans.specs.Clear.{bits_of}
use Rattle.plans.specs.Equality.{eq_plan}
use Rattle.plans.specs.BitExtract.{bits_plan}
use Rattle.plans.specs.Compare.{less_plan}
use Rattle.plans.specs.Signed.{signed_less_plan}
use Rattle.oblivious_index.specs.Lookup.{looked, lookup_plan}
use Rattle.program_trees.specs.declared.expression.DataType.{DataType}
use Rattle.program_trees.specs.declared.expression.DataType.TheVariants.{Uint64, Int64}
use Rattle.program_trees.specs.declared.expression.DataType.TheVariants as datatype
use Rattle.reached_instances.specs.Shape.{Shape}
use Rattle.reached_instances.specs.Slot.{Slot}
use Rattle.reached_instances.specs.OperatorSign.{OperatorSign}
use Rattle.reached_instances.specs.OperatorSign.TheVariants as word
use Rattle.reached_instances.specs.BoolOperator.{BoolOperator}
use Rattle.reached_instances.specs.BoolOperator.TheVariants as truth
use Rattle.reached_instances.specs.BinaryOperator.{BinaryOperator}
use Rattle.reached_instances.specs.BinaryOperator.TheVariants as binary
use Rattle.reached_instances.specs.Operands.{Operands}
use Rattle.reached_instances.specs.Operands.TheVariants.{Scalars}
use Rattle.reached_instances.specs.Cast.{Cast}
use Rattle.reached_instances.specs.Connective.{Connective}
use Rattle.reached_instances.specs.TypedTree.{TypedTree, TypedTrees, word_node, truth_node, zero_node, slot_node, call_node, size_node, cat_node, sum_node, bits_node}
use Rattle.reached_instances.specs.TypedTree.{lookup_node, element_node, not_node, cast_node, binary_node, cut_node, declassify_node}
use Rattle.reached_instances.specs.TypedTree as Tree'
use Rattle.reached_instances.specs.TypedStatements.{TypedStatementTree, TypedStatementTrees, empty_statement, block_statement, if_statement, loop_statement}
use Rattle.reached_instances.specs.TypedStatements.{do_statement}
use Rattle.reached_instances.specs.TypedStatements.{break_statement, continue_statement, return_statement, assert_statement, store_statement, default_statement}
use Rattle.reached_instances.specs.TypedStatements.{fill_statement, input_statement, element_statement, publish_statement, evaluate_statement}
use Rattle.reached_instances.specs.TypedStatements as Statements'
use Rattle.reached_instances.specs.TypedPrograms.{TypedFunctionTree, TypedProgramTree}
use Rattle.reached_instances.specs.declared.instance.BoundDomain.{BoundDomain}
use Rattle.reached_instances.specs.Domains.{Setting, domains}
use Rattle.reached_instances.specs.Shapes.{shape_of}
use Rattle.language_model.specs.Effects.{Words, World, GivenInput, Source, Clear, Answers, Effect, ◌>>=◌, done, end, charge, test, draw, gate, next_number}
use Rattle.language_model.specs.Effects.{put_gates, planned, emit, next_answers, answer, show}
use Rattle.language_model.specs.Values.{Secrecy, Plain, Private, Value, plain, hidden, size, visible_words, default_words, gate_words, elements_of}
use Rattle.language_model.specs.Words.{flipped, result_size, result_words, are_alike, may_divide}
use Rattle.language_model.specs.Operations.{charged, is_classified, words_of_operator, is_scalar_left, is_scalar_right, result_shape, made_private, read_answer}
use Rattle.language_model.specs.Operations.{words_for_bits, words_for_lookup, number_from, number_of, classified_from, wanted, revealed, opened_from, declassified, stretched}
use Rattle.language_model.specs.Operations.{flip, zero_gates, equal_gates, less_gates, signed_less_gates, number_gates, operator_gates, private_result, product_with, combined_from}
use Rattle.language_model.specs.Operations.{operator_traps, operated, operation, negated_from, negated, truth_gates, conversion_gates, gates_between, changed, converted}
use Rattle.language_model.specs.Operations.{cast_from, cast_to, size_told, summed_from, summed, bits_from, bits_extracted, looked_up, lookup, concatenated_from, concatenated, element_from, element_of_array}
use Rattle.language_model.specs.Operations.{with_element_from, with_element, filled_from, filled, handed_over, publication, published, tested, asserted}
use Rattle.language_model.specs.Evaluation.{Frame, put, Calls, gives_private, slot_is_private, slots_of, bound_at, next_is_private, behind_next}
use Rattle.language_model.specs.Evaluation.{connective, decides, truth_value, slot_shape, entered, result_of, place_in, array_elements, given_value}
use Rattle.language_model.specs.Evaluation.{asked_for, input_from, input_named, either, cut_short, not_cut_short, value, arguments, Flow, goes}
use Rattle.language_model.specs.Evaluation.{returns, stops, skips, then_do, turns, repeats, StatementContext, stored, execute, execute_all, body_of}
use Rattle.language_model.specs.Evaluation.{call_at, deepest}

-- words that are opened and told in one step: so a law can say what the two have to do with one another
abbrev pub told_open : Shape → List ℕ → Effect Value
told_open shape words = do
  _ ← show (read_answer shape.element words)
  _ ← emit (event.Open (elements_of (plain shape (read_answer shape.element words))))
  done (plain shape (read_answer shape.element words))

-- the steps, under two worlds with the same inputs and answers
pub record IsLaw (w w' : World) (P : (A : Type 0) → Effect A → Effect A → Type 0) : Type 1 where
  pub source : w.source ≡ w'.source
  pub inputs : w.inputs ≡ w'.inputs
  pub bind : {A B : Type 0} {m m' : Effect A} {f f' : A → Effect B} → P _ m m' → ((a : A) → P _ (f a) (f' a)) → P _ (m >>= f) (m' >>= f')
  pub on_done : {A : Type 0} (a : A) → P _ (done a) (done a)
  pub on_end : {A : Type 0} (e : Ending) → P _ (end {A = A} e) (end {A = A} e)
  pub on_charge : (n : ℕ) → P _ (charge n) (charge n)
  pub on_test : (b : Bool) (kind : TrapKind) (line : ℕ) → P _ (test b kind line) (test b kind line)
  pub on_draw : (n : Words) → P _ (draw w n) (draw w' n)
  pub on_gate : (g : Gate) → P _ (gate g) (gate g)
  pub on_number : P _ next_number next_number
  pub on_gates : (gs : List Gate) → P _ (put_gates gs) (put_gates gs)
  pub on_publish : (x : Secrecy) (e : DataType) (text : List ℕ) (elements : List Element)
      → P _ (emit (publication x e text elements)) (emit (publication x e text elements))
  pub on_answers : (n : ℕ) → P _ (next_answers n) (next_answers n)
  pub on_told : (shape : Shape) (words : List ℕ) → P _ (told_open shape words) (told_open shape words)
  pub on_turns : {condition condition' : Frame → Effect Value} {step step' body body' : Frame → Effect Flow}
      → ((fr : Frame) → P _ (condition fr) (condition' fr)) → ((fr : Frame) → P _ (step fr) (step' fr)) → ((fr : Frame) → P _ (body fr) (body' fr))
      → (fr : Frame) → P _ (λ s. turns (s.left + 1) condition step body fr s) (λ s. turns (s.left + 1) condition' step' body' fr s)
  pub on_repeats : {condition condition' : Frame → Effect Value} {body body' : Frame → Effect Flow}
      → ((fr : Frame) → P _ (condition fr) (condition' fr)) → ((fr : Frame) → P _ (body fr) (body' fr)) → (fr : Frame)
      → P _ (λ s. repeats (s.left + 1) condition body fr s) (λ s. repeats (s.left + 1) condition' body' fr s)

-- a program's run
abbrev pub main_of : World → TypedProgramTree → Effect Value
main_of w p = body_of w (call_at w p.functions (deepest - 1)) p.functions (slice_get p.functions 0) [] []

module _ (w w' : World) (P : (A : Type 0) → Effect A → Effect A → Type 0) (law : IsLaw w w' P) where
  -- ---- OPERATIONS

  pub charged_holds : (t : Effect (Unit {0})) (n : ℕ) → P _ t t → P _ (charged t n) (charged t n)
  charged_holds t n h = law.bind (law.on_charge 1) (λ _. law.bind h (λ _. law.on_charge (n - 1)))

  pub untrapped_holds : (n : ℕ) → P _ (charged (done tt) n) (charged (done tt) n)
  untrapped_holds n = charged_holds (done tt) n (law.on_done tt)

  pub number_from_holds : (x : Secrecy) (words : List ℕ) → P _ (number_from x words) (number_from x words)
  number_from_holds (Private (Some k)) words = law.on_done k
  number_from_holds (Private None) words = law.on_gate (Const words)
  number_from_holds Plain words = law.on_gate (Const words)

  pub number_holds : (v : Value) → P _ (number_of v) (number_of v)
  number_holds v = number_from_holds v.secrecy (gate_words v.shape.element v.words)

  pub made_holds : (shape : Shape) (words : List ℕ) (k : ℕ) → P _ (made_private shape words k) (made_private shape words k)
  made_holds shape words k = law.on_done (hidden shape k words)

  pub classified_holds : (x : Secrecy) (v : Value) → P _ (classified_from x v) (classified_from x v)
  classified_holds (Private k) v = law.on_done v
  classified_holds Plain v = law.bind (untrapped_holds (size v)) (λ _. law.bind (law.on_gate _) (λ k. law.on_done _))

  pub wanted_holds : (secret : Bool) (v : Value) → P _ (wanted secret v) (wanted secret v)
  wanted_holds true v = classified_holds v.secrecy v
  wanted_holds false v = law.on_done v

  pub answer_holds : (o : Source) (words : List ℕ) → P _ (answer o words) (answer o words)
  answer_holds Clear words = law.on_done words
  answer_holds Answers words = law.on_answers (length words)

  pub revealed_holds : (v : Value) → P _ (revealed w v) (revealed w' v)
  revealed_holds v =
      law.bind (subst (λ o. P _ (answer w.source v.words) (answer o v.words)) law.source (answer_holds w.source v.words)) (λ words.
      law.on_told v.shape words)

  pub opened_holds : (x : Secrecy) (v : Value) → P _ (opened_from w x v) (opened_from w' x v)
  opened_holds Plain v = law.on_done v
  opened_holds (Private k) v = law.bind (law.on_draw _) (λ _. law.bind (number_holds v) (λ u. law.bind (law.on_gate _) (λ _. revealed_holds v)))

  pub declassified_holds : (v : Value) → P _ (declassified w v) (declassified w' v)
  declassified_holds v = law.bind (untrapped_holds (size v)) (λ _. opened_holds v.secrecy v)

  pub stretched_holds : (e : DataType) (scalar : Bool) (n u : ℕ) → P _ (stretched e scalar n u) (stretched e scalar n u)
  stretched_holds e true n u = law.on_gate _
  stretched_holds e false n u = law.on_done u

  pub flip_holds : (n u : ℕ) → P _ (flip n u) (flip n u)
  flip_holds n u = law.bind (law.on_gate _) (λ ones. law.on_gate _)

  pub planned_holds : (plan : ℕ → List Gate) → P _ (planned plan) (planned plan)
  planned_holds plan = law.bind law.on_number (λ first. law.on_gates (plan first))

  pub zero_holds : (d : ℕ) → P _ (zero_gates d) (zero_gates d)
  zero_holds d = law.bind (planned_holds (λ first. eq_plan first d)) (λ z. law.on_gate (Pack z))

  pub equal_holds : (u v : ℕ) → P _ (equal_gates u v) (equal_gates u v)
  equal_holds u v = law.bind (law.on_gate (Sub u v)) zero_holds

  pub less_holds : (n u v : ℕ) → P _ (less_gates n u v) (less_gates n u v)
  less_holds n u v = law.bind (planned_holds (λ first. less_plan first u v n)) (λ z. law.on_gate (Pack z))

  pub signed_less_holds : (n u v : ℕ) → P _ (signed_less_gates n u v) (signed_less_gates n u v)
  signed_less_holds n u v = law.bind (planned_holds (λ first. signed_less_plan first u v n)) (λ z. law.on_gate (Pack z))

  -- by what the gates do that tell which number is less
  pub number_gates_hold : (less : ℕ → ℕ → ℕ → Effect ℕ) → ((n u v : ℕ) → P _ (less n u v) (less n u v)) → (op : OperatorSign) (n u v : ℕ)
      → P _ (number_gates less op n u v) (number_gates less op n u v)
  number_gates_hold less h word.Add n u v = law.on_gate _
  number_gates_hold less h word.Subtract n u v = law.on_gate _
  number_gates_hold less h word.Multiply n u v = law.on_gate _
  number_gates_hold less h word.Equal n u v = equal_holds u v
  number_gates_hold less h word.NotEqual n u v = law.bind (equal_holds u v) (flip_holds n)
  number_gates_hold less h word.Less n u v = h n u v
  number_gates_hold less h word.Greater n u v = h n v u
  number_gates_hold less h word.GreaterOrEqual n u v = law.bind (h n u v) (flip_holds n)
  number_gates_hold less h word.LessOrEqual n u v = law.bind (h n v u) (flip_holds n)
  number_gates_hold less h op n u v = law.on_number

  pub bool_gates_hold : (op : BoolOperator) (n u v : ℕ) → P _ (operator_gates (binary.Bools op) n u v) (operator_gates (binary.Bools op) n u v)
  bool_gates_hold truth.Xor n u v = law.on_gate _
  bool_gates_hold truth.And n u v = law.on_gate _
  bool_gates_hold truth.Or n u v = law.bind (law.on_gate (And u v)) (λ both. law.bind (law.on_gate (Xor u v)) (λ one. law.on_gate (Xor one both)))
  bool_gates_hold truth.NotEqual n u v = law.on_gate _
  bool_gates_hold truth.Equal n u v = law.bind (law.on_gate _) (flip_holds n)

  pub operator_gates_hold : (op : BinaryOperator) (n u v : ℕ) → P _ (operator_gates op n u v) (operator_gates op n u v)
  operator_gates_hold (binary.Words op) n u v = number_gates_hold less_gates less_holds op n u v
  operator_gates_hold (binary.Ints op) n u v = number_gates_hold signed_less_gates signed_less_holds op n u v
  operator_gates_hold (binary.Bools op) n u v = bool_gates_hold op n u v

  pub private_result_holds : (op : BinaryOperator) (ds : Operands) (x y : Value) → P _ (private_result w op ds x y) (private_result w' op ds x y)
  private_result_holds op ds x y =
      let n = result_size ds x y in
      law.bind (law.on_draw (words_of_operator op n)) (λ _. law.bind (number_holds x) (λ j. law.bind (number_holds y) (λ k.
      law.bind (stretched_holds x.shape.element (is_scalar_left ds) n j) (λ u. law.bind (stretched_holds y.shape.element (is_scalar_right ds) n k) (λ v.
      law.bind (operator_gates_hold op n u v) (λ r. made_holds (result_shape op ds) (result_words op ds x y) r))))))

  pub product_holds : (op : BinaryOperator) (ds : Operands) (scalar : Bool) (x : Value) (known words : List ℕ)
      → P _ (product_with op ds scalar x known words) (product_with op ds scalar x known words)
  product_holds op ds scalar x known words =
      law.bind (number_holds x) (λ j. law.bind (stretched_holds x.shape.element scalar _ j) (λ u. law.bind (law.on_gate _) (λ r. law.on_done _)))

  pub combined_holds : (a b : Secrecy) (op : BinaryOperator) (ds : Operands) (x y : Value)
      → P _ (combined_from a b w op ds x y) (combined_from a b w' op ds x y)
  combined_holds Plain Plain op ds x y = law.on_done _
  combined_holds (Private j) (Private k) op ds x y = private_result_holds op ds x y
  combined_holds (Private j) Plain op ds x y = product_holds op ds _ x _ _
  combined_holds Plain (Private k) op ds x y = product_holds op ds _ y _ _

  pub operated_holds : (line : ℕ) (op : BinaryOperator) (ds : Operands) (x y : Value) → P _ (operated w line op ds x y) (operated w' line op ds x y)
  operated_holds line op ds x y =
      law.bind (charged_holds (operator_traps line op ds x y) (result_size ds x y)
      (law.bind (law.on_test (are_alike ds x y) trap.Length line) (λ _. law.on_test (may_divide op (visible_words y)) trap.Div line)))
      (λ _. combined_holds x.secrecy y.secrecy op ds x y)

  pub operation_holds : (line : ℕ) (op : BinaryOperator) (ds : Operands) (x y : Value) → P _ (operation w line op ds x y) (operation w' line op ds x y)
  operation_holds line op ds x y =
      law.bind (wanted_holds (is_classified op x y) x) (λ a. law.bind (wanted_holds (is_classified op y x) y) (λ b. operated_holds line op ds a b))

  pub negated_from_holds : (x : Secrecy) (v : Value) → P _ (negated_from x v) (negated_from x v)
  negated_from_holds Plain v = law.on_done _
  negated_from_holds (Private k) v = law.bind (number_holds v) (λ u. law.bind (flip_holds (size v) u) (λ r. made_holds v.shape (map flipped v.words) r))

  pub negated_holds : (v : Value) → P _ (negated v) (negated v)
  negated_holds v = law.bind (untrapped_holds (size v)) (λ _. negated_from_holds v.secrecy v)

  pub truth_holds : (n u : ℕ) → P _ (truth_gates n u) (truth_gates n u)
  truth_holds n u = law.bind (zero_holds u) (flip_holds n)

  pub conversion_holds : (n u : ℕ) → P _ (conversion_gates n u) (conversion_gates n u)
  conversion_holds n u = law.bind (law.on_gate (Unpack u n)) (λ z. law.on_gate (Conv z))

  pub gates_between_hold : (given wanted : DataType) (n u : ℕ) → P _ (gates_between given wanted n u) (gates_between given wanted n u)
  gates_between_hold Uint64 Uint64 n u = law.on_done u
  gates_between_hold Uint64 Int64 n u = law.on_done u
  gates_between_hold Uint64 datatype.Bool n u = truth_holds n u
  gates_between_hold Int64 Uint64 n u = law.on_done u
  gates_between_hold Int64 Int64 n u = law.on_done u
  gates_between_hold Int64 datatype.Bool n u = truth_holds n u
  gates_between_hold datatype.Bool Uint64 n u = conversion_holds n u
  gates_between_hold datatype.Bool Int64 n u = conversion_holds n u
  gates_between_hold datatype.Bool datatype.Bool n u = law.on_done u

  pub changed_holds : (c : Cast) (v : Value) → P _ (changed w c v) (changed w' c v)
  changed_holds c v =
      law.bind (law.on_draw _) (λ _. law.bind (number_holds v) (λ u. law.bind (gates_between_hold c.given c.wanted _ u) (λ r. law.on_done _)))

  pub converted_holds : (x : Secrecy) (c : Cast) (v : Value) → P _ (converted w x c v) (converted w' x c v)
  converted_holds Plain c v = law.on_done _
  converted_holds (Private k) c v = changed_holds c v

  pub cast_from_holds : (given wanted : DataType) (c : Cast) (v : Value) → P _ (cast_from given wanted w c v) (cast_from given wanted w' c v)
  cast_from_holds Uint64 Uint64 c v = law.on_done v
  cast_from_holds Uint64 Int64 c v = law.on_done _
  cast_from_holds Uint64 datatype.Bool c v = converted_holds v.secrecy c v
  cast_from_holds Int64 Uint64 c v = law.on_done _
  cast_from_holds Int64 Int64 c v = law.on_done v
  cast_from_holds Int64 datatype.Bool c v = converted_holds v.secrecy c v
  cast_from_holds datatype.Bool Uint64 c v = converted_holds v.secrecy c v
  cast_from_holds datatype.Bool Int64 c v = converted_holds v.secrecy c v
  cast_from_holds datatype.Bool datatype.Bool c v = law.on_done v

  pub cast_holds : (c : Cast) (v : Value) → P _ (cast_to w c v) (cast_to w' c v)
  cast_holds c v = law.bind (untrapped_holds (size v)) (λ _. cast_from_holds c.given c.wanted c v)

  pub size_holds : (v : Value) → P _ (size_told v) (size_told v)
  size_holds v = law.bind (law.on_charge 1) (λ _. law.on_done _)

  pub summed_from_holds : (x : Secrecy) (v : Value) → P _ (summed_from x v) (summed_from x v)
  summed_from_holds Plain v = law.on_done _
  summed_from_holds (Private k) v = law.bind (number_holds v) (λ u. law.bind (law.on_gate _) (λ r. law.on_done _))

  pub summed_holds : (v : Value) → P _ (summed v) (summed v)
  summed_holds v = law.bind (law.on_charge 1) (λ _. summed_from_holds v.secrecy v)

  pub bits_from_holds : (x : Secrecy) (v : Value) → P _ (bits_from w x v) (bits_from w' x v)
  bits_from_holds Plain v = law.on_done _
  bits_from_holds (Private k) v =
      law.bind (law.on_draw (words_for_bits (size v)))
      (λ _. law.bind (number_holds v)
      (λ u. law.bind (planned_holds (λ first. bits_plan first u (size v)))
      (λ b. made_holds (shape_of datatype.Bool true) (flat_map bits_of v.words) b)))

  pub bits_holds : (line : ℕ) (v : Value) → P _ (bits_extracted w line v) (bits_extracted w' line v)
  bits_holds line v = law.bind (charged_holds _ _ (law.on_test _ _ _)) (λ _. bits_from_holds v.secrecy v)

  pub looked_up_holds : (line : ℕ) (a i : Value) → P _ (looked_up w line a i) (looked_up w' line a i)
  looked_up_holds line a i =
      law.bind (charged_holds _ _ (law.on_test _ _ _))
      (λ _. law.bind (law.on_draw (words_for_lookup (size a * size i)))
      (λ _. law.bind (number_holds a)
      (λ u. law.bind (number_holds i)
      (λ v. law.bind (planned_holds (λ first. lookup_plan first u v (size a) (size i)))
      (λ r. made_holds (shape_of a.shape.element i.shape.array) (looked a.words i.words) r)))))

  pub lookup_holds : (line : ℕ) (a i : Value) → P _ (lookup w line a i) (lookup w' line a i)
  lookup_holds line a i =
      law.bind (classified_holds a.secrecy a) (λ x. law.bind (classified_holds i.secrecy i) (λ k. looked_up_holds line x k))

  pub catenated_holds : (x y : Value) → P _ (concatenated_from (Private None) Plain x y) (concatenated_from (Private None) Plain x y)
  catenated_holds x y = law.bind (number_holds x) (λ u. law.bind (number_holds y) (λ v. law.bind (law.on_gate _) (λ r. law.on_done _)))

  pub concatenated_from_holds : (a b : Secrecy) (x y : Value) → P _ (concatenated_from a b x y) (concatenated_from a b x y)
  concatenated_from_holds Plain Plain x y = law.on_done _
  concatenated_from_holds Plain (Private k) x y = catenated_holds x y
  concatenated_from_holds (Private j) Plain x y = catenated_holds x y
  concatenated_from_holds (Private j) (Private k) x y = catenated_holds x y

  pub concatenated_holds : (line : ℕ) (x y : Value) → P _ (concatenated line x y) (concatenated line x y)
  concatenated_holds line x y = law.bind (charged_holds _ _ (law.on_test _ _ _)) (λ _. concatenated_from_holds x.secrecy y.secrecy x y)

  pub element_from_holds : (x : Secrecy) (v : Value) (i : ℕ) → P _ (element_from x v i) (element_from x v i)
  element_from_holds Plain v i = law.on_done _
  element_from_holds (Private k) v i = law.bind (number_holds v) (λ u. law.bind (law.on_gate _) (λ r. law.on_done _))

  pub element_holds : (line : ℕ) (v i : Value) → P _ (element_of_array line v i) (element_of_array line v i)
  element_holds line v i = law.bind (law.on_charge 1) (λ _. law.bind (law.on_test _ _ _) (λ _. element_from_holds v.secrecy v _))

  pub with_element_from_holds : (a : Secrecy) (v : Value) (i : ℕ) (x : Value) → P _ (with_element_from a v i x) (with_element_from a v i x)
  with_element_from_holds Plain v i x = law.on_done _
  with_element_from_holds (Private k) v i x = law.bind (number_holds v) (λ u. law.bind (number_holds x) (λ e. law.bind (law.on_gate _) (λ r. law.on_done _)))

  pub with_element_holds : (line : ℕ) (v i x : Value) → P _ (with_element line v i x) (with_element line v i x)
  with_element_holds line v i x = law.bind (law.on_charge 1) (λ _. law.bind (law.on_test _ _ _) (λ _. with_element_from_holds v.secrecy v _ x))

  pub filled_from_holds : (a : Secrecy) (n : ℕ) (x : Value) → P _ (filled_from a n x) (filled_from a n x)
  filled_from_holds Plain n x = law.on_done _
  filled_from_holds (Private k) n x = law.bind (number_holds x) (λ u. law.bind (law.on_gate _) (λ r. law.on_done _))

  pub filled_holds : (line : ℕ) (n x : Value) → P _ (filled line n x) (filled line n x)
  filled_holds line n x = law.bind (charged_holds _ _ (law.on_test _ _ _)) (λ _. filled_from_holds x.secrecy _ x)

  pub handed_holds : (x : Secrecy) (v : Value) → P _ (handed_over w x v) (handed_over w' x v)
  handed_holds Plain v = law.on_done tt
  handed_holds (Private k) v = law.bind (law.on_draw _) (λ _. law.bind (number_holds v) (λ u. law.bind (law.on_gate _) (λ _. law.on_done tt)))

  pub published_holds : (text : List ℕ) (v : Value) → P _ (published w text v) (published w' text v)
  published_holds text v = law.bind (untrapped_holds (size v)) (λ _. law.bind (handed_holds v.secrecy v) (λ _. law.on_publish _ _ _ _))

  pub tested_holds : (v : Value) → P _ (tested v) (tested v)
  tested_holds v = law.bind (law.on_charge 1) (λ _. law.on_done _)

  pub asserted_holds : (line : ℕ) (v : Value) → P _ (asserted line v) (asserted line v)
  asserted_holds line v = law.bind (law.on_charge 1) (λ _. law.on_test _ _ _)

  -- ---- INPUTS

  pub given_holds : (secret : Bool) (x : GivenInput) (k : ℕ) → P _ (given_value secret x k) (given_value secret x k)
  given_holds false x k = law.on_done _
  given_holds true x k = law.bind (law.on_gate _) (λ r. law.on_done _)

  pub asked_holds : (secret : Bool) (shape : Shape) (line : ℕ) (o : Option (GivenInput × ℕ))
      → P _ (asked_for secret shape line o) (asked_for secret shape line o)
  asked_holds secret shape line None = law.bind (law.on_charge 1) (λ _. law.on_end _)
  asked_holds secret shape line (Some x) = law.bind (charged_holds _ _ (law.on_test _ _ _)) (λ _. given_holds secret x.0 x.1)

  pub input_holds : (secret : Bool) (shape : Shape) (line : ℕ) (text : List ℕ)
      → P _ (asked_for secret shape line (input_named w text)) (asked_for secret shape line (input_named w' text))
  input_holds secret shape line text =
      subst (λ xs. P _ (asked_for secret shape line (input_named w text)) (asked_for secret shape line (input_from 0 text xs))) law.inputs
      (asked_holds secret shape line (input_named w text))

  -- ---- EXPRESSIONS

  either_holds : {A : Type 0} (b : Bool) {m m' n n' : Effect A} → P _ m m' → P _ n n' → P _ (either b m n) (either b m' n')
  either_holds true h k = h
  either_holds false h k = k

  cut_short_holds : (c : Connective) (secret : Bool) (x : Value) (m m' : Effect Value) → P _ m m' → P _ (cut_short c secret x m) (cut_short c secret x m')
  cut_short_holds c secret x m m' h = law.bind (tested_holds x) (λ t. either_holds (decides c t) (wanted_holds secret (truth_value t)) h)

  not_cut_short_holds : (c : Connective) (x : Value) (m m' : Effect Value) → P _ m m' → P _ (not_cut_short w c x m) (not_cut_short w' c x m')
  not_cut_short_holds c x m m' h = law.bind h (λ y. operation_holds 0 (binary.Bools (connective c)) Scalars x y)

  abbrev CallsHold : Calls → Calls → Type 0
  CallsHold calls calls' = (line k : ℕ) (bs : List BoundDomain) (xs : List Value) → P _ (calls line k bs xs) (calls' line k bs xs)

  module _ (calls calls' : Calls) (called : CallsHold calls calls') where
    mutual
      unfolding value arguments

      value_holds : (here : Setting) (e : TypedTree) (fr : Frame) → P _ (value w calls here e fr) (value w' calls' here e fr)
      value_holds here (word_node n) fr = law.on_done _
      value_holds here (truth_node b) fr = law.on_done _
      value_holds here zero_node fr = law.on_done _
      value_holds here (slot_node k) fr = law.on_done _
      value_holds here (call_node line k es) fr =
          let bs = bound_at (slice_get here.functions k) (domains here es) in
          law.bind (arguments_hold here bs (slots_of (slice_get here.functions k)) es fr) (λ xs. called line k bs xs)
      value_holds here (size_node e) fr = law.bind (value_holds here e fr) size_holds
      value_holds here (cat_node line a b) fr =
          let secret = gives_private here (cat_node line a b) in
          law.bind (value_holds here a fr)
          (λ x. law.bind (wanted_holds secret x)
          (λ u. law.bind (value_holds here b fr) (λ y. law.bind (wanted_holds secret y) (λ v. concatenated_holds line u v))))
      value_holds here (sum_node e) fr = law.bind (value_holds here e fr) summed_holds
      value_holds here (bits_node line e) fr = law.bind (value_holds here e fr) (bits_holds line)
      value_holds here (lookup_node line a i) fr = law.bind (value_holds here a fr) (λ x. law.bind (value_holds here i fr) (λ k. lookup_holds line x k))
      value_holds here (element_node line a i) fr = law.bind (value_holds here a fr) (λ x. law.bind (value_holds here i fr) (λ j. element_holds line x j))
      value_holds here (not_node e) fr = law.bind (value_holds here e fr) negated_holds
      value_holds here (cast_node c e) fr = law.bind (value_holds here e fr) (cast_holds c)
      value_holds here (binary_node line op ds a b) fr =
          law.bind (value_holds here a fr) (λ x. law.bind (value_holds here b fr) (λ y. operation_holds line op ds x y))
      value_holds here (cut_node c a b) fr =
          law.bind (value_holds here a fr)
          (λ x. either_holds (gives_private here a) (not_cut_short_holds c x _ _ (value_holds here b fr))
          (cut_short_holds c (gives_private here b) x _ _ (value_holds here b fr)))
      value_holds here (declassify_node e) fr = law.bind (value_holds here e fr) declassified_holds

      arguments_hold : (here : Setting) (bs : List BoundDomain) (ss : List Slot) (es : TypedTrees) (fr : Frame)
          → P _ (arguments w calls here bs ss es fr) (arguments w' calls' here bs ss es fr)
      arguments_hold here bs ss Tree'.none fr = law.on_done _
      arguments_hold here bs ss (Tree'.also e es) fr =
          law.bind (value_holds here e fr)
          (λ x. law.bind (wanted_holds (next_is_private bs ss) x)
          (λ a. law.bind (arguments_hold here bs (behind_next ss) es fr) (λ xs. law.on_done (a ∷ xs))))

    -- ---- STATEMENTS

    then_holds : (g : Flow) (f f' : Frame → Effect Flow) → ((fr : Frame) → P _ (f fr) (f' fr)) → P _ (then_do g f) (then_do g f')
    then_holds (goes fr) f f' h = h fr
    then_holds (returns v) f f' h = law.on_done _
    then_holds (stops fr) f f' h = law.on_done _
    then_holds (skips fr) f f' h = law.on_done _

    stored_holds : (here : Setting) (k : ℕ) (x : Value) (fr : Frame) → P _ (stored here k x fr) (stored here k x fr)
    stored_holds here k x fr = law.bind (wanted_holds (slot_is_private here k) x)
        (λ v. law.bind (untrapped_holds (size v)) (λ _. law.on_done (goes (put k v fr))))

    mutual
      unfolding execute execute_all

      execute_holds : (at : StatementContext) (c : TypedStatementTree) (fr : Frame) → P _ (execute w calls at c fr) (execute w' calls' at c fr)
      execute_holds at empty_statement fr = law.on_done _
      execute_holds at (block_statement cs) fr = execute_all_holds at cs fr
      execute_holds at (if_statement e a b) fr =
          law.bind (value_holds at.here e fr) (λ v. law.bind (tested_holds v) (λ t. either_holds t (execute_holds at a fr) (execute_holds at b fr)))
      execute_holds at (loop_statement e step body) fr = law.on_turns (value_holds at.here e) (execute_holds at step) (execute_holds at body) fr
      execute_holds at (do_statement body e) fr = law.on_repeats (value_holds at.here e) (execute_holds at body) fr
      execute_holds at break_statement fr = law.on_done _
      execute_holds at continue_statement fr = law.on_done _
      execute_holds at (return_statement None) fr = law.on_done _
      execute_holds at (return_statement (Some e)) fr =
          law.bind (value_holds at.here e fr) (λ x. law.bind (wanted_holds at.secret_result x) (λ v. law.on_done (returns v)))
      execute_holds at (assert_statement line e) fr = law.bind (value_holds at.here e fr) (λ v. law.bind (asserted_holds line v) (λ _. law.on_done (goes fr)))
      execute_holds at (store_statement k e) fr = law.bind (value_holds at.here e fr) (λ x. stored_holds at.here k x fr)
      execute_holds at (default_statement k) fr = stored_holds at.here k (plain (slot_shape at.here k) (default_words (slot_shape at.here k).array)) fr
      execute_holds at (fill_statement line k n e) fr =
          law.bind (value_holds at.here n fr)
          (λ m. law.bind (value_holds at.here e fr)
          (λ x. law.bind (wanted_holds (slot_is_private at.here k) x) (λ a. law.bind (filled_holds line m a) (λ v. law.on_done (goes (put k v fr))))))
      execute_holds at (input_statement line k text) fr =
          law.bind (input_holds (slot_is_private at.here k) (slot_shape at.here k) line text) (λ x. stored_holds at.here k x fr)
      execute_holds at (element_statement line k i e) fr =
          law.bind (value_holds at.here i fr)
          (λ j. law.bind (value_holds at.here e fr)
          (λ x. law.bind (wanted_holds (slot_is_private at.here k) x)
          (λ a. law.bind (with_element_holds line (fr k) j a) (λ v. law.on_done (goes (put k v fr))))))
      execute_holds at (publish_statement text e) fr = law.bind (value_holds at.here e fr) (λ v. law.bind (published_holds text v) (λ _. law.on_done (goes fr)))
      execute_holds at (evaluate_statement e) fr = law.bind (value_holds at.here e fr) (λ _. law.on_done (goes fr))

      execute_all_holds : (at : StatementContext) (cs : TypedStatementTrees) (fr : Frame) → P _ (execute_all w calls at cs fr) (execute_all w' calls' at cs fr)
      execute_all_holds at Statements'.none fr = law.on_done _
      execute_all_holds at (Statements'.also c cs) fr = law.bind (execute_holds at c fr) (λ g. then_holds g _ _ (execute_all_holds at cs))

    body_holds : (fs : List TypedFunctionTree) (f : Option TypedFunctionTree) (bs : List BoundDomain) (xs : List Value)
        → P _ (body_of w calls fs f bs xs) (body_of w' calls' fs f bs xs)
    body_holds fs None bs xs = law.on_done _
    body_holds fs (Some f) bs xs = law.bind (execute_all_holds (place_in fs f bs) f.body (entered bs f.slots xs)) (λ g. law.on_done (result_of g))

  -- ---- FUNCTIONS

  calls_hold : (fs : List TypedFunctionTree) (d : ℕ) → CallsHold (call_at w fs d) (call_at w' fs d)
  unfolding call_at
  calls_hold fs zero line k bs xs = law.bind (law.on_charge 1) (λ _. law.on_end _)
  calls_hold fs (suc d) line k bs xs =
      law.bind (law.on_charge 1) (λ _. law.bind (law.on_charge (sum (map array_elements xs)))
      (λ _. body_holds (call_at w fs d) (call_at w' fs d) (calls_hold fs d) fs (slice_get fs k) bs xs))

  pub program_holds : (p : TypedProgramTree) → P _ (main_of w p) (main_of w' p)
  program_holds p = body_holds _ _ (calls_hold p.functions (deepest - 1)) p.functions (slice_get p.functions 0) [] []
