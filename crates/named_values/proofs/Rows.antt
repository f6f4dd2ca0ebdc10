-- The rows of the language take values that their operands name, and give values that name no others, but for those that they make.
use Rattle.std.proofs.Common.{◌≡◌, ℕ, ◌+◌, ◌-◌, ◌*◌, ◌%◌, ◌^◌, List, [], ◌∷◌, ◌++◌, length, map, Some, None, Bool, true, false, Option, refl, subst}
use Rattle.std.specs.Prelude.{get_or, nat_le, nat_lt, replicate, set, sum}
use Rattle.std.specs.List.{flat_map}
use Rattle.sc_text.specs.declared.end.Ending.TheVariants as ending
use Rattle.sc_text.specs.declared.end.TrapKind.TheVariants as trap
use Rattle.sc_text.specs.declared.event.Event.TheVariants as event
use Rattle.program_trees.specs.declared.expression.DataType.{DataType}
use Rattle.program_trees.specs.declared.expression.DataType.TheVariants.{Uint64, Int64}
use Rattle.program_trees.specs.declared.expression.DataType.TheVariants as datatype
use Rattle.gates.specs.declared.gate.Gate.TheVariants as gates
use Rattle.gates.specs.Clear.{bits_of, first_word}
use Rattle.plans.specs.Equality.{eq_plan}
use Rattle.plans.specs.BitExtract.{bits_plan}
use Rattle.plans.specs.Compare.{less_plan}
use Rattle.plans.specs.Signed.{signed_less_plan}
use Rattle.language_model.specs.Lookup.{looked, lookup_plan}
use Rattle.program_trees.specs.declared.kinds.Shape.{Shape}
use Rattle.program_trees.specs.declared.operators.OperatorSign.{OperatorSign}
use Rattle.program_trees.specs.declared.operators.OperatorSign.TheVariants as word
use Rattle.program_trees.specs.declared.operators.BoolOperator.{BoolOperator}
use Rattle.program_trees.specs.declared.operators.BoolOperator.TheVariants as truth
use Rattle.program_trees.specs.declared.operators.BinaryOperator.{BinaryOperator}
use Rattle.program_trees.specs.declared.operators.BinaryOperator.TheVariants as binary
use Rattle.program_trees.specs.declared.operators.Operands.{Operands}
use Rattle.program_trees.specs.declared.operators.Cast.{Cast}
use Rattle.program_trees.specs.Shapes.{shape_of}
use Rattle.language_model.specs.Effects.{World, GivenInput, Effect, ◌>>=◌, done, test, words_each, gate}
use Rattle.language_model.specs.Values.{Secrecy, Plain, Private, Value, plain, hidden, never_stored, size, visible_words, is_true, elements_of}
use Rattle.language_model.specs.Values.{ring_for, gate_words, gate_size}
use Rattle.language_model.specs.Words as W
use Rattle.language_model.specs.Operations as row
use Rattle.language_model.specs.Evaluation.{is_as_declared, given_value, asked_for}
use Rattle.named_values.specs.Named.{Numbers}
use Rattle.named_values.proofs.Effects.{Naming, Any, naming_bind, naming_done, naming_end, charge_naming, test_naming, draw_naming, gate_naming, next_naming}
use Rattle.named_values.proofs.Effects.{planned_naming, emit_naming, answer_naming, show_naming}
use Rattle.named_values.proofs.Plans.{eq_takes, eq_some, bits_takes, bits_some, less_takes, less_some, signed_less_takes, signed_less_some}
use Rattle.named_values.proofs.Plans.{lookup_takes, lookup_some}

-- a value whose number, if it has one, is one of these
abbrev pub Names : Numbers → Value → Type 0
Names N v = (k : ℕ) → v.secrecy ≡ Private (Some k) → N k

same_number : (k j : ℕ) → ◌≡◌ {A = Secrecy} (Private (Some k)) (Private (Some j)) → k ≡ j
same_number k j e = cc

not_plain : (j : ℕ) → Plain ≡ Private (Some j) → ⊥
not_plain j e = cc

never_numbered : (j : ℕ) → Private None ≡ Private (Some j) → ⊥
never_numbered j e = cc

module _ (N : Numbers) where
  -- ---- values

  pub plain_names : (shape : Shape) (words : List ℕ) → Names N (plain shape words)
  plain_names shape words j e = absurd (not_plain j e)

  pub never_names : (secret : Bool) (shape : Shape) → Names N (never_stored secret shape)
  never_names false shape j e = absurd (not_plain j e)
  never_names true shape j e = absurd (never_numbered j e)

  hidden_names : (shape : Shape) (words : List ℕ) (k : ℕ) → N k → Names N (hidden shape k words)
  hidden_names shape words k h j e = subst N (same_number k j e) h

  -- ---- parts

  charged_naming : {t : Effect (Unit {0})} (n : ℕ) → Naming N t (Any {A = Unit {0}}) → Naming N (row.charged t n) (Any {A = Unit {0}})
  charged_naming n h = naming_bind (charge_naming 1) (λ _ _. naming_bind h (λ _ _. charge_naming (n - 1)))

  pub plain_charge : (n : ℕ) → Naming N (row.charged row.no_traps n) (Any {A = Unit {0}})
  plain_charge n = charged_naming n (naming_done tt)

  large_charge : (line n : ℕ) → Naming N (row.charged (row.not_too_large line n) n) (Any {A = Unit {0}})
  large_charge line n = charged_naming n (test_naming (nat_le n row.largest) trap.Large line)

  number_from_naming : (a : Secrecy) (words : List ℕ) → ((k : ℕ) → a ≡ Private (Some k) → N k) → Naming N (row.number_from a words) N
  number_from_naming (Private (Some k)) words h = naming_done (h k refl)
  number_from_naming (Private None) words h = gate_naming (gates.Const words) refl tt
  number_from_naming Plain words h = gate_naming (gates.Const words) refl tt

  number_naming : (v : Value) → Names N v → Naming N (row.number_of v) N
  number_naming v h = number_from_naming v.secrecy (gate_words v.shape.element v.words) h

  made_naming : (shape : Shape) (words : List ℕ) (k : ℕ) → N k → Naming N (row.made_private shape words k) (Names N)
  made_naming shape words k h = naming_done (hidden_names shape words k h)

  shown_naming : (shape : Shape) (words : List ℕ) → Naming N (done (plain shape words)) (Names N)
  shown_naming shape words = naming_done (plain_names shape words)

  -- ---- the gates of arrays

  repeated_naming : (e : DataType) (u n : ℕ) → N u → Naming N (gate (row.repeated_gate e u n)) N
  repeated_naming Uint64 u n h = gate_naming (gates.Rep u n) refl (h, tt)
  repeated_naming Int64 u n h = gate_naming (gates.Rep u n) refl (h, tt)
  repeated_naming datatype.Bool u n h = gate_naming (gates.RepBit u n) refl (h, tt)

  taken_naming : (e : DataType) (u i : ℕ) → N u → Naming N (gate (row.element_gate e u i)) N
  taken_naming Uint64 u i h = gate_naming (gates.Part u i 1) refl (h, tt)
  taken_naming Int64 u i h = gate_naming (gates.Part u i 1) refl (h, tt)
  taken_naming datatype.Bool u i h = gate_naming (gates.PartBit u i) refl (h, tt)

  stored_naming : (e : DataType) (u i v : ℕ) → N u → N v → Naming N (gate (row.stored_gate e u i v)) N
  stored_naming Uint64 u i v g h = gate_naming (gates.Put u i v) refl (g, (h, tt))
  stored_naming Int64 u i v g h = gate_naming (gates.Put u i v) refl (g, (h, tt))
  stored_naming datatype.Bool u i v g h = gate_naming (gates.PutBit u i v) refl (g, (h, tt))

  joined_naming : (e : DataType) (u n v m : ℕ) → N u → N v → Naming N (gate (row.joined_gate e u n v m)) N
  joined_naming Uint64 u n v m g h = gate_naming (gates.Cat u v) refl (g, (h, tt))
  joined_naming Int64 u n v m g h = gate_naming (gates.Cat u v) refl (g, (h, tt))
  joined_naming datatype.Bool u n v m g h = gate_naming (gates.CatBit u n v m) refl (g, (h, tt))

  stretched_naming : (e : DataType) (scalar : Bool) (n u : ℕ) → N u → Naming N (row.stretched e scalar n u) N
  stretched_naming e true n u h = repeated_naming e u n h
  stretched_naming e false n u h = naming_done h

  flip_naming : (n u : ℕ) → N u → Naming N (row.flip n u) N
  flip_naming n u h =
      naming_bind (gate_naming (gates.Const (gate_words datatype.Bool (replicate n 1))) refl tt) (λ ones k. gate_naming (gates.Xor u ones) refl (h, (k, tt)))

  -- ---- classification and opening

  classified_from_naming : (a : Secrecy) (v : Value) → Names N v → Naming N (row.classified_from a v) (Names N)
  classified_from_naming (Private k) v h = naming_done h
  classified_from_naming Plain v h =
      naming_bind (plain_charge (size v)) (λ _ _. naming_bind (gate_naming (gates.Const (gate_words v.shape.element v.words)) refl tt) (λ k n.
      made_naming v.shape v.words k n))

  pub classified_naming : (v : Value) → Names N v → Naming N (row.classified v) (Names N)
  classified_naming v h = classified_from_naming v.secrecy v h

  revealed_naming : (w : World) (v : Value) → Naming N (row.revealed w v) (Names N)
  revealed_naming w v =
      naming_bind (answer_naming w.source v.words) (λ words _.
      let read = row.read_answer v.shape.element words in
      naming_bind (show_naming read) (λ _ _.
      naming_bind (emit_naming (event.Open (elements_of (plain v.shape read)))) (λ _ _. shown_naming v.shape read)))

  opened_from_naming : (w : World) (a : Secrecy) (v : Value) → Names N v → Naming N (row.opened_from w a v) (Names N)
  opened_from_naming w Plain v h = naming_done h
  opened_from_naming w (Private k) v h =
      naming_bind (draw_naming w (words_each (gate_size v.shape.element (size v)))) (λ _ _. naming_bind (number_naming v h) (λ u n.
      naming_bind (gate_naming (gates.Open (ring_for v.shape.element) u) refl (n, tt)) (λ _ _. revealed_naming w v)))

  pub declassified_naming : (w : World) (v : Value) → Names N v → Naming N (row.declassified w v) (Names N)
  declassified_naming w v h = naming_bind (plain_charge (size v)) (λ _ _. opened_from_naming w v.secrecy v h)

  -- ---- operators

  pack_naming : {c : Effect ℕ} → Naming N c N → Naming N (c >>= λ z. gate (gates.Pack z)) N
  pack_naming h = naming_bind h (λ z m. gate_naming (gates.Pack z) refl (m, tt))

  equal_naming : (d : ℕ) → N d → Naming N (row.zero_gates d) N
  equal_naming d h = pack_naming (planned_naming (λ first. eq_plan first d) (λ first. eq_some first d) (λ first new. eq_takes N first d new h))

  -- gates that tell whether the first of two values is less
  abbrev Telling : (less : ℕ → ℕ → ℕ → Effect ℕ) → Type 0
  Telling less = (n u v : ℕ) → N u → N v → Naming N (less n u v) N

  less_naming : Telling row.less_gates
  less_naming n u v a b =
      pack_naming (planned_naming (λ first. less_plan first u v n) (λ first. less_some first u v n) (λ first new. less_takes N first u v n new a b))

  signed_less_naming : Telling row.signed_less_gates
  signed_less_naming n u v a b =
      pack_naming
      (planned_naming (λ first. signed_less_plan first u v n) (λ first. signed_less_some first u v n)
      (λ first new. signed_less_takes N first u v n new a b))

  module _ (n u v : ℕ) (a : N u) (b : N v) where
    equal_gates_naming : Naming N (row.equal_gates u v) N
    equal_gates_naming = naming_bind (gate_naming (gates.Sub u v) refl (a, (b, tt))) (λ d h. equal_naming d h)

    flipped_naming : {c : Effect ℕ} → Naming N c N → Naming N (c >>= row.flip n) N
    flipped_naming h = naming_bind h (λ k m. flip_naming n k m)

    number_gates_naming : (less : ℕ → ℕ → ℕ → Effect ℕ) → Telling less → (op : OperatorSign) → Naming N (row.number_gates less op n u v) N
    number_gates_naming less h word.Add = gate_naming (gates.Add u v) refl (a, (b, tt))
    number_gates_naming less h word.Subtract = gate_naming (gates.Sub u v) refl (a, (b, tt))
    number_gates_naming less h word.Multiply = gate_naming (gates.Mul u v) refl (a, (b, tt))
    number_gates_naming less h word.Equal = equal_gates_naming
    number_gates_naming less h word.NotEqual = flipped_naming equal_gates_naming
    number_gates_naming less h word.Less = h n u v a b
    number_gates_naming less h word.Greater = h n v u b a
    number_gates_naming less h word.GreaterOrEqual = flipped_naming (h n u v a b)
    number_gates_naming less h word.LessOrEqual = flipped_naming (h n v u b a)
    number_gates_naming less h op = next_naming

    or_naming : Naming N (row.or_gates u v) N
    or_naming =
        naming_bind (gate_naming (gates.And u v) refl (a, (b, tt))) (λ both h. naming_bind (gate_naming (gates.Xor u v) refl (a, (b, tt))) (λ one k.
        gate_naming (gates.Xor one both) refl (k, (h, tt))))

    bool_naming : (op : BoolOperator) → Naming N (row.operator_gates (binary.Bools op) n u v) N
    bool_naming truth.Xor = gate_naming (gates.Xor u v) refl (a, (b, tt))
    bool_naming truth.And = gate_naming (gates.And u v) refl (a, (b, tt))
    bool_naming truth.Or = or_naming
    bool_naming truth.NotEqual = gate_naming (gates.Xor u v) refl (a, (b, tt))
    bool_naming truth.Equal = flipped_naming (gate_naming (gates.Xor u v) refl (a, (b, tt)))

    operator_naming : (op : BinaryOperator) → Naming N (row.operator_gates op n u v) N
    operator_naming (binary.Words op) = number_gates_naming row.less_gates less_naming op
    operator_naming (binary.Ints op) = number_gates_naming row.signed_less_gates signed_less_naming op
    operator_naming (binary.Bools op) = bool_naming op

  module _ (w : World) (op : BinaryOperator) (ds : Operands) (x y : Value) (a : Names N x) (b : Names N y) where
    private_naming : Naming N (row.private_result w op ds x y) (Names N)
    private_naming =
        let n = W.result_size ds x y in
        naming_bind (draw_naming w (row.words_of_operator op n)) (λ _ _. naming_bind (number_naming x a) (λ i f. naming_bind (number_naming y b) (λ j g.
        naming_bind (stretched_naming x.shape.element (row.is_scalar_left ds) n i f) (λ u h.
        naming_bind (stretched_naming y.shape.element (row.is_scalar_right ds) n j g) (λ v k.
        naming_bind (operator_naming n u v h k op) (λ r m. made_naming (row.result_shape op ds) (W.result_words op ds x y) r m))))))

    product_naming : (scalar : Bool) (z : Value) (known words : List ℕ) → Names N z → Naming N (row.product_with op ds scalar z known words) (Names N)
    product_naming scalar z known words h =
        naming_bind (number_naming z h) (λ j f. naming_bind (stretched_naming z.shape.element scalar (length known) j f) (λ u g.
        naming_bind (gate_naming (gates.MulPub (ring_for z.shape.element) u (gate_words z.shape.element known)) refl (g, tt)) (λ r m.
        made_naming (row.result_shape op ds) words r m)))

    combined_naming : (j k : Secrecy) → Naming N (row.combined_from j k w op ds x y) (Names N)
    combined_naming Plain Plain = shown_naming (row.result_shape op ds) (W.result_words op ds x y)
    combined_naming (Private j) (Private k) = private_naming
    combined_naming (Private j) Plain = product_naming (row.is_scalar_left ds) x (W.right_words ds x y) (W.result_words op ds x y) a
    combined_naming Plain (Private k) = product_naming (row.is_scalar_right ds) y (W.left_words ds x y) (W.result_words op ds x y) b

    traps_naming : (line : ℕ) → Naming N (row.operator_traps line op ds x y) (Any {A = Unit {0}})
    traps_naming line =
        naming_bind (test_naming (W.are_alike ds x y) trap.Length line) (λ _ _. test_naming (W.may_divide op (visible_words y)) trap.Div line)

    pub operated_naming : (line : ℕ) → Naming N (row.operated w line op ds x y) (Names N)
    operated_naming line = naming_bind (charged_naming (W.result_size ds x y) (traps_naming line)) (λ _ _. combined_naming x.secrecy y.secrecy)

  -- ---- operations of one operand

  module _ (v : Value) (h : Names N v) where
    negated_from_naming : (a : Secrecy) → Naming N (row.negated_from a v) (Names N)
    negated_from_naming Plain = shown_naming v.shape (map W.flipped v.words)
    negated_from_naming (Private k) =
        naming_bind (number_naming v h) (λ u n. naming_bind (flip_naming (size v) u n) (λ r m. made_naming v.shape (map W.flipped v.words) r m))

    pub negated_naming : Naming N (row.negated v) (Names N)
    negated_naming = naming_bind (plain_charge (size v)) (λ _ _. negated_from_naming v.secrecy)

    truth_naming : (n u : ℕ) → N u → Naming N (row.truth_gates n u) N
    truth_naming n u m = naming_bind (equal_naming u m) (λ z k. flip_naming n z k)

    conversion_naming : (n u : ℕ) → N u → Naming N (row.conversion_gates n u) N
    conversion_naming n u m =
        naming_bind (gate_naming (gates.Unpack u n) refl (m, tt)) (λ z k. gate_naming (gates.Conv z) refl (k, tt))

    between_naming : (given wanted : DataType) (n u : ℕ) → N u → Naming N (row.gates_between given wanted n u) N
    between_naming Uint64 Uint64 n u m = naming_done m
    between_naming Uint64 Int64 n u m = naming_done m
    between_naming Uint64 datatype.Bool n u m = truth_naming n u m
    between_naming Int64 Uint64 n u m = naming_done m
    between_naming Int64 Int64 n u m = naming_done m
    between_naming Int64 datatype.Bool n u m = truth_naming n u m
    between_naming datatype.Bool Uint64 n u m = conversion_naming n u m
    between_naming datatype.Bool Int64 n u m = conversion_naming n u m
    between_naming datatype.Bool datatype.Bool n u m = naming_done m

    changed_naming : (w : World) (c : Cast) → Naming N (row.changed w c v) (Names N)
    changed_naming w c =
        naming_bind (draw_naming w (row.words_of_cast c (size v))) (λ _ _. naming_bind (number_naming v h) (λ u n.
        naming_bind (between_naming c.given c.wanted (size v) u n) (λ r m. made_naming (row.cast_shape c v.shape.array) (map (W.cast_word c) v.words) r m)))

    converted_naming : (w : World) (c : Cast) (a : Secrecy) → Naming N (row.converted w a c v) (Names N)
    converted_naming w c Plain = shown_naming (row.cast_shape c v.shape.array) (map (W.cast_word c) v.words)
    converted_naming w c (Private k) = changed_naming w c

    cast_from_naming : (given wanted : DataType) (w : World) (c : Cast) → Naming N (row.cast_from given wanted w c v) (Names N)
    cast_from_naming Uint64 Uint64 w c = naming_done h
    cast_from_naming Uint64 Int64 w c = naming_done h
    cast_from_naming Uint64 datatype.Bool w c = converted_naming w c v.secrecy
    cast_from_naming Int64 Uint64 w c = naming_done h
    cast_from_naming Int64 Int64 w c = naming_done h
    cast_from_naming Int64 datatype.Bool w c = converted_naming w c v.secrecy
    cast_from_naming datatype.Bool Uint64 w c = converted_naming w c v.secrecy
    cast_from_naming datatype.Bool Int64 w c = converted_naming w c v.secrecy
    cast_from_naming datatype.Bool datatype.Bool w c = naming_done h

    pub cast_naming : (w : World) (c : Cast) → Naming N (row.cast_to w c v) (Names N)
    cast_naming w c = naming_bind (plain_charge (size v)) (λ _ _. cast_from_naming c.given c.wanted w c)

    pub size_naming : Naming N (row.size_told v) (Names N)
    size_naming = naming_bind (charge_naming 1) (λ _ _. shown_naming (shape_of Uint64 false) (size v ∷ []))

    summed_from_naming : (a : Secrecy) → Naming N (row.summed_from a v) (Names N)
    summed_from_naming Plain = shown_naming (shape_of v.shape.element false) (sum v.words % 2 ^ 64 ∷ [])
    summed_from_naming (Private k) =
        naming_bind (number_naming v h) (λ u n. naming_bind (gate_naming (gates.Sum u) refl (n, tt)) (λ r m.
        made_naming (shape_of v.shape.element false) (sum v.words % 2 ^ 64 ∷ []) r m))

    pub summed_naming : Naming N (row.summed v) (Names N)
    summed_naming = naming_bind (charge_naming 1) (λ _ _. summed_from_naming v.secrecy)

    bits_from_naming : (w : World) (a : Secrecy) → Naming N (row.bits_from w a v) (Names N)
    bits_from_naming w Plain = shown_naming (shape_of datatype.Bool true) (flat_map bits_of v.words)
    bits_from_naming w (Private k) =
        naming_bind (draw_naming w (row.words_for_bits (size v))) (λ _ _. naming_bind (number_naming v h) (λ u n.
        naming_bind
        (planned_naming (λ first. bits_plan first u (size v)) (λ first. bits_some first u (size v)) (λ first new. bits_takes N first u (size v) new n)) (λ b m.
        made_naming (shape_of datatype.Bool true) (flat_map bits_of v.words) b m)))

    pub bits_naming : (w : World) (line : ℕ) → Naming N (row.bits_extracted w line v) (Names N)
    bits_naming w line = naming_bind (large_charge line (64 * size v)) (λ _ _. bits_from_naming w v.secrecy)

    -- ---- arrays

    inside_naming : (line i n : ℕ) → Naming N (test (nat_lt i n) trap.Index line) (Any {A = Unit {0}})
    inside_naming line i n = test_naming (nat_lt i n) trap.Index line

    element_from_naming : (a : Secrecy) (i : ℕ) → Naming N (row.element_from a v i) (Names N)
    element_from_naming Plain i = shown_naming (shape_of v.shape.element false) (get_or v.words i 0 ∷ [])
    element_from_naming (Private k) i =
        naming_bind (number_naming v h) (λ u n. naming_bind (taken_naming v.shape.element u i n) (λ r m.
        made_naming (shape_of v.shape.element false) (get_or v.words i 0 ∷ []) r m))

    pub element_naming : (line : ℕ) (i : Value) → Naming N (row.element_of_array line v i) (Names N)
    element_naming line i =
        naming_bind (charge_naming 1) (λ _ _. naming_bind (inside_naming line (row.position i) (size v)) (λ _ _.
        element_from_naming v.secrecy (row.position i)))

    filled_from_naming : (a : Secrecy) (n : ℕ) → Naming N (row.filled_from a n v) (Names N)
    filled_from_naming Plain n = shown_naming (shape_of v.shape.element true) (replicate n (first_word v.words))
    filled_from_naming (Private k) n =
        naming_bind (number_naming v h) (λ u f. naming_bind (repeated_naming v.shape.element u n f) (λ r m.
        made_naming (shape_of v.shape.element true) (replicate n (first_word v.words)) r m))

    pub filled_naming : (line : ℕ) (n : Value) → Naming N (row.filled line n v) (Names N)
    filled_naming line n = naming_bind (large_charge line (row.position n)) (λ _ _. filled_from_naming v.secrecy (row.position n))

    -- ---- what goes to the client, and tests

    handed_naming : (w : World) (a : Secrecy) → Naming N (row.handed_over w a v) (Any {A = Unit {0}})
    handed_naming w Plain = naming_done tt
    handed_naming w (Private k) =
        naming_bind (draw_naming w (words_each (gate_size v.shape.element (size v)))) (λ _ _. naming_bind (number_naming v h) (λ u n.
        naming_bind (gate_naming (gates.Result (ring_for v.shape.element) u) refl (n, tt)) (λ _ _. naming_done tt)))

    pub published_naming : (w : World) (text : List ℕ) → Naming N (row.published w text v) (Any {A = Unit {0}})
    published_naming w text =
        naming_bind (plain_charge (size v)) (λ _ _. naming_bind (handed_naming w v.secrecy) (λ _ _.
        emit_naming (row.publication v.secrecy v.shape.element text (elements_of v))))

  module _ (x y : Value) (a : Names N x) (b : Names N y) where
    both_naming : {f : ℕ → ℕ → Effect ℕ} (shape : Shape) (words : List ℕ) → ((u v : ℕ) → N u → N v → Naming N (f u v) N)
        → Naming N (row.number_of x >>= λ u. row.number_of y >>= λ v. f u v >>= λ r. row.made_private shape words r) (Names N)
    both_naming shape words h =
        naming_bind (number_naming x a) (λ u m. naming_bind (number_naming y b) (λ v n. naming_bind (h u v m n) (λ r k. made_naming shape words r k)))

    cat_naming :
        Naming N
        (row.number_of x >>= λ u. row.number_of y >>= λ v. gate (row.joined_gate x.shape.element u (size x) v (size y)) >>= λ r.
        row.made_private x.shape (x.words ++ y.words) r)
        (Names N)
    cat_naming = both_naming x.shape (x.words ++ y.words) (λ u v m n.
        joined_naming x.shape.element u (size x) v (size y) m n)

    concatenated_from_naming : (j k : Secrecy) → Naming N (row.concatenated_from j k x y) (Names N)
    concatenated_from_naming Plain Plain = shown_naming x.shape (x.words ++ y.words)
    concatenated_from_naming Plain (Private k) = cat_naming
    concatenated_from_naming (Private j) Plain = cat_naming
    concatenated_from_naming (Private j) (Private k) = cat_naming

    pub concatenated_naming : (line : ℕ) → Naming N (row.concatenated line x y) (Names N)
    concatenated_naming line = naming_bind (large_charge line (size x + size y)) (λ _ _. concatenated_from_naming x.secrecy y.secrecy)

    with_element_from_naming : (j : Secrecy) (i : ℕ) → Naming N (row.with_element_from j x i y) (Names N)
    with_element_from_naming Plain i = shown_naming x.shape (set x.words i (first_word (visible_words y)))
    with_element_from_naming (Private k) i =
        both_naming x.shape (set x.words i (first_word y.words)) (λ u v m n. stored_naming x.shape.element u i v m n)

    pub with_element_naming : (line : ℕ) (i : Value) → Naming N (row.with_element line x i y) (Names N)
    with_element_naming line i =
        naming_bind (charge_naming 1) (λ _ _. naming_bind (test_naming (nat_lt (row.position i) (size x)) trap.Index line) (λ _ _.
        with_element_from_naming x.secrecy (row.position i)))

  -- ---- look-ups

  pub looked_up_naming : (w : World) (line : ℕ) (x y : Value) → Names N x → Names N y → Naming N (row.looked_up w line x y) (Names N)
  looked_up_naming w line x y a b =
      let n = size x * size y in
      naming_bind (large_charge line n) (λ _ _. naming_bind (draw_naming w (row.words_for_lookup n)) (λ _ _.
      naming_bind (number_naming x a) (λ u f. naming_bind (number_naming y b) (λ v g.
      naming_bind
      (planned_naming (λ first. lookup_plan first u v (size x) (size y)) (λ first. lookup_some first u v (size x) (size y))
      (λ first new. lookup_takes N first u v (size x) (size y) new f g))
      (λ r m. made_naming (shape_of x.shape.element y.shape.array) (looked x.words y.words) r m)))))

  pub tested_naming : (v : Value) → Naming N (row.tested v) (Any {A = Bool})
  tested_naming v = naming_bind (charge_naming 1) (λ _ _. naming_done tt)

  pub asserted_naming : (line : ℕ) (v : Value) → Naming N (row.asserted line v) (Any {A = Unit {0}})
  asserted_naming line v = naming_bind (charge_naming 1) (λ _ _. test_naming (is_true v) trap.Assert line)

  -- ---- inputs

  given_naming : (secret : Bool) (x : GivenInput) (k : ℕ) → Naming N (given_value secret x k) (Names N)
  given_naming false x k = shown_naming x.shape x.words
  given_naming true x k = naming_bind (gate_naming (gates.Input k) refl tt) (λ r m. made_naming x.shape x.words r m)

  pub asked_naming : (secret : Bool) (shape : Shape) (line : ℕ) (o : Option (GivenInput × ℕ)) → Naming N (asked_for secret shape line o) (Names N)
  asked_naming secret shape line None = naming_bind (charge_naming 1) (λ _ _. naming_end (ending.Trap trap.Argument line))
  asked_naming secret shape line (Some x) =
      naming_bind (charged_naming (length x.0.words) (test_naming (is_as_declared secret shape x.0) trap.Argument line)) (λ _ _.
      given_naming secret x.0 x.1)
