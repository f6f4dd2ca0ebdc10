-- What each operation does to a run: its charge, its traps, its random words, its gates, and the value that it gives.
--
-- A charged operation charges 1, tests for its traps, charges what its result has of elements beyond the first, has its random words
-- compared with the tapes, and then makes its gates.
use Rattle.std.specs.Prelude.{ℕ, ◌+◌, ◌*◌, ◌-◌, Bool, true, false, not, ◌&&◌, nat_le, nat_lt, List, [], ◌∷◌, ◌++◌, Some, None, length, map, replicate}
use Rattle.std.specs.Prelude.{set, sum, ◌%◌, ◌^◌, get_or}
use Rattle.std.specs.List.{flat_map}
use Rattle.sc_text.specs.declared.end.TrapKind.TheVariants as trap
use Rattle.sc_text.specs.declared.elements.Element.{Element}
use Rattle.sc_text.specs.declared.event.Event.{Event}
use Rattle.sc_text.specs.declared.event.Event.TheVariants as event
use Rattle.program_trees.specs.declared.expression.DataType.{DataType}
use Rattle.program_trees.specs.declared.expression.DataType.TheVariants.{Uint64, Int64}
use Rattle.program_trees.specs.declared.expression.DataType.TheVariants as datatype
use Rattle.plans.specs.Gate.{Gate}
use Rattle.plans.specs.Gate.TheVariants.{Const, Add, Sub, MulPub, Mul, Xor, And, Cat, Part, Put, Rep, Sum, Conv, Open, Result}
use Rattle.plans.specs.Gate.TheVariants.{Pack, Unpack, RepBit, PartBit, PutBit, CatBit}
use Rattle.plans.specs.Clear.{bits_of, first_word}
use Rattle.plans.specs.Equality.{eq_plan}
use Rattle.plans.specs.BitExtract.{bits_plan}
use Rattle.plans.specs.Compare.{less_plan}
use Rattle.plans.specs.Signed.{signed_less_plan}
use Rattle.oblivious_index.specs.Lookup.{looked, lookup_plan}
use Rattle.reached_instances.specs.Shape.{Shape}
use Rattle.reached_instances.specs.OperatorSign.{OperatorSign}
use Rattle.reached_instances.specs.OperatorSign.TheVariants as word
use Rattle.reached_instances.specs.BoolOperator.TheVariants as truth
use Rattle.reached_instances.specs.BinaryOperator.{BinaryOperator}
use Rattle.reached_instances.specs.BinaryOperator.TheVariants as binary
use Rattle.reached_instances.specs.Operands.{Operands}
use Rattle.reached_instances.specs.Operands.TheVariants.{ArrayAndScalar, ScalarAndArray}
use Rattle.reached_instances.specs.Cast.{Cast}
pub use Rattle.reached_instances.specs.Operators.{cast_shape, is_product, result_shape}
use Rattle.reached_instances.specs.Shapes.{shape_of}
use Rattle.language_model.specs.Effects.{Words, World, Effect, ◌>>=◌, done, charge, test, words_each, draw, gate, planned, next_number, emit, answer, show}
use Rattle.language_model.specs.Values.{Secrecy, Plain, Private, Value, plain, hidden, is_secret, size, visible_words, is_true, elements_of}
use Rattle.language_model.specs.Values.{ring_for, gate_words, gate_size, printed_kind}
use Rattle.language_model.specs.Words as W

-- ---- THE PARTS OF AN OPERATION

-- the charge of an operation with a result of n elements, and its traps
abbrev pub charged : Effect (Unit {0}) → ℕ → Effect (Unit {0})
charged traps n = do
  _ ← charge 1
  _ ← traps
  charge (n - 1)

abbrev pub no_traps : Effect (Unit {0})
no_traps = done tt

-- no array has more elements
abbrev pub largest : ℕ
largest = 1048576

abbrev pub not_too_large : ℕ → ℕ → Effect (Unit {0})
not_too_large line n = test (nat_le n largest) trap.Large line

-- the number of a private value; one that was never stored is first made a constant
abbrev pub number_from : Secrecy → List ℕ → Effect ℕ
number_from (Private (Some k)) words = done k
number_from (Private None) words = gate (Const words)
number_from Plain words = gate (Const words)

abbrev pub number_of : Value → Effect ℕ
number_of v = number_from v.secrecy (gate_words v.shape.element v.words)

abbrev pub made_private : Shape → List ℕ → ℕ → Effect Value
made_private shape words k = done (hidden shape k words)

-- ---- CLASSIFICATION AND OPENING

abbrev pub classified_from : Secrecy → Value → Effect Value
classified_from (Private k) v = done v
classified_from Plain v = do
  _ ← charged no_traps (size v)
  gate (Const (gate_words v.shape.element v.words)) >>= made_private v.shape v.words

-- a public value becomes a private one
abbrev pub classified : Value → Effect Value
classified v = classified_from v.secrecy v

-- a value that is wanted as a private one, or as it is
abbrev pub wanted : (secret : Bool) → Value → Effect Value
wanted true v = classified v
wanted false v = done v

-- an answer of a truth value is read from bit 0
abbrev pub read_answer : DataType → List ℕ → List ℕ
read_answer Uint64 words = words
read_answer Int64 words = words
read_answer datatype.Bool words = map (λ x. x % 2) words

-- an opened value is known to all from then on
abbrev pub revealed : World → Value → Effect Value
revealed w v = do
  words ← answer w.source v.words
  _ ← show (read_answer v.shape.element words)
  _ ← emit (event.Open (elements_of (plain v.shape (read_answer v.shape.element words))))
  done (plain v.shape (read_answer v.shape.element words))

abbrev pub opened_from : World → Secrecy → Value → Effect Value
opened_from w Plain v = done v
opened_from w (Private k) v = do
  _ ← draw w (words_each (gate_size v.shape.element (size v)))
  u ← number_of v
  _ ← gate (Open (ring_for v.shape.element) u)
  revealed w v

abbrev pub declassified : World → Value → Effect Value
declassified w v = do
  _ ← charged no_traps (size v)
  opened_from w v.secrecy v

-- ---- OPERATORS

-- the gates of arrays, by what their elements are
abbrev pub repeated_gate : DataType → (u n : ℕ) → Gate
repeated_gate Uint64 u n = Rep u n
repeated_gate Int64 u n = Rep u n
repeated_gate datatype.Bool u n = RepBit u n

abbrev pub element_gate : DataType → (u i : ℕ) → Gate
element_gate Uint64 u i = Part u i 1
element_gate Int64 u i = Part u i 1
element_gate datatype.Bool u i = PartBit u i

abbrev pub stored_gate : DataType → (u i v : ℕ) → Gate
stored_gate Uint64 u i v = Put u i v
stored_gate Int64 u i v = Put u i v
stored_gate datatype.Bool u i v = PutBit u i v

abbrev pub joined_gate : DataType → (u n v m : ℕ) → Gate
joined_gate Uint64 u n v m = Cat u v
joined_gate Int64 u n v m = Cat u v
joined_gate datatype.Bool u n v m = CatBit u n v m

-- a private scalar beside an array of n elements is first made one of as many
abbrev pub stretched : DataType → (scalar : Bool) → ℕ → ℕ → Effect ℕ
stretched e true n u = gate (repeated_gate e u n)
stretched e false n u = done u

abbrev pub is_scalar_left : Operands → Bool
is_scalar_left ScalarAndArray = true
is_scalar_left ds = false

abbrev pub is_scalar_right : Operands → Bool
is_scalar_right ArrayAndScalar = true
is_scalar_right ds = false

-- true for false, and false for true
abbrev pub flip : ℕ → ℕ → Effect ℕ
flip n u = do
  ones ← gate (Const (gate_words datatype.Bool (replicate n 1)))
  gate (Xor u ones)

abbrev pub words_for_equality : ℕ → Words
words_for_equality n = record { first = 19 * n; second = 18 * n; third = 18 * n }

abbrev pub words_for_bits : ℕ → Words
words_for_bits n = record { first = 40 * n; second = 39 * n; third = 39 * n }

abbrev pub words_for_order : ℕ → Words
words_for_order n = record { first = 119 * n; second = 117 * n; third = 117 * n }

abbrev pub words_for_conversion : ℕ → Words
words_for_conversion n = record { first = 4 * n; second = n; third = n }

abbrev pub words_for_lookup : ℕ → Words
words_for_lookup n = record { first = 26 * n; second = 22 * n; third = 22 * n }

-- the random words of an operator on private numbers, with or without a sign; the operators that are left out have none
abbrev pub words_on_numbers : OperatorSign → ℕ → Words
words_on_numbers word.Multiply n = words_each (3 * n)
words_on_numbers word.Equal n = words_for_equality n
words_on_numbers word.NotEqual n = words_for_equality n
words_on_numbers word.Less n = words_for_order n
words_on_numbers word.LessOrEqual n = words_for_order n
words_on_numbers word.Greater n = words_for_order n
words_on_numbers word.GreaterOrEqual n = words_for_order n
words_on_numbers op n = words_each 0

abbrev pub words_of_operator : BinaryOperator → ℕ → Words
words_of_operator (binary.Words op) n = words_on_numbers op n
words_of_operator (binary.Ints op) n = words_on_numbers op n
words_of_operator (binary.Bools truth.And) n = words_each (3 * gate_size datatype.Bool n)
words_of_operator (binary.Bools truth.Or) n = words_each (3 * gate_size datatype.Bool n)
words_of_operator op n = words_each 0

-- whether numbers are 0
abbrev pub zero_gates : ℕ → Effect ℕ
zero_gates d = do
  z ← planned (λ first. eq_plan first d)
  gate (Pack z)

-- whether two numbers of n elements are equal
abbrev pub equal_gates : ℕ → ℕ → Effect ℕ
equal_gates u v = do
  d ← gate (Sub u v)
  zero_gates d

abbrev pub less_gates : ℕ → ℕ → ℕ → Effect ℕ
less_gates n u v = do
  z ← planned (λ first. less_plan first u v n)
  gate (Pack z)

-- numbers with a sign stand in the order of their words with half of all words added
abbrev pub signed_less_gates : ℕ → ℕ → ℕ → Effect ℕ
signed_less_gates n u v = do
  z ← planned (λ first. signed_less_plan first u v n)
  gate (Pack z)

-- either is true: one of them is, or both are
abbrev pub or_gates : (u v : ℕ) → Effect ℕ
or_gates u v = do
  both ← gate (And u v)
  one ← gate (Xor u v)
  gate (Xor one both)

-- of two numbers, by the gates that tell whether the first of two is less
abbrev pub number_gates : (less : ℕ → ℕ → ℕ → Effect ℕ) → OperatorSign → ℕ → (u v : ℕ) → Effect ℕ
number_gates less word.Add n u v = gate (Add u v)
number_gates less word.Subtract n u v = gate (Sub u v)
number_gates less word.Multiply n u v = gate (Mul u v)
number_gates less word.Equal n u v = equal_gates u v
number_gates less word.NotEqual n u v = equal_gates u v >>= flip n
number_gates less word.Less n u v = less n u v
number_gates less word.Greater n u v = less n v u
number_gates less word.GreaterOrEqual n u v = less n u v >>= flip n
number_gates less word.LessOrEqual n u v = less n v u >>= flip n
number_gates less op n u v = next_number

abbrev pub operator_gates : BinaryOperator → ℕ → (u v : ℕ) → Effect ℕ
operator_gates (binary.Words op) n u v = number_gates less_gates op n u v
operator_gates (binary.Ints op) n u v = number_gates signed_less_gates op n u v
operator_gates (binary.Bools truth.Xor) n u v = gate (Xor u v)
operator_gates (binary.Bools truth.And) n u v = gate (And u v)
operator_gates (binary.Bools truth.Or) n u v = or_gates u v
operator_gates (binary.Bools truth.NotEqual) n u v = gate (Xor u v)
operator_gates (binary.Bools truth.Equal) n u v = gate (Xor u v) >>= flip n

-- between two private operands
abbrev pub private_result : World → BinaryOperator → Operands → Value → Value → Effect Value
private_result w op ds x y = do
  _ ← draw w (words_of_operator op (W.result_size ds x y))
  j ← number_of x
  k ← number_of y
  u ← stretched x.shape.element (is_scalar_left ds) (W.result_size ds x y) j
  v ← stretched y.shape.element (is_scalar_right ds) (W.result_size ds x y) k
  operator_gates op (W.result_size ds x y) u v >>= made_private (result_shape op ds) (W.result_words op ds x y)

-- a private operand and public words, in a product
abbrev pub product_with : BinaryOperator → Operands → (scalar : Bool) → Value → List ℕ → List ℕ → Effect Value
product_with op ds scalar x known words = do
  j ← number_of x
  u ← stretched x.shape.element scalar (length known) j
  gate (MulPub (ring_for x.shape.element) u (gate_words x.shape.element known)) >>= made_private (result_shape op ds) words

abbrev pub combined_from : Secrecy → Secrecy → World → BinaryOperator → Operands → Value → Value → Effect Value
combined_from Plain Plain w op ds x y = done (plain (result_shape op ds) (W.result_words op ds x y))
combined_from (Private j) (Private k) w op ds x y = private_result w op ds x y
combined_from (Private j) Plain w op ds x y = product_with op ds (is_scalar_left ds) x (W.right_words ds x y) (W.result_words op ds x y)
combined_from Plain (Private k) w op ds x y = product_with op ds (is_scalar_right ds) y (W.left_words ds x y) (W.result_words op ds x y)

abbrev pub operator_traps : ℕ → BinaryOperator → Operands → Value → Value → Effect (Unit {0})
operator_traps line op ds x y = do
  _ ← test (W.are_alike ds x y) trap.Length line
  test (W.may_divide op (visible_words y)) trap.Div line

-- both operands are classified as they are wanted
abbrev pub operated : World → ℕ → BinaryOperator → Operands → Value → Value → Effect Value
operated w line op ds x y = do
  _ ← charged (operator_traps line op ds x y) (W.result_size ds x y)
  combined_from x.secrecy y.secrecy w op ds x y

-- one operand is private and the other is not, and this one is classified, but in a product
abbrev pub is_classified : BinaryOperator → (this other : Value) → Bool
is_classified op this other = not (is_product op) && (is_secret other.secrecy && not (is_secret this.secrecy))

abbrev pub operation : World → ℕ → BinaryOperator → Operands → Value → Value → Effect Value
operation w line op ds x y = do
  a ← wanted (is_classified op x y) x
  b ← wanted (is_classified op y x) y
  operated w line op ds a b

-- ---- OPERATIONS OF ONE OPERAND

abbrev pub negated_from : Secrecy → Value → Effect Value
negated_from Plain v = done (plain v.shape (map W.flipped v.words))
negated_from (Private k) v = do
  u ← number_of v
  flip (size v) u >>= made_private v.shape (map W.flipped v.words)

abbrev pub negated : Value → Effect Value
negated v = do
  _ ← charged no_traps (size v)
  negated_from v.secrecy v

abbrev pub words_between : (given wanted : DataType) → ℕ → Words
words_between Uint64 datatype.Bool n = words_for_equality n
words_between Int64 datatype.Bool n = words_for_equality n
words_between datatype.Bool Uint64 n = words_for_conversion n
words_between datatype.Bool Int64 n = words_for_conversion n
words_between given wanted n = words_each 0

abbrev pub words_of_cast : Cast → ℕ → Words
words_of_cast c n = words_between c.given c.wanted n

-- a number is true where it isn't 0
abbrev pub truth_gates : ℕ → ℕ → Effect ℕ
truth_gates n u = zero_gates u >>= flip n

-- a truth value as a number
abbrev pub conversion_gates : ℕ → ℕ → Effect ℕ
conversion_gates n u = do
  z ← gate (Unpack u n)
  gate (Conv z)

abbrev pub gates_between : (given wanted : DataType) → ℕ → ℕ → Effect ℕ
gates_between Uint64 datatype.Bool n u = truth_gates n u
gates_between Int64 datatype.Bool n u = truth_gates n u
gates_between datatype.Bool Uint64 n u = conversion_gates n u
gates_between datatype.Bool Int64 n u = conversion_gates n u
gates_between given wanted n u = done u

abbrev pub cast_gates : Cast → ℕ → ℕ → Effect ℕ
cast_gates c n u = gates_between c.given c.wanted n u

abbrev pub changed : World → Cast → Value → Effect Value
changed w c v = do
  _ ← draw w (words_of_cast c (size v))
  u ← number_of v
  cast_gates c (size v) u >>= made_private (cast_shape c v.shape.array) (map (W.cast_word c) v.words)

-- between numbers and truth values
abbrev pub converted : World → Secrecy → Cast → Value → Effect Value
converted w Plain c v = done (plain (cast_shape c v.shape.array) (map (W.cast_word c) v.words))
converted w (Private k) c v = changed w c v

-- the same words, and the same number of a value, as numbers of another type
abbrev pub relabelled : Cast → Value → Value
relabelled c v = record { secrecy = v.secrecy; shape = cast_shape c v.shape.array; words = v.words }

-- a cast to the same type gives the value as it is, and one between numbers its words
abbrev pub cast_from : (given wanted : DataType) → World → Cast → Value → Effect Value
cast_from Uint64 Uint64 w c v = done v
cast_from Int64 Int64 w c v = done v
cast_from datatype.Bool datatype.Bool w c v = done v
cast_from Uint64 Int64 w c v = done (relabelled c v)
cast_from Int64 Uint64 w c v = done (relabelled c v)
cast_from given wanted w c v = converted w v.secrecy c v

abbrev pub cast_to : World → Cast → Value → Effect Value
cast_to w c v = do
  _ ← charged no_traps (size v)
  cast_from c.given c.wanted w c v

abbrev pub scalar_word : ℕ → Value
scalar_word n = plain (shape_of Uint64 false) (n ∷ [])

abbrev pub size_told : Value → Effect Value
size_told v = do
  _ ← charge 1
  done (scalar_word (size v))

abbrev pub summed_from : Secrecy → Value → Effect Value
summed_from Plain v = done (plain (shape_of v.shape.element false) (sum v.words % 2 ^ 64 ∷ []))
summed_from (Private k) v = do
  u ← number_of v
  gate (Sum u) >>= made_private (shape_of v.shape.element false) (sum v.words % 2 ^ 64 ∷ [])

-- of numbers, with or without a sign
abbrev pub summed : Value → Effect Value
summed v = do
  _ ← charge 1
  summed_from v.secrecy v

abbrev pub bits_from : World → Secrecy → Value → Effect Value
bits_from w Plain v = done (plain (shape_of datatype.Bool true) (flat_map bits_of v.words))
bits_from w (Private k) v = do
  _ ← draw w (words_for_bits (size v))
  u ← number_of v
  b ← planned (λ first. bits_plan first u (size v))
  made_private (shape_of datatype.Bool true) (flat_map bits_of v.words) b

abbrev pub bits_extracted : World → ℕ → Value → Effect Value
bits_extracted w line v = do
  _ ← charged (not_too_large line (64 * size v)) (64 * size v)
  bits_from w v.secrecy v

-- ---- ARRAYS

abbrev pub concatenated_from : Secrecy → Secrecy → Value → Value → Effect Value
concatenated_from Plain Plain x y = done (plain x.shape (x.words ++ y.words))
concatenated_from a b x y = do
  u ← number_of x
  v ← number_of y
  gate (joined_gate x.shape.element u (size x) v (size y)) >>= made_private x.shape (x.words ++ y.words)

-- of two arrays, both private or both public
abbrev pub concatenated : ℕ → Value → Value → Effect Value
concatenated line x y = do
  _ ← charged (not_too_large line (size x + size y)) (size x + size y)
  concatenated_from x.secrecy y.secrecy x y

-- the elements of a private array at private indices, 0 where an index is not below its size; nobody learns which they are
abbrev pub looked_up : World → ℕ → Value → Value → Effect Value
looked_up w line a i = do
  _ ← charged (not_too_large line (size a * size i)) (size a * size i)
  _ ← draw w (words_for_lookup (size a * size i))
  u ← number_of a
  v ← number_of i
  r ← planned (λ first. lookup_plan first u v (size a) (size i))
  made_private (shape_of a.shape.element i.shape.array) (looked a.words i.words) r

-- a public array or a public index is classified, the array first
abbrev pub lookup : World → ℕ → Value → Value → Effect Value
lookup w line a i = do
  x ← classified a
  k ← classified i
  looked_up w line x k

abbrev pub position : Value → ℕ
position i = first_word (visible_words i)

abbrev pub element_from : Secrecy → Value → ℕ → Effect Value
element_from Plain v i = done (plain (shape_of v.shape.element false) (get_or v.words i 0 ∷ []))
element_from (Private k) v i = do
  u ← number_of v
  gate (element_gate v.shape.element u i) >>= made_private (shape_of v.shape.element false) (get_or v.words i 0 ∷ [])

abbrev pub element_of_array : ℕ → Value → Value → Effect Value
element_of_array line v i = do
  _ ← charge 1
  _ ← test (nat_lt (position i) (size v)) trap.Index line
  element_from v.secrecy v (position i)

abbrev pub with_element_from : Secrecy → Value → ℕ → Value → Effect Value
with_element_from Plain v i x = done (plain v.shape (set v.words i (first_word (visible_words x))))
with_element_from (Private k) v i x = do
  u ← number_of v
  e ← number_of x
  gate (stored_gate v.shape.element u i e) >>= made_private v.shape (set v.words i (first_word x.words))

-- an array with one element changed, which is as private as the array
abbrev pub with_element : ℕ → Value → Value → Value → Effect Value
with_element line v i x = do
  _ ← charge 1
  _ ← test (nat_lt (position i) (size v)) trap.Index line
  with_element_from v.secrecy v (position i) x

abbrev pub filled_from : Secrecy → ℕ → Value → Effect Value
filled_from Plain n x = done (plain (shape_of x.shape.element true) (replicate n (first_word x.words)))
filled_from (Private k) n x = do
  u ← number_of x
  gate (repeated_gate x.shape.element u n) >>= made_private (shape_of x.shape.element true) (replicate n (first_word x.words))

-- an array of equal elements
abbrev pub filled : ℕ → Value → Value → Effect Value
filled line n x = do
  _ ← charged (not_too_large line (position n)) (position n)
  filled_from x.secrecy (position n) x

-- ---- WHAT GOES TO THE CLIENT

-- nobody learns a private value that is published: each miner's share of it is made anew for the client
abbrev pub handed_over : World → Secrecy → Value → Effect (Unit {0})
handed_over w Plain v = done tt
handed_over w (Private k) v = do
  _ ← draw w (words_each (gate_size v.shape.element (size v)))
  u ← number_of v
  _ ← gate (Result (ring_for v.shape.element) u)
  done tt

-- it is told as such: a public value is published, a private one is handed over
abbrev pub publication : Secrecy → DataType → List ℕ → List Element → Event
publication Plain e text elements = event.Publish text elements
publication (Private k) e text elements = event.Hand text (printed_kind e) elements

abbrev pub published : World → List ℕ → Value → Effect (Unit {0})
published w text v = do
  _ ← charged no_traps (size v)
  _ ← handed_over w v.secrecy v
  emit (publication v.secrecy v.shape.element text (elements_of v))

-- ---- CONTROL

-- a condition is tested
abbrev pub tested : Value → Effect Bool
tested v = do
  _ ← charge 1
  done (is_true v)

abbrev pub asserted : ℕ → Value → Effect (Unit {0})
asserted line v = do
  _ ← charge 1
  test (is_true v) trap.Assert line
