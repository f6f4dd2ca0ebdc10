-- Small programs and what evaluation gives for them, worked out by hand from the rules.
use Rattle.std.specs.Prelude.{ℕ, ◌≡◌, Bool, true, false, List, [], ◌∷◌, Some, codes, replicate, refl}
use Rattle.sc_text.specs.declared.elements.Element.TheVariants.{Word, Negative, Truth}
use Rattle.sc_text.specs.declared.elements.ElementKind.TheVariants as kinds
use Rattle.sc_text.specs.declared.end.Ending.TheVariants as ending
use Rattle.sc_text.specs.declared.end.TrapKind.TheVariants as trap
use Rattle.sc_text.specs.declared.end.TapeOwner.TheVariants as owner
use Rattle.sc_text.specs.declared.event.Event.{Event}
use Rattle.sc_text.specs.declared.event.Event.TheVariants.{Open, Publish, Hand}
use Rattle.program_trees.specs.declared.expression.DataType.{DataType}
use Rattle.program_trees.specs.declared.expression.DataType.TheVariants.{Uint64, Int64}
use Rattle.program_trees.specs.declared.expression.DataType.TheVariants as datatype
use Rattle.plans.specs.Gate.TheVariants as gate
use Rattle.plans.specs.Clear.{bits_of}
use Rattle.plans.specs.RingKind.TheVariants.{Arithmetic, Boolean}
use Rattle.plans.specs.Bits.{number_with, words_with}
use Rattle.plans.specs.Gathered.{packed}
use Rattle.reached_instances.specs.Slot.{Slot}
use Rattle.reached_instances.specs.SlotDomain.{SlotDomain}
use Rattle.reached_instances.specs.SlotDomain.TheVariants as domain
use Rattle.reached_instances.specs.Returned.TheVariants as given
use Rattle.reached_instances.specs.OperatorSign.{OperatorSign}
use Rattle.reached_instances.specs.OperatorSign.TheVariants as word
use Rattle.reached_instances.specs.BoolOperator.TheVariants as truth
use Rattle.reached_instances.specs.BinaryOperator.TheVariants as operator
use Rattle.reached_instances.specs.Operands.TheVariants.{Scalars, Arrays}
use Rattle.reached_instances.specs.Connective.TheVariants.{AndAlso}
use Rattle.reached_instances.specs.Operators.{cast_between}
use Rattle.reached_instances.specs.TypedTree.{TypedTree, word_node, truth_node, slot_node, call_node, bits_node, lookup_node, element_node, cast_node, binary_node, cut_node}
use Rattle.reached_instances.specs.TypedTree.{cat_node, not_node, declassify_node, typed_trees_of}
use Rattle.reached_instances.specs.TypedStatements.{TypedStatementTree, typed_statements_of, empty_statement, block_statement, if_statement, loop_statement}
use Rattle.reached_instances.specs.TypedStatements.{do_statement}
use Rattle.reached_instances.specs.TypedStatements.{return_statement, continue_statement, assert_statement, store_statement, default_statement, fill_statement}
use Rattle.reached_instances.specs.TypedStatements.{input_statement, element_statement, publish_statement}
use Rattle.reached_instances.specs.TypedPrograms.{TypedFunctionTree, TypedProgramTree}
use Rattle.reached_instances.specs.Shapes.{shape_of}
use Rattle.language_model.specs.Effects.{Words, words_each, GivenInput, RunStop, Ended, Short}
use Rattle.language_model.specs.Evaluation.{value, arguments, turns, repeats, execute, execute_all, call_at}
use Rattle.language_model.specs.Learned.{learned_of}
use Rattle.language_model.specs.Reports.{Report, Offered, eval, blind}

-- ---- HOW PROGRAMS ARE WRITTEN HERE

abbrev slot : SlotDomain → DataType → Bool → Slot
slot d element array = record { domain = d; shape = shape_of element array }

abbrev word_in : SlotDomain → Slot
word_in d = slot d Uint64 false

abbrev words_in : SlotDomain → Slot
words_in d = slot d Uint64 true

abbrev bool_in : SlotDomain → Slot
bool_in d = slot d datatype.Bool false

abbrev bools_in : SlotDomain → Slot
bools_in d = slot d datatype.Bool true

abbrev private : SlotDomain
private = domain.Private 0

abbrev main_with : List Slot → List TypedStatementTree → TypedFunctionTree
main_with slots body =
    record { name = codes "main"; variables = 0; parameters = 0; slots = slots; given = given.Nothing; body = typed_statements_of body; size = 0 }

abbrev program : List Slot → List TypedStatementTree → TypedProgramTree
program slots body = record { functions = main_with slots body ∷ [] }

-- the lines of the texts are all 2
abbrev ask : ℕ → List ℕ → TypedStatementTree
ask k text = input_statement 2 k text

abbrev tell : List ℕ → TypedTree → TypedStatementTree
tell = publish_statement

abbrev words : OperatorSign → TypedTree → TypedTree → TypedTree
words op a b = binary_node 2 (operator.Words op) Scalars a b

abbrev secret_word : List ℕ → ℕ → GivenInput
secret_word text n = record { text = text; secret = true; shape = shape_of Uint64 false; words = n ∷ [] }

abbrev secret_bool : List ℕ → ℕ → GivenInput
secret_bool text n = record { text = text; secret = true; shape = shape_of datatype.Bool false; words = n ∷ [] }

abbrev secret_words : List ℕ → List ℕ → GivenInput
secret_words text ns = record { text = text; secret = true; shape = shape_of Uint64 true; words = ns }

abbrev secret_bools : List ℕ → List ℕ → GivenInput
secret_bools text ns = record { text = text; secret = true; shape = shape_of datatype.Bool true; words = ns }

abbrev offered : List GivenInput → Offered
offered inputs = record { dealer = 100000; lengths = words_each 100000; inputs = inputs }

abbrev two : ℕ → ℕ → Offered
two a b = offered (secret_word (codes "a") a ∷ secret_word (codes "b") b ∷ [])

abbrev three_words : ℕ → ℕ → ℕ → Words
three_words a b c = record { first = a; second = b; third = c }

-- p uint64 a = argument("a"); p uint64 b = argument("b"); and a line about them
abbrev about_two : TypedStatementTree → TypedProgramTree
about_two c = program (word_in private ∷ word_in private ∷ []) (ask 0 (codes "a") ∷ ask 1 (codes "b") ∷ c ∷ [])

-- ---- PRIVATE OPERATIONS

-- publish("s", declassify(a + b));
abbrev sum_of_two : TypedProgramTree
sum_of_two = about_two (tell (codes "s") (declassify_node (words word.Add (slot_node 0) (slot_node 1))))

sum_told : eval sum_of_two (two 18446744073709551615 2) 1000000
    ≡ record {
      stop = Ended ending.Done;
      cost = 7;
      dealt = 4;
      drawn = words_each 1;
      events =
          Open (Word 1 ∷ []) ∷ Publish (codes "s") (Word 1 ∷ []) ∷ [];
      opened = 1 ∷ [];
      gates =
          gate.Input 0 ∷ gate.Input 1 ∷ gate.Add 0 1 ∷ gate.Open Arithmetic 2 ∷ [];
    }
unfolding value arguments turns repeats execute execute_all call_at
sum_told = refl

-- the budget ends before the last charge
sum_within_six : (eval sum_of_two (two 18446744073709551615 2) 6).stop ≡ Ended ending.Budget
unfolding value arguments turns repeats execute execute_all call_at
sum_within_six = refl

-- the third miner's tape has no word
sum_without_words : (eval sum_of_two (record (two 18446744073709551615 2) { lengths = three_words 1 1 0 }) 1000000).stop ≡ Ended (ending.Tape owner.Miner3 1 0)
unfolding value arguments turns repeats execute execute_all call_at
sum_without_words = refl

-- the dealer's is one word short: nothing is needed, and nothing has run
sum_not_dealt : eval sum_of_two (record (two 6 7) { dealer = 3 }) 1000000
    ≡ record { stop = Ended (ending.Tape owner.Dealer 4 3); cost = 0; dealt = 0; drawn = words_each 0; events = []; opened = []; gates = [] }
unfolding value arguments turns repeats execute execute_all call_at
sum_not_dealt = refl

-- one who knows what was opened sees the same run
sum_blind : blind sum_of_two (two 18446744073709551615 2) (1 ∷ 5 ∷ []) 1000000
    ≡ record (eval sum_of_two (two 18446744073709551615 2) 1000000) { events = Open (Word 1 ∷ []) ∷ Publish (codes "s") (Word 1 ∷ []) ∷ [] }
unfolding value arguments turns repeats execute execute_all call_at
sum_blind = refl

sum_blind_short : (blind sum_of_two (two 6 7) [] 1000000).stop ≡ Short
unfolding value arguments turns repeats execute execute_all call_at
sum_blind_short = refl

-- p uint64 c = a * b; publish("c", c);
abbrev product_for_the_client : TypedProgramTree
product_for_the_client =
    program (word_in private ∷ word_in private ∷ word_in private ∷ [])
    (ask 0 (codes "a") ∷ ask 1 (codes "b") ∷ store_statement 2 (words word.Multiply (slot_node 0) (slot_node 1)) ∷ tell (codes "c") (slot_node 2) ∷ [])

product_told : eval product_for_the_client (two 6 7) 1000000
    ≡ record {
      stop = Ended ending.Done;
      cost = 7;
      dealt = 4;
      drawn = words_each 4;
      events = Hand (codes "c") kinds.Unsigned (Word 42 ∷ []) ∷ [];
      opened =
          [];
      gates = gate.Input 0 ∷ gate.Input 1 ∷ gate.Mul 0 1 ∷ gate.Result Arithmetic 2 ∷ [];
    }
unfolding value arguments turns repeats execute execute_all call_at
product_told = refl

-- p uint64[[1]] a = argument("a"); uint64[[1]] c = declassify(a * a); publish("c", c);
abbrev squares : TypedProgramTree
squares =
    program (words_in private ∷ words_in domain.Public ∷ [])
    (ask 0 (codes "a") ∷ store_statement 1 (declassify_node (binary_node 2 (operator.Words word.Multiply) Arrays (slot_node 0) (slot_node 0)))
    ∷ tell (codes "c") (slot_node 1) ∷ [])

-- of no elements
no_squares : eval squares (offered (secret_words (codes "a") [] ∷ [])) 1000000
    ≡ record {
      stop = Ended ending.Done;
      cost = 6;
      dealt = 0;
      drawn = words_each 0;
      events = Open [] ∷ Publish (codes "c") [] ∷ [];
      opened =
          [];
      gates = gate.Input 0 ∷ gate.Mul 0 0 ∷ gate.Open Arithmetic 1 ∷ [];
    }
unfolding value arguments turns repeats execute execute_all call_at
no_squares = refl

-- and of 513, without the publication
abbrev unpublished_squares : TypedProgramTree
unpublished_squares =
    program (words_in private ∷ words_in domain.Public ∷ [])
    (ask 0 (codes "a") ∷ store_statement 1 (declassify_node (binary_node 2 (operator.Words word.Multiply) Arrays (slot_node 0) (slot_node 0))) ∷ [])

many_squares_cost : (eval unpublished_squares (offered (secret_words (codes "a") (replicate 513 3) ∷ [])) 1000000).cost ≡ 2565
unfolding value arguments turns repeats execute execute_all call_at
many_squares_cost = refl

many_squares_need : (eval unpublished_squares (offered (secret_words (codes "a") (replicate 513 3) ∷ [])) 1000000).drawn ≡ words_each 2052
unfolding value arguments turns repeats execute execute_all call_at
many_squares_need = refl

-- bool e = declassify(a == b); publish("e", e);
abbrev equality : TypedProgramTree
equality =
    program (word_in private ∷ word_in private ∷ bool_in domain.Public ∷ [])
    (ask 0 (codes "a") ∷ ask 1 (codes "b") ∷ store_statement 2 (declassify_node (words word.Equal (slot_node 0) (slot_node 1)))
    ∷ tell (codes "e") (slot_node 2) ∷ [])

different : (eval equality (two 0 18446744073709551615) 1000000).events ≡ Open (Truth false ∷ []) ∷ Publish (codes "e") (Truth false ∷ []) ∷ []
unfolding value arguments turns repeats execute execute_all call_at
different = refl

same : (eval equality (two 5 5) 1000000).events ≡ Open (Truth true ∷ []) ∷ Publish (codes "e") (Truth true ∷ []) ∷ []
unfolding value arguments turns repeats execute execute_all call_at
same = refl

equality_cost : (eval equality (two 5 5) 1000000).cost ≡ 8
unfolding value arguments turns repeats execute execute_all call_at
equality_cost = refl

equality_need : (eval equality (two 5 5) 1000000).drawn ≡ three_words 20 19 19
unfolding value arguments turns repeats execute execute_all call_at
equality_need = refl

-- publish("r", declassify(a < b)); and the same with >=
abbrev order : TypedProgramTree
order = about_two (tell (codes "r") (declassify_node (words word.Less (slot_node 0) (slot_node 1))))

not_less : (eval order (two 18446744073709551615 1) 1000000).opened ≡ 0 ∷ []
unfolding value arguments turns repeats execute execute_all call_at
not_less = refl

less : (eval order (two 1 18446744073709551615) 1000000).opened ≡ 1 ∷ []
unfolding value arguments turns repeats execute execute_all call_at
less = refl

order_cost : (eval order (two 1 2) 1000000).cost ≡ 7
unfolding value arguments turns repeats execute execute_all call_at
order_cost = refl

order_need : (eval order (two 1 2) 1000000).drawn ≡ three_words 120 118 118
unfolding value arguments turns repeats execute execute_all call_at
order_need = refl

not_below : (eval (about_two (tell (codes "g") (declassify_node (words word.GreaterOrEqual (slot_node 0) (slot_node 1))))) (two 5 5) 1000000).opened ≡ 1 ∷ []
unfolding value arguments turns repeats execute execute_all call_at
not_below = refl

-- publish("z", declassify((bool) a)); with one input
abbrev about_one : TypedStatementTree → TypedProgramTree
about_one c = program (word_in private ∷ []) (ask 0 (codes "a") ∷ c ∷ [])

abbrev one : ℕ → Offered
one a = offered (secret_word (codes "a") a ∷ [])

abbrev to_bool : TypedProgramTree
to_bool = about_one (tell (codes "z") (declassify_node (cast_node (cast_between Uint64 datatype.Bool) (slot_node 0))))

zero_is_false : (eval to_bool (one 0) 1000000).opened ≡ 0 ∷ []
unfolding value arguments turns repeats execute execute_all call_at
zero_is_false = refl

to_bool_cost : (eval to_bool (one 0) 1000000).cost ≡ 5
unfolding value arguments turns repeats execute execute_all call_at
to_bool_cost = refl

to_bool_need : (eval to_bool (one 0) 1000000).drawn ≡ three_words 20 19 19
unfolding value arguments turns repeats execute execute_all call_at
to_bool_need = refl

-- p bool b = argument("b"); publish("n", declassify((uint64) b));
abbrev to_number : TypedProgramTree
to_number = program (bool_in private ∷ []) (ask 0 (codes "b") ∷ tell (codes "n") (declassify_node (cast_node (cast_between datatype.Bool Uint64) (slot_node 0))) ∷ [])

true_is_one : eval to_number (offered (secret_bool (codes "b") 1 ∷ [])) 1000000
    ≡ record {
      stop = Ended ending.Done;
      cost = 5;
      dealt = 2;
      drawn = three_words 5 2 2;
      events =
          Open (Word 1 ∷ []) ∷ Publish (codes "n") (Word 1 ∷ []) ∷ [];
      opened = 1 ∷ [];
      gates = gate.Input 0 ∷ gate.Unpack 0 1 ∷ gate.Conv 1 ∷ gate.Open Arithmetic 2 ∷ [];
    }
unfolding value arguments turns repeats execute execute_all call_at
true_is_one = refl

-- ---- NUMBERS WITH A SIGN

abbrev int_in : SlotDomain → Slot
int_in d = slot d Int64 false

abbrev ints : OperatorSign → TypedTree → TypedTree → TypedTree
ints op a b = binary_node 2 (operator.Ints op) Scalars a b

-- by its word
abbrev secret_int : List ℕ → ℕ → GivenInput
secret_int text n = record { text = text; secret = true; shape = shape_of Int64 false; words = n ∷ [] }

abbrev two_ints : ℕ → ℕ → Offered
two_ints a b = offered (secret_int (codes "a") a ∷ secret_int (codes "b") b ∷ [])

-- p int64 a = argument("a"); p int64 b = argument("b"); and a line about them
abbrev about_two_ints : TypedStatementTree → TypedProgramTree
about_two_ints c = program (int_in private ∷ int_in private ∷ []) (ask 0 (codes "a") ∷ ask 1 (codes "b") ∷ c ∷ [])

-- publish("r", declassify(a < b)); of -1 and 0
abbrev signed_order : TypedProgramTree
signed_order = about_two_ints (tell (codes "r") (declassify_node (ints word.Less (slot_node 0) (slot_node 1))))

below_zero : (eval signed_order (two_ints 18446744073709551615 0) 1000000).events ≡ Open (Truth true ∷ []) ∷ Publish (codes "r") (Truth true ∷ []) ∷ []
unfolding value arguments turns repeats execute execute_all call_at
below_zero = refl

not_above : (eval signed_order (two_ints 0 18446744073709551615) 1000000).opened ≡ 0 ∷ []
unfolding value arguments turns repeats execute execute_all call_at
not_above = refl

signed_order_cost : (eval signed_order (two_ints 1 2) 1000000).cost ≡ 7
unfolding value arguments turns repeats execute execute_all call_at
signed_order_cost = refl

signed_order_need : (eval signed_order (two_ints 1 2) 1000000).drawn ≡ three_words 120 118 118
unfolding value arguments turns repeats execute execute_all call_at
signed_order_need = refl

-- publish("s", declassify(a + b)); of -9223372036854775808 and -1
signed_sum : eval (about_two_ints (tell (codes "s") (declassify_node (ints word.Add (slot_node 0) (slot_node 1)))))
    (two_ints 9223372036854775808 18446744073709551615) 1000000
    ≡ record {
      stop = Ended ending.Done;
      cost = 7;
      dealt = 4;
      drawn = words_each 1;
      events =
          Open (Word 9223372036854775807 ∷ []) ∷ Publish (codes "s") (Word 9223372036854775807 ∷ []) ∷ [];
      opened = 9223372036854775807 ∷ [];
      gates = gate.Input 0 ∷ gate.Input 1 ∷ gate.Add 0 1 ∷ gate.Open Arithmetic 2 ∷ [];
    }
unfolding value arguments turns repeats execute execute_all call_at
signed_sum = refl

-- int64 x = (int64) 7; int64 y = (int64) 0 - (int64) 2; publish("q", x / y); publish("m", x % y);
abbrev signed_division : TypedProgramTree
signed_division =
    program (int_in domain.Public ∷ int_in domain.Public ∷ [])
    (store_statement 0 (cast_node (cast_between Uint64 Int64) (word_node 7))
    ∷ store_statement 1 (ints word.Subtract (cast_node (cast_between Uint64 Int64) (word_node 0)) (cast_node (cast_between Uint64 Int64) (word_node 2)))
    ∷ tell (codes "q") (ints word.Divide (slot_node 0) (slot_node 1)) ∷ tell (codes "m") (ints word.Remainder (slot_node 0) (slot_node 1)) ∷ [])

signed_division_told : eval signed_division (offered []) 1000000
    ≡ record {
      stop = Ended ending.Done;
      cost = 10;
      dealt = 0;
      drawn = words_each 0;
      events =
          Publish (codes "q") (Negative 3 ∷ []) ∷ Publish (codes "m") (Word 1 ∷ []) ∷ [];
      opened = [];
      gates = [];
    }
unfolding value arguments turns repeats execute execute_all call_at
signed_division_told = refl

-- publish("w", declassify((uint64) a)); of -2: the cast makes no gate
abbrev to_word : TypedProgramTree
to_word = program (int_in private ∷ []) (ask 0 (codes "a") ∷ tell (codes "w") (declassify_node (cast_node (cast_between Int64 Uint64) (slot_node 0))) ∷ [])

to_word_told : eval to_word (offered (secret_int (codes "a") 18446744073709551614 ∷ [])) 1000000
    ≡ record {
      stop = Ended ending.Done;
      cost = 5;
      dealt = 2;
      drawn = words_each 1;
      events =
          Open (Word 18446744073709551614 ∷ []) ∷ Publish (codes "w") (Word 18446744073709551614 ∷ []) ∷ [];
      opened = 18446744073709551614 ∷ [];
      gates = gate.Input 0 ∷ gate.Open Arithmetic 0 ∷ [];
    }
unfolding value arguments turns repeats execute execute_all call_at
to_word_told = refl

-- ---- LOOK-UPS

-- p uint64[[1]] a = argument("a"); p uint64 i = argument("i"); publish("v", declassify(lookup(a, i)));
abbrev looking_up : TypedProgramTree
looking_up =
    program (words_in private ∷ word_in private ∷ [])
    (ask 0 (codes "a") ∷ ask 1 (codes "i") ∷ tell (codes "v") (declassify_node (lookup_node 2 (slot_node 0) (slot_node 1))) ∷ [])

abbrev among : List ℕ → ℕ → Offered
among xs i = offered (secret_words (codes "a") xs ∷ secret_word (codes "i") i ∷ [])

abbrev found_and_cost : Report → List Event × Words × ℕ
found_and_cost r = (r.events, r.drawn, r.cost)

looked_up_second : found_and_cost (eval looking_up (among (10 ∷ 20 ∷ 30 ∷ []) 1) 1000000)
    ≡ (Open (Word 20 ∷ []) ∷ Publish (codes "v") (Word 20 ∷ []) ∷ [], three_words 79 67 67, 13)
unfolding value arguments turns repeats execute execute_all call_at
looked_up_second = refl

-- nothing stands there
looked_up_past : (eval looking_up (among (10 ∷ 20 ∷ 30 ∷ []) 3) 1000000).opened ≡ 0 ∷ []
unfolding value arguments turns repeats execute execute_all call_at
looked_up_past = refl

looked_up_in_none : found_and_cost (eval looking_up (among [] 5) 1000000)
    ≡ (Open (Word 0 ∷ []) ∷ Publish (codes "v") (Word 0 ∷ []) ∷ [], three_words 1 1 1, 7)
unfolding value arguments turns repeats execute execute_all call_at
looked_up_in_none = refl

-- p int64[[1]] a; p uint64[[1]] i; publish("v", declassify(lookup(a, i))); of -1, 5 and 1, 0, 2
abbrev looking_ints_up : TypedProgramTree
looking_ints_up =
    program (slot private Int64 true ∷ words_in private ∷ [])
    (ask 0 (codes "a") ∷ ask 1 (codes "i") ∷ tell (codes "v") (declassify_node (lookup_node 2 (slot_node 0) (slot_node 1))) ∷ [])

looked_ints_up :
    (eval looking_ints_up
    (offered (record { text = codes "a"; secret = true; shape = shape_of Int64 true; words = 18446744073709551615 ∷ 5 ∷ [] }
    ∷ secret_words (codes "i") (1 ∷ 0 ∷ 2 ∷ []) ∷ []))
    1000000).events
    ≡ Open (Word 5 ∷ Negative 1 ∷ Word 0 ∷ []) ∷ Publish (codes "v") (Word 5 ∷ Negative 1 ∷ Word 0 ∷ []) ∷ []
unfolding value arguments turns repeats execute execute_all call_at
looked_ints_up = refl

-- a public array is classified, and so is a public index: publish("v", declassify(lookup(k, i))); of the array k, three times 7
abbrev looking_up_beside : TypedProgramTree
looking_up_beside =
    program (words_in domain.Public ∷ word_in private ∷ [])
    (ask 1 (codes "i") ∷ fill_statement 2 0 (word_node 3) (word_node 7) ∷ tell (codes "v") (declassify_node (lookup_node 2 (slot_node 0) (slot_node 1))) ∷ [])

looked_up_beside : (eval looking_up_beside (offered (secret_word (codes "i") 2 ∷ [])) 1000000).cost ≡ 13
unfolding value arguments turns repeats execute execute_all call_at
looked_up_beside = refl

-- publish("b", declassify(bitExtract(a)));
abbrev bits : TypedProgramTree
bits = about_one (tell (codes "b") (declassify_node (bits_node 2 (slot_node 0))))

bits_of_five : (eval bits (one 5) 1000000).opened ≡ 1 ∷ 0 ∷ 1 ∷ replicate 61 0
unfolding value arguments turns repeats execute execute_all call_at bits_of
bits_of_five = refl

bits_cost : (eval bits (one 5) 1000000).cost ≡ 194
unfolding value arguments turns repeats execute execute_all call_at bits_of
bits_cost = refl

bits_need : (eval bits (one 5) 1000000).drawn ≡ three_words 41 40 40
unfolding value arguments turns repeats execute execute_all call_at bits_of
bits_need = refl

-- p bool a, b; publish("o", declassify(a | b));
abbrev either_bool : TypedProgramTree
either_bool =
    program (bool_in private ∷ bool_in private ∷ [])
    (ask 0 (codes "a") ∷ ask 1 (codes "b")
    ∷ tell (codes "o") (declassify_node (binary_node 2 (operator.Bools truth.Or) Scalars (slot_node 0) (slot_node 1))) ∷ [])

either_told : eval either_bool (offered (secret_bool (codes "a") 1 ∷ secret_bool (codes "b") 0 ∷ [])) 1000000
    ≡ record {
      stop = Ended ending.Done;
      cost = 7;
      dealt = 4;
      drawn = words_each 4;
      events =
          Open (Truth true ∷ []) ∷ Publish (codes "o") (Truth true ∷ []) ∷ [];
      opened = 1 ∷ [];
      gates =
          gate.Input 0 ∷ gate.Input 1 ∷ gate.And 0 1 ∷ gate.Xor 0 1 ∷ gate.Xor 3 2 ∷ gate.Open Boolean 4 ∷ [];
    }
unfolding value arguments turns repeats execute execute_all call_at
either_told = refl

-- p bool[[1]] a = argument("a"); bool[[1]] c = declassify(a & a); publish("c", c); of 65 elements, which are two words
abbrev both_bools : TypedProgramTree
both_bools =
    program (bools_in private ∷ bools_in domain.Public ∷ [])
    (ask 0 (codes "a") ∷ store_statement 1 (declassify_node (binary_node 2 (operator.Bools truth.And) Arrays (slot_node 0) (slot_node 0)))
    ∷ tell (codes "c") (slot_node 1) ∷ [])

abbrev needs_and_cost : Report → ℕ × Words × ℕ
needs_and_cost r = (r.dealt, r.drawn, r.cost)

many_bools_need : needs_and_cost (eval both_bools (offered (secret_bools (codes "a") (replicate 65 1) ∷ [])) 1000000) ≡ (4, words_each 8, 390)
unfolding value arguments turns repeats execute execute_all call_at
many_bools_need = refl

-- p bool[[1]] b = cat(cat(!a, a), a); b[1] = a[0]; p bool[[1]] c (3, b[0]); publish("c", c);
abbrev arrays_of_bools : TypedProgramTree
arrays_of_bools =
    program (bools_in private ∷ bools_in private ∷ bools_in private ∷ [])
    (ask 0 (codes "a") ∷ store_statement 1 (cat_node 2 (cat_node 2 (not_node (slot_node 0)) (slot_node 0)) (slot_node 0))
    ∷ element_statement 2 1 (word_node 1) (element_node 2 (slot_node 0) (word_node 0))
    ∷ fill_statement 2 2 (word_node 3) (element_node 2 (slot_node 1) (word_node 0)) ∷ tell (codes "c") (slot_node 2) ∷ [])

arrays_told : eval arrays_of_bools (offered (secret_bools (codes "a") (0 ∷ 1 ∷ []) ∷ [])) 1000000
    ≡ record {
      stop = Ended ending.Done;
      cost = 31;
      dealt = 2;
      drawn = words_each 1;
      events = Hand (codes "c") kinds.TruthValue (replicate 3 (Truth true)) ∷ [];
      opened = [];
      gates =
          gate.Input 0 ∷ gate.Const (3 ∷ []) ∷ gate.Xor 0 1 ∷ gate.CatBit 2 2 0 2 ∷ gate.CatBit 3 4 0 2 ∷ gate.PartBit 0 0
          ∷ gate.PutBit 4 1 5 ∷ gate.PartBit 6 0 ∷ gate.RepBit 7 3 ∷ gate.Result Boolean 8 ∷ [];
    }
unfolding value arguments turns repeats execute execute_all call_at packed words_with number_with
arrays_told = refl

-- the gates have opened the truth values as one word
bools_learned :
    learned_of (Open (Truth true ∷ Truth false ∷ Truth true ∷ []) ∷ Hand (codes "c") kinds.TruthValue (Truth true ∷ []) ∷ Open (Word 7 ∷ Word 8 ∷ []) ∷ [])
    ≡ 5 ∷ 7 ∷ 8 ∷ []
unfolding packed words_with number_with
bools_learned = refl

-- p uint64 k = a + 3; publish("k", declassify(k)); the 3 is classified
abbrev with_three : TypedProgramTree
with_three =
    program (word_in private ∷ word_in private ∷ [])
    (ask 0 (codes "a") ∷ store_statement 1 (words word.Add (slot_node 0) (word_node 3)) ∷ tell (codes "k") (declassify_node (slot_node 1)) ∷ [])

with_three_told : eval with_three (one 4) 1000000
    ≡ record {
      stop = Ended ending.Done;
      cost = 7;
      dealt = 2;
      drawn = words_each 1;
      events =
          Open (Word 7 ∷ []) ∷ Publish (codes "k") (Word 7 ∷ []) ∷ [];
      opened = 7 ∷ [];
      gates =
          gate.Input 0 ∷ gate.Const (3 ∷ []) ∷ gate.Add 0 1 ∷ gate.Open Arithmetic 2 ∷ [];
    }
unfolding value arguments turns repeats execute execute_all call_at
with_three_told = refl

-- uint64 x = declassify(a); uint64 y = declassify(a); where the third miner's tape has one word
abbrev opened_twice : TypedProgramTree
opened_twice =
    program (word_in private ∷ word_in domain.Public ∷ word_in domain.Public ∷ [])
    (ask 0 (codes "a") ∷ store_statement 1 (declassify_node (slot_node 0)) ∷ store_statement 2 (declassify_node (slot_node 0)) ∷ [])

second_opening_ends : eval opened_twice (record (one 6) { lengths = three_words 2 2 1 }) 1000000
    ≡ record {
      stop = Ended (ending.Tape owner.Miner3 2 1);
      cost = 5;
      dealt = 2;
      drawn = words_each 1;
      events = Open (Word 6 ∷ []) ∷ [];
      opened =
          6 ∷ [];
      gates = gate.Input 0 ∷ gate.Open Arithmetic 0 ∷ [];
    }
unfolding value arguments turns repeats execute execute_all call_at
second_opening_ends = refl

-- ---- CONTROL

abbrev no_inputs : Offered
no_inputs = offered []

abbrev public_words : ℕ → List Slot
public_words n = replicate n (word_in domain.Public)

-- uint64 n = declassify(a); while (n != 0) { n = n - 1; } publish("n", n);
abbrev counting_down : TypedProgramTree
counting_down =
    program (word_in private ∷ word_in domain.Public ∷ [])
    (ask 0 (codes "a") ∷ store_statement 1 (declassify_node (slot_node 0))
    ∷ loop_statement (words word.NotEqual (slot_node 1) (word_node 0)) empty_statement
    (block_statement (typed_statements_of (store_statement 1 (words word.Subtract (slot_node 1) (word_node 1)) ∷ []))) ∷ tell (codes "n") (slot_node 1) ∷ [])

counted_down : (eval counting_down (one 2) 15).events ≡ Open (Word 2 ∷ []) ∷ Publish (codes "n") (Word 0 ∷ []) ∷ []
unfolding value arguments turns repeats execute execute_all call_at
counted_down = refl

counted_down_cost : (eval counting_down (one 2) 1000000).cost ≡ 15
unfolding value arguments turns repeats execute execute_all call_at
counted_down_cost = refl

one_less : (eval counting_down (one 2) 14).stop ≡ Ended ending.Budget
unfolding value arguments turns repeats execute execute_all call_at
one_less = refl

one_less_cost : (eval counting_down (one 2) 14).cost ≡ 14
unfolding value arguments turns repeats execute execute_all call_at
one_less_cost = refl

-- uint64 i = 0; for (i = 0; i < 3; i++) { } publish("i", i);
abbrev counting_up : TypedProgramTree
counting_up =
    program (public_words 1) (store_statement 0 (word_node 0)
    ∷ block_statement (typed_statements_of
    (store_statement 0 (word_node 0) ∷ loop_statement (words word.Less (slot_node 0) (word_node 3))
    (store_statement 0 (words word.Add (slot_node 0) (word_node 1))) (block_statement (typed_statements_of [])) ∷ [])) ∷ tell (codes "i") (slot_node 0) ∷ [])

counted_up : eval counting_up no_inputs 1000000
    ≡ record { stop = Ended ending.Done; cost = 17; dealt = 0; drawn = words_each 0; events = Publish (codes "i") (Word 3 ∷ []) ∷ []; opened = []; gates = [] }
unfolding value arguments turns repeats execute execute_all call_at
counted_up = refl

-- uint64 i; do { i = i + 1; if (i == 2) continue; } while (i < 3); publish("i", i);
abbrev repeating : TypedProgramTree
repeating =
    program (public_words 1) (default_statement 0
    ∷ do_statement (block_statement
    (typed_statements_of (store_statement 0 (words word.Add (slot_node 0) (word_node 1))
    ∷ if_statement (words word.Equal (slot_node 0) (word_node 2)) continue_statement empty_statement ∷ [])))
    (words word.Less (slot_node 0) (word_node 3)) ∷ tell (codes "i") (slot_node 0) ∷ [])

repeated : (eval repeating no_inputs 1000000).events ≡ Publish (codes "i") (Word 3 ∷ []) ∷ []
unfolding value arguments turns repeats execute execute_all call_at
repeated = refl

-- a store, three turns of four charges and two tests, and the publication
repeated_cost : (eval repeating no_inputs 1000000).cost ≡ 20
unfolding value arguments turns repeats execute execute_all call_at
repeated_cost = refl

-- bool x = false && (1 / 0 == 0); publish("x", x);
abbrev cut : TypedProgramTree
cut =
    program (bool_in domain.Public ∷ [])
    (store_statement 0 (cut_node AndAlso (truth_node false) (words word.Equal (words word.Divide (word_node 1) (word_node 0)) (word_node 0)))
    ∷ tell (codes "x") (slot_node 0) ∷ [])

cut_told : eval cut no_inputs 1000000
    ≡ record {
      stop = Ended ending.Done;
      cost = 3;
      dealt = 0;
      drawn = words_each 0;
      events = Publish (codes "x") (Truth false ∷ []) ∷ [];
      opened =
          [];
      gates = [];
    }
unfolding value arguments turns repeats execute execute_all call_at
cut_told = refl

-- ---- TRAPS

-- uint64 z = 0; publish("one", 1); publish("q", 7 / z);
abbrev dividing : TypedProgramTree
dividing = program (public_words 1)
    (store_statement 0 (word_node 0) ∷ tell (codes "one") (word_node 1) ∷ tell (codes "q") (words word.Divide (word_node 7) (slot_node 0)) ∷ [])

by_zero : eval dividing no_inputs 1000000
    ≡ record {
      stop = Ended (ending.Trap trap.Div 2);
      cost = 3;
      dealt = 0;
      drawn = words_each 0;
      events =
          Publish (codes "one") (Word 1 ∷ []) ∷ [];
      opened = [];
      gates = [];
    }
unfolding value arguments turns repeats execute execute_all call_at
by_zero = refl

abbrev stop_and_cost : Report → RunStop × ℕ
stop_and_cost r = (r.stop, r.cost)

-- uint64[[1]] a (5); publish("x", a[5]);
past_the_end : stop_and_cost
    (eval (program (words_in domain.Public ∷ [])
    (fill_statement 2 0 (word_node 5) (word_node 0) ∷ tell (codes "x") (element_node 2 (slot_node 0) (word_node 5)) ∷ [])) no_inputs 1000000)
    ≡ (Ended (ending.Trap trap.Index 2), 6)
unfolding value arguments turns repeats execute execute_all call_at
past_the_end = refl

-- uint64[[1]] a (2); uint64[[1]] b (3); publish("x", a + b);
of_two_sizes : stop_and_cost
    (eval (program (words_in domain.Public ∷ words_in domain.Public ∷ [])
    (fill_statement 2 0 (word_node 2) (word_node 0) ∷ fill_statement 2 1 (word_node 3) (word_node 0)
    ∷ tell (codes "x") (binary_node 2 (operator.Words word.Add) Arrays (slot_node 0) (slot_node 1)) ∷ [])) no_inputs 1000000)
    ≡ (Ended (ending.Trap trap.Length 2), 6)
unfolding value arguments turns repeats execute execute_all call_at
of_two_sizes = refl

-- uint64 a = argument("zz");
not_given : stop_and_cost (eval (program (public_words 1) (ask 0 (codes "zz") ∷ [])) no_inputs 1000000) ≡ (Ended (ending.Trap trap.Argument 2), 1)
unfolding value arguments turns repeats execute execute_all call_at
not_given = refl

-- uint64[[1]] a (1048577);
too_large : stop_and_cost (eval (program (words_in domain.Public ∷ []) (fill_statement 2 0 (word_node 1048577) (word_node 0) ∷ [])) no_inputs 1000000)
    ≡ (Ended (ending.Trap trap.Large 2), 1)
unfolding value arguments turns repeats execute execute_all call_at
too_large = refl

-- assert(1 == 2);
asserting : stop_and_cost (eval (program [] (assert_statement 2 (words word.Equal (word_node 1) (word_node 2)) ∷ [])) no_inputs 1000000)
    ≡ (Ended (ending.Trap trap.Assert 2), 2)
unfolding value arguments turns repeats execute execute_all call_at
asserting = refl

-- uint64 f(uint64 n) { return f(n); } is called
abbrev for_ever : TypedFunctionTree
for_ever =
    record {
      name = codes "f";
      variables = 0;
      parameters = 1;
      slots = public_words 1;
      given = given.Value (word_in domain.Public);
      body =
          typed_statements_of (return_statement (Some (call_node 1 1 (typed_trees_of (slot_node 0 ∷ [])))) ∷ []);
      size = 0;
    }

too_deep : stop_and_cost (eval
    (record { functions = main_with [] (tell (codes "x") (call_node 2 1 (typed_trees_of (word_node 0 ∷ []))) ∷ []) ∷ for_ever ∷ [] }) no_inputs
    1000000) ≡ (Ended (ending.Trap trap.Depth 1), 64)
unfolding value arguments turns repeats execute execute_all call_at
too_deep = refl

-- ---- TEMPLATES

-- template <domain D> D uint64 f(D uint64 x, D uint64 y) { return x + y; }
abbrev adding : TypedFunctionTree
adding =
    record {
      name = codes "f";
      variables = 1;
      parameters = 2;
      slots = word_in (domain.Variable 0) ∷ word_in (domain.Variable 0) ∷ [];
      given =
          given.Value (word_in (domain.Variable 0));
      body =
          typed_statements_of (return_statement (Some (binary_node 2 (operator.Words word.Add) Scalars (slot_node 0) (slot_node 1))) ∷ []);
      size = 0;
    }

-- p uint64 a = argument("a"); uint64 k = f(1, 2); publish("r", declassify(f(a, k)));
abbrev both_bindings : TypedProgramTree
both_bindings =
    record {
      functions = main_with (word_in private ∷ word_in domain.Public ∷ [])
          (ask 0 (codes "a") ∷ store_statement 1 (call_node 3 1 (typed_trees_of (word_node 1 ∷ word_node 2 ∷ [])))
          ∷ tell (codes "r") (declassify_node (call_node 3 1 (typed_trees_of (slot_node 0 ∷ slot_node 1 ∷ [])))) ∷ []) ∷ adding ∷ [];
    }

both_told : eval both_bindings (one 4) 1000000
    ≡ record {
      stop = Ended ending.Done;
      cost = 10;
      dealt = 2;
      drawn = words_each 1;
      events =
          Open (Word 7 ∷ []) ∷ Publish (codes "r") (Word 7 ∷ []) ∷ [];
      opened = 7 ∷ [];
      gates =
          gate.Input 0 ∷ gate.Const (3 ∷ []) ∷ gate.Add 0 1 ∷ gate.Open Arithmetic 2 ∷ [];
    }
unfolding value arguments turns repeats execute execute_all call_at
both_told = refl
