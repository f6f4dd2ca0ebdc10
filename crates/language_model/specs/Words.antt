-- What operators mean on words. A truth value is 1 or 0, and a number with a sign stands as its two's complement.
use Rattle.std.specs.Prelude.{ℕ, ◌/◌, ◌%◌, Bool, true, false, not, ◌==◌, nat_lt, nat_le, nat_eq, List, replicate, bit_and, bit_or, bit_xor}
use Rattle.std.specs.List.{list_any}
use Rattle.program_trees.specs.declared.expression.DataType.{DataType}
use Rattle.program_trees.specs.declared.expression.DataType.TheVariants.{Uint64, Int64}
use Rattle.program_trees.specs.declared.expression.DataType.TheVariants as datatype
use Rattle.signed_words.specs.Signed.{signed_less, signed_quotient, signed_remainder}
use Rattle.plans.specs.Rings.{add_ring}
use Rattle.plans.specs.Clear.{each_two, first_word}
use Rattle.reached_instances.specs.OperatorSign.{OperatorSign}
use Rattle.reached_instances.specs.OperatorSign.TheVariants as word
use Rattle.reached_instances.specs.BoolOperator.TheVariants as truth
use Rattle.reached_instances.specs.BinaryOperator.{BinaryOperator}
use Rattle.reached_instances.specs.BinaryOperator.TheVariants.{Words, Ints, Bools}
use Rattle.reached_instances.specs.Operands.{Operands}
use Rattle.reached_instances.specs.Operands.TheVariants.{Scalars, ArrayAndScalar, ScalarAndArray, Arrays}
use Rattle.reached_instances.specs.Cast.{Cast}
use Rattle.language_model.specs.Values.{Value, size}

abbrev pub truth_word : Bool → ℕ
truth_word true = 1
truth_word false = 0

-- a flip: true for false
abbrev pub flipped : ℕ → ℕ
flipped x = truth_word (x == 0)

abbrev pub word_meaning : OperatorSign → ℕ → ℕ → ℕ
word_meaning word.Add x y = add_ring.add x y
word_meaning word.Subtract x y = add_ring.sub x y
word_meaning word.Multiply x y = add_ring.mul x y
word_meaning word.Divide x y = x / y
word_meaning word.Remainder x y = x % y
word_meaning word.Equal x y = truth_word (nat_eq x y)
word_meaning word.NotEqual x y = truth_word (not (nat_eq x y))
word_meaning word.Less x y = truth_word (nat_lt x y)
word_meaning word.LessOrEqual x y = truth_word (nat_le x y)
word_meaning word.Greater x y = truth_word (nat_lt y x)
word_meaning word.GreaterOrEqual x y = truth_word (nat_le y x)
word_meaning word.And x y = bit_and x y
word_meaning word.Or x y = bit_or x y
word_meaning word.Xor x y = bit_xor x y

-- the operators that look at a sign; sums, differences and products wrap as those of words do
abbrev pub signed_meaning : OperatorSign → ℕ → ℕ → ℕ
signed_meaning word.Divide x y = signed_quotient x y
signed_meaning word.Remainder x y = signed_remainder x y
signed_meaning word.Less x y = signed_less x y
signed_meaning word.LessOrEqual x y = flipped (signed_less y x)
signed_meaning word.Greater x y = signed_less y x
signed_meaning word.GreaterOrEqual x y = flipped (signed_less x y)
signed_meaning op x y = word_meaning op x y

abbrev pub meaning : BinaryOperator → ℕ → ℕ → ℕ
meaning (Words op) x y = word_meaning op x y
meaning (Ints op) x y = signed_meaning op x y
meaning (Bools truth.Equal) x y = truth_word (nat_eq x y)
meaning (Bools truth.NotEqual) x y = truth_word (not (nat_eq x y))
meaning (Bools truth.And) x y = bit_and x y
meaning (Bools truth.Or) x y = bit_or x y
meaning (Bools truth.Xor) x y = bit_xor x y

-- a number is true where it isn't 0; another cast keeps the word
abbrev pub word_as : (given wanted : DataType) → ℕ → ℕ
word_as Uint64 datatype.Bool x = truth_word (not (x == 0))
word_as Int64 datatype.Bool x = truth_word (not (x == 0))
word_as given wanted x = x

abbrev pub cast_word : Cast → ℕ → ℕ
cast_word c x = word_as c.given c.wanted x

-- ---- operands side by side: a scalar meets every element of an array

abbrev pub result_size : Operands → Value → Value → ℕ
result_size Scalars x y = 1
result_size ScalarAndArray x y = size y
result_size ds x y = size x

abbrev pub are_alike : Operands → Value → Value → Bool
are_alike Arrays x y = nat_eq (size x) (size y)
are_alike ds x y = true

abbrev pub left_words : Operands → Value → Value → List ℕ
left_words ScalarAndArray x y = replicate (size y) (first_word x.words)
left_words ds x y = x.words

abbrev pub right_words : Operands → Value → Value → List ℕ
right_words ArrayAndScalar x y = replicate (size x) (first_word y.words)
right_words ds x y = y.words

abbrev pub result_words : BinaryOperator → Operands → Value → Value → List ℕ
result_words op ds x y = each_two (meaning op) (left_words ds x y) (right_words ds x y)

-- a divisor of 0 is none
abbrev pub may_divide : BinaryOperator → List ℕ → Bool
may_divide (Words word.Divide) divisors = not (list_any (λ x. x == 0) divisors)
may_divide (Words word.Remainder) divisors = not (list_any (λ x. x == 0) divisors)
may_divide (Ints word.Divide) divisors = not (list_any (λ x. x == 0) divisors)
may_divide (Ints word.Remainder) divisors = not (list_any (λ x. x == 0) divisors)
may_divide op divisors = true
