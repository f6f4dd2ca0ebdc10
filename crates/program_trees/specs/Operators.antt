-- Which operator a sign means on operands of one data type, and what it gives.
use Rattle.std.specs.Prelude.{Bool, true, false, Option, Some, None, option_map, option_and_then}
use Rattle.program_trees.specs.declared.expression.DataType.{DataType}
use Rattle.program_trees.specs.declared.expression.DataType.TheVariants.{Uint64, Int64}
use Rattle.program_trees.specs.declared.expression.DataType.TheVariants as datatype
use Rattle.program_trees.specs.declared.expression.Operator.{Operator}
use Rattle.program_trees.specs.declared.expression.Operator.TheVariants as sign
use Rattle.program_trees.specs.declared.kinds.Shape.{Shape}
use Rattle.program_trees.specs.declared.operators.OperatorSign.{OperatorSign}
use Rattle.program_trees.specs.declared.operators.OperatorSign.TheVariants as word
use Rattle.program_trees.specs.declared.operators.BoolOperator.{BoolOperator}
use Rattle.program_trees.specs.declared.operators.BoolOperator.TheVariants as truth
use Rattle.program_trees.specs.declared.operators.BinaryOperator.{BinaryOperator}
use Rattle.program_trees.specs.declared.operators.BinaryOperator.TheVariants.{Words, Ints, Bools}
use Rattle.program_trees.specs.declared.operators.Connective.{Connective}
use Rattle.program_trees.specs.declared.operators.Connective.TheVariants.{AndAlso, OrElse}
use Rattle.program_trees.specs.declared.operators.Operands.{Operands}
use Rattle.program_trees.specs.declared.operators.Operands.TheVariants.{Scalars, ArrayAndScalar, ScalarAndArray, Arrays}
use Rattle.program_trees.specs.declared.operators.Cast.{Cast}
use Rattle.program_trees.specs.Shapes.{shape_of}

abbrev pub word_operator : Operator → Option OperatorSign
word_operator sign.Add = Some word.Add
word_operator sign.Subtract = Some word.Subtract
word_operator sign.Multiply = Some word.Multiply
word_operator sign.Divide = Some word.Divide
word_operator sign.Remainder = Some word.Remainder
word_operator sign.Equal = Some word.Equal
word_operator sign.NotEqual = Some word.NotEqual
word_operator sign.Less = Some word.Less
word_operator sign.LessOrEqual = Some word.LessOrEqual
word_operator sign.Greater = Some word.Greater
word_operator sign.GreaterOrEqual = Some word.GreaterOrEqual
word_operator sign.And = Some word.And
word_operator sign.Or = Some word.Or
word_operator sign.Xor = Some word.Xor
word_operator _ = None

-- numbers with a sign have the signs of words but for those that work bit by bit
abbrev pub on_ints : OperatorSign → Option OperatorSign
on_ints word.And = None
on_ints word.Or = None
on_ints word.Xor = None
on_ints op = Some op

abbrev pub int_operator : Operator → Option OperatorSign
int_operator op = option_and_then on_ints (word_operator op)

-- truth values have five of the signs that words have
abbrev pub on_bools : OperatorSign → Option BoolOperator
on_bools word.Equal = Some truth.Equal
on_bools word.NotEqual = Some truth.NotEqual
on_bools word.And = Some truth.And
on_bools word.Or = Some truth.Or
on_bools word.Xor = Some truth.Xor
on_bools _ = None

-- the sign of an operator
abbrev pub sign_of : BinaryOperator → OperatorSign
sign_of (Words op) = op
sign_of (Ints op) = op
sign_of (Bools truth.Equal) = word.Equal
sign_of (Bools truth.NotEqual) = word.NotEqual
sign_of (Bools truth.And) = word.And
sign_of (Bools truth.Or) = word.Or
sign_of (Bools truth.Xor) = word.Xor

-- `&&` and `||` that can't cut short are `&` and `|`
abbrev pub bool_operator : Operator → Option BoolOperator
bool_operator sign.AndAlso = Some truth.And
bool_operator sign.OrElse = Some truth.Or
bool_operator op = option_and_then on_bools (word_operator op)

abbrev pub operator_on : Operator → DataType → DataType → Option BinaryOperator
operator_on op Uint64 Uint64 = option_map Words (word_operator op)
operator_on op Int64 Int64 = option_map Ints (int_operator op)
operator_on op datatype.Bool datatype.Bool = option_map Bools (bool_operator op)
operator_on op _ _ = None

-- a comparison of numbers gives truth values, and another operator numbers of their type
abbrev pub number_result : DataType → OperatorSign → DataType
number_result t word.Equal = datatype.Bool
number_result t word.NotEqual = datatype.Bool
number_result t word.Less = datatype.Bool
number_result t word.LessOrEqual = datatype.Bool
number_result t word.Greater = datatype.Bool
number_result t word.GreaterOrEqual = datatype.Bool
number_result t _ = t

abbrev pub element_made : BinaryOperator → DataType
element_made (Words op) = number_result Uint64 op
element_made (Ints op) = number_result Int64 op
element_made (Bools op) = datatype.Bool

abbrev pub operands_of : Bool → Bool → Operands
operands_of false false = Scalars
operands_of true false = ArrayAndScalar
operands_of false true = ScalarAndArray
operands_of true true = Arrays

abbrev pub result_shape : BinaryOperator → Operands → Shape
result_shape op Scalars = shape_of (element_made op) false
result_shape op ds = shape_of (element_made op) true

-- a product with a public operand classifies nothing
abbrev pub is_product : BinaryOperator → Bool
is_product (Words word.Multiply) = true
is_product (Ints word.Multiply) = true
is_product (Bools truth.And) = true
is_product op = false

-- the operator that a connective is where both operands are evaluated
abbrev pub connective : Connective → BoolOperator
connective AndAlso = truth.And
connective OrElse = truth.Or

-- `&&` and `||` may cut short between scalars alone
abbrev pub may_cut_short : Operator → Operands → Option Connective
may_cut_short sign.AndAlso Scalars = Some AndAlso
may_cut_short sign.OrElse Scalars = Some OrElse
may_cut_short op ds = None

abbrev pub cast_between : DataType → DataType → Cast
cast_between given wanted = record { given = given; wanted = wanted }

abbrev pub cast_shape : Cast → (array : Bool) → Shape
cast_shape c array = shape_of c.wanted array
