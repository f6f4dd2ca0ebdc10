-- Where a value may go, and what the operators of a typed tree take.
use Rattle.std.specs.Prelude.{◌≡◌, Bool, true, false, Some}
use Rattle.program_trees.specs.declared.expression.DataType.{DataType}
use Rattle.program_trees.specs.declared.expression.DataType.TheVariants.{Uint64, Int64}
use Rattle.program_trees.specs.declared.expression.DataType.TheVariants as datatype
use Rattle.program_trees.specs.declared.kinds.Shape.{Shape}
use Rattle.program_trees.specs.declared.operators.OperatorSign.{OperatorSign}
use Rattle.program_trees.specs.declared.operators.OperatorSign.TheVariants as word
use Rattle.program_trees.specs.declared.operators.BinaryOperator.{BinaryOperator}
use Rattle.program_trees.specs.declared.operators.BinaryOperator.TheVariants.{Words, Ints, Bools}
use Rattle.program_trees.specs.declared.operators.Operands.{Operands}
use Rattle.program_trees.specs.declared.operators.Operands.TheVariants.{Scalars, ArrayAndScalar, ScalarAndArray, Arrays}
use Rattle.program_trees.specs.Operators.{on_ints}
use Rattle.program_trees.specs.Shapes.{shape_of}
use Rattle.reached_instances.specs.declared.instance.BoundDomain.{BoundDomain}
use Rattle.reached_instances.specs.declared.instance.BoundDomain.TheVariants.{Public, Private}

abbrev pub scalar : DataType → Shape
scalar element = shape_of element false

abbrev pub array : DataType → Shape
array element = shape_of element true

-- numbers, with or without a sign
abbrev pub IsNumber : DataType → Type 0
IsNumber Uint64 = Unit {0}
IsNumber Int64 = Unit {0}
IsNumber datatype.Bool = ⊥

-- WHO MAY SEE WHAT

-- a value of the one domain may go where the other is wanted: a public one anywhere, a private one to its own domain
abbrev pub GoesTo : (given wanted : BoundDomain) → Type 0
GoesTo Public wanted = Unit {0}
GoesTo (Private k) Public = ⊥
GoesTo (Private k) (Private m) = k ≡ m

-- two operands meet where one of them is public, or both are of one private domain
abbrev pub Meet : BoundDomain → BoundDomain → Type 0
Meet Public d = Unit {0}
Meet (Private k) Public = Unit {0}
Meet (Private k) (Private m) = k ≡ m

-- OPERATORS

abbrev pub operand_of : BinaryOperator → DataType
operand_of (Words op) = Uint64
operand_of (Ints op) = Int64
operand_of (Bools op) = datatype.Bool

-- division, and work on words bit by bit, are for public operands
abbrev pub is_for_public : OperatorSign → Bool
is_for_public word.Add = false
is_for_public word.Subtract = false
is_for_public word.Multiply = false
is_for_public word.Divide = true
is_for_public word.Remainder = true
is_for_public word.Equal = false
is_for_public word.NotEqual = false
is_for_public word.Less = false
is_for_public word.LessOrEqual = false
is_for_public word.Greater = false
is_for_public word.GreaterOrEqual = false
is_for_public word.And = true
is_for_public word.Or = true
is_for_public word.Xor = true

-- an operator may be used where its result has this domain; numbers with a sign are not worked on bit by bit
abbrev pub MayOperate : BinaryOperator → BoundDomain → Type 0
MayOperate (Words op) d = is_for_public op ≡ true → d ≡ Public
MayOperate (Ints op) d = (on_ints op ≡ Some op) × (is_for_public op ≡ true → d ≡ Public)
MayOperate (Bools op) d = Unit {0}

abbrev pub left_is_array : Operands → Bool
left_is_array Scalars = false
left_is_array ArrayAndScalar = true
left_is_array ScalarAndArray = false
left_is_array Arrays = true

abbrev pub right_is_array : Operands → Bool
right_is_array Scalars = false
right_is_array ArrayAndScalar = false
right_is_array ScalarAndArray = true
right_is_array Arrays = true
