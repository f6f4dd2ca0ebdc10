-- What is asked of the operands of a row, so that its gates suit the run.
use Rattle.std.specs.Prelude.{◌≡◌, Bool, true, false, IsTrue, length}
use Rattle.program_trees.specs.declared.expression.DataType.{DataType}
use Rattle.program_trees.specs.declared.expression.DataType.TheVariants.{Uint64, Int64}
use Rattle.program_trees.specs.declared.expression.DataType.TheVariants as datatype
use Rattle.program_trees.specs.declared.operators.BinaryOperator.{BinaryOperator}
use Rattle.program_trees.specs.declared.operators.BinaryOperator.TheVariants.{Words, Ints, Bools}
use Rattle.program_trees.specs.declared.operators.Operands.{Operands}
use Rattle.language_model.specs.Values.{Value, is_secret}
use Rattle.language_model.specs.Operations.{is_product}
use Rattle.verified_code.specs.Fitting.{may_be_private, is_number}
use Rattle.code_model.specs.Kinded.{left_array, right_array}
use Rattle.gate_laws.specs.Facts.{IsProper}

abbrev pub element_taken : BinaryOperator → DataType
element_taken (Words op) = Uint64
element_taken (Ints op) = Int64
element_taken (Bools op) = datatype.Bool

-- what may have private operands has gates
abbrev pub has_gates : BinaryOperator → Bool
has_gates = may_be_private

-- both operands are private, or both public, or this is a product; and a private one has gates
abbrev pub secrecy_suits : BinaryOperator → (left right : Bool) → Type 0
secrecy_suits op true true = has_gates op ≡ true
secrecy_suits op true false = is_product op ≡ true
secrecy_suits op false true = is_product op ≡ true
secrecy_suits op false false = Unit {0}

pub record OperandsSuit (op : BinaryOperator) (ds : Operands) (x y : Value) : Type 0 where
  pub left : IsProper x
  pub right : IsProper y
  pub left_element : x.shape.element ≡ element_taken op
  pub right_element : y.shape.element ≡ element_taken op
  pub left_single : left_array ds ≡ false → length x.words ≡ 1
  pub right_single : right_array ds ≡ false → length y.words ≡ 1
  pub secrecy : secrecy_suits op (is_secret x.secrecy) (is_secret y.secrecy)

-- a value of these elements
pub record IsOfElements (e : DataType) (v : Value) : Type 0 where
  pub proper : IsProper v
  pub element : v.shape.element ≡ e

-- a value of numbers, with or without a sign
pub record IsOfNumbers (v : Value) : Type 0 where
  pub proper : IsProper v
  pub numbers : IsTrue (is_number v.shape.element)
