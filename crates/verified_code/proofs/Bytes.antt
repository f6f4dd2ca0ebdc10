-- The sign of an operator's byte is that operator's.
use Rattle.std.proofs.Common.{◌≡◌, refl, true}
use Rattle.std.specs.Prelude.{nat_lt}
use Rattle.program_trees.specs.declared.operators.OperatorSign.{OperatorSign}
use Rattle.program_trees.specs.declared.operators.OperatorSign.TheVariants as sign
use Rattle.bytecode.specs.InMemory.{operator_byte}
use Rattle.verified_code.specs.Fitting.{word_operator_at}

pub sign_back : (s : OperatorSign) → word_operator_at (operator_byte s) ≡ s
sign_back sign.Add = refl
sign_back sign.Subtract = refl
sign_back sign.Multiply = refl
sign_back sign.Divide = refl
sign_back sign.Remainder = refl
sign_back sign.Equal = refl
sign_back sign.NotEqual = refl
sign_back sign.Less = refl
sign_back sign.LessOrEqual = refl
sign_back sign.Greater = refl
sign_back sign.GreaterOrEqual = refl
sign_back sign.And = refl
sign_back sign.Or = refl
sign_back sign.Xor = refl

pub byte_low : (s : OperatorSign) → nat_lt (operator_byte s) 14 ≡ true
byte_low sign.Add = refl
byte_low sign.Subtract = refl
byte_low sign.Multiply = refl
byte_low sign.Divide = refl
byte_low sign.Remainder = refl
byte_low sign.Equal = refl
byte_low sign.NotEqual = refl
byte_low sign.Less = refl
byte_low sign.LessOrEqual = refl
byte_low sign.Greater = refl
byte_low sign.GreaterOrEqual = refl
byte_low sign.And = refl
byte_low sign.Or = refl
byte_low sign.Xor = refl
