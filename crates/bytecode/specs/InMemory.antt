-- What code in memory is as raw code.
use Rattle.std.specs.Prelude.{ℕ, map, Bool, Option, None, Some, if◌then◌else◌}
use Rattle.program_trees.specs.declared.operators.OperatorSign.{OperatorSign}
use Rattle.program_trees.specs.declared.operators.OperatorSign.TheVariants as sign
use Rattle.bytecode.specs.declared.instruction.Register.{Register}
use Rattle.bytecode.specs.declared.instruction.Instruction.{Instruction}
use Rattle.bytecode.specs.declared.instruction.Instruction.TheVariants as instructions
use Rattle.bytecode.specs.declared.code.CodeFunction.{CodeFunction}
use Rattle.bytecode.specs.declared.code.Code.{Code}
use Rattle.bytecode.specs.declared.head.Head as heads
use Rattle.bytecode.specs.Decoded.{Head}
use Rattle.bytecode.specs.Raw.{Raw, Literal, Move, Store, Binary, Not, Cast, Classify, Fill, At, Put, Size, Cat, Sum, Bits, Lookup, Declassify, Argument}
use Rattle.bytecode.specs.Raw.{Publish, Assert, Branch, Jump, Call, Return, ReturnNone, RawFunction, RawCode}

-- the byte of an operator's sign
abbrev pub operator_byte : OperatorSign → ℕ
operator_byte sign.Add = 0
operator_byte sign.Subtract = 1
operator_byte sign.Multiply = 2
operator_byte sign.Divide = 3
operator_byte sign.Remainder = 4
operator_byte sign.Equal = 5
operator_byte sign.NotEqual = 6
operator_byte sign.Less = 7
operator_byte sign.LessOrEqual = 8
operator_byte sign.Greater = 9
operator_byte sign.GreaterOrEqual = 10
operator_byte sign.And = 11
operator_byte sign.Or = 12
operator_byte sign.Xor = 13

-- 65535 for none
abbrev pub result_register : Option Register → ℕ
result_register None = 65535
result_register (Some r) = r.0

abbrev pub truth_byte : Bool → ℕ
truth_byte value = if value then 1 else 0

abbrev pub raw_instruction : Instruction → Raw
raw_instruction (instructions.Literal d x) = Literal d.0 x
raw_instruction (instructions.Move d r) = Move d.0 r.0
raw_instruction (instructions.Store d r) = Store d.0 r.0
raw_instruction (instructions.Binary s d a b line) = Binary (operator_byte s) d.0 a.0 b.0 line
raw_instruction (instructions.Not d r) = Not d.0 r.0
raw_instruction (instructions.Cast d r) = Cast d.0 r.0
raw_instruction (instructions.Classify d r) = Classify d.0 r.0
raw_instruction (instructions.Fill d n x line) = Fill d.0 n.0 x.0 line
raw_instruction (instructions.At d a i line) = At d.0 a.0 i.0 line
raw_instruction (instructions.Put a i x line) = Put a.0 i.0 x.0 line
raw_instruction (instructions.Size d r) = Size d.0 r.0
raw_instruction (instructions.Cat d a b line) = Cat d.0 a.0 b.0 line
raw_instruction (instructions.Sum d r) = Sum d.0 r.0
raw_instruction (instructions.Bits d r line) = Bits d.0 r.0 line
raw_instruction (instructions.Lookup d a i line) = Lookup d.0 a.0 i.0 line
raw_instruction (instructions.Declassify d r) = Declassify d.0 r.0
raw_instruction (instructions.Argument d name line) = Argument d.0 name.0 line
raw_instruction (instructions.Publish name r) = Publish name.0 r.0
raw_instruction (instructions.Assert r line) = Assert r.0 line
raw_instruction (instructions.Branch r value target) = Branch r.0 (truth_byte value) target.0
raw_instruction (instructions.Jump target) = Jump target.0
raw_instruction (instructions.Call f d arguments line) = Call f.0 (result_register d) (map (λ r. r.0) arguments.items) line
raw_instruction (instructions.Return r) = Return r.0
raw_instruction instructions.ReturnNone = ReturnNone

abbrev pub raw_function : CodeFunction → RawFunction
raw_function f = record {
  parameters = f.parameters;
  gives = f.gives;
  registers = f.registers.items;
  body = map raw_instruction f.body.items;
}

abbrev pub raw_code : Code → RawCode
raw_code code = record { names = code.names.items; functions = map raw_function code.functions.items }

abbrev pub raw_head : heads.Head → Head
raw_head head = record {
  parameters = head.parameters;
  gives = head.gives;
  registers = head.registers.items;
  instructions = head.instructions;
}
