-- Steps: instructions in which the operator, the operands' dimensions and the kinds are settled.
use Rattle.std.specs.Prelude.{ℕ, Bool, List, Option}
use Rattle.program_trees.specs.declared.expression.DataType.{DataType}
use Rattle.program_trees.specs.declared.kinds.Shape.{Shape}
use Rattle.program_trees.specs.declared.operators.BinaryOperator.{BinaryOperator}
use Rattle.program_trees.specs.declared.operators.Operands.{Operands}
use Rattle.program_trees.specs.declared.operators.Cast as casts
use Rattle.program_trees.specs.Shapes.{shape_of}
use Rattle.bytecode.specs.declared.kind.Kind.{Kind}

-- what a value of a kind is made of, whoever may see it
abbrev pub kind_shape : Kind → Shape
kind_shape kind = shape_of kind.element kind.array

-- A number that says where a value goes or comes from is a register's; a line is that of the construct, for traps.
pub data Step : Type 0 where
  -- a public scalar; a truth value is 1 or 0
  Literal : (to : ℕ) → DataType → (word : ℕ) → Step
  Move Store Not Classify Size Sum Declassify : (to source : ℕ) → Step
  Binary : (line : ℕ) → BinaryOperator → Operands → (to left right : ℕ) → Step
  Cast : casts.Cast → (to source : ℕ) → Step
  Fill : (line to size value : ℕ) → Step
  At : (line to array index : ℕ) → Step
  Put : (line array index value : ℕ) → Step
  Cat : (line to left right : ℕ) → Step
  Bits : (line to source : ℕ) → Step
  Lookup : (line to array index : ℕ) → Step
  -- the input of a name, where one of this kind is wanted
  Argument : (line : ℕ) → Kind → (text : List ℕ) → (to : ℕ) → Step
  Publish : (text : List ℕ) → (source : ℕ) → Step
  Assert : (line condition : ℕ) → Step
  -- goes to the target where the condition is the value
  Branch : (condition : ℕ) → (value : Bool) → (target : ℕ) → Step
  Jump : (target : ℕ) → Step
  -- a call of the function of this place; the result is let go where there is no register for it
  Call : (line function : ℕ) → (to : Option ℕ) → (arguments : List ℕ) → Step
  Return : (source : ℕ) → Step
  ReturnNone : Step

-- a function: how many of its registers, the first, are parameters, what it gives back, its registers' kinds, its steps
pub record Function : Type 0 where
  pub parameters : ℕ
  pub gives : Option Kind
  pub kinds : List Kind
  pub steps : List Step
