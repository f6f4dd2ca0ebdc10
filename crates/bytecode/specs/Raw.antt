-- Raw code: instructions with the numbers that the bytes say, and the functions and names beside them.
use Rattle.std.specs.Prelude.{ℕ, List, Option}
use Rattle.bytecode.specs.declared.kind.Kind.{Kind}

-- A number that says where a value goes or comes from is a register's; a line is that of the construct, for traps.
pub data Raw : Type 0 where
  Literal : (to word : ℕ) → Raw
  Move Store Not Cast Classify Size Sum Declassify : (to source : ℕ) → Raw
  Binary : (operator to left right line : ℕ) → Raw
  Fill : (to size value line : ℕ) → Raw
  At : (to array index line : ℕ) → Raw
  Put : (array index value line : ℕ) → Raw
  Cat : (to left right line : ℕ) → Raw
  Bits : (to source line : ℕ) → Raw
  Lookup : (to array index line : ℕ) → Raw
  Argument : (to name line : ℕ) → Raw
  Publish : (name source : ℕ) → Raw
  Assert : (condition line : ℕ) → Raw
  -- goes to the target where the condition is the value, 0 or 1
  Branch : (condition value target : ℕ) → Raw
  Jump : (target : ℕ) → Raw
  -- to is 65535 where no result is wanted
  Call : (function to : ℕ) → (arguments : List ℕ) → (line : ℕ) → Raw
  Return : (source : ℕ) → Raw
  ReturnNone : Raw

-- a function: how many of its registers, the first, are parameters, what it gives back, its registers' kinds, its instructions
pub record RawFunction : Type 0 where
  pub parameters : ℕ
  pub gives : Option Kind
  pub registers : List Kind
  pub body : List Raw

-- the names of arguments and results, and the functions, of which the first is main
pub record RawCode : Type 0 where
  pub names : List (List ℕ)
  pub functions : List RawFunction
