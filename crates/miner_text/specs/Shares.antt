-- A miner's share of a value that is published to the client.
use Rattle.std.specs.Prelude.{ℕ, List}
use Rattle.program_trees.specs.declared.expression.DataType.{DataType}

pub record ResultShare : Type 0 where
  pub name : List ℕ
  pub element : DataType
  -- how many elements it has: a number has a word each, 64 truth values have one
  pub count : ℕ
  pub words : List ℕ
