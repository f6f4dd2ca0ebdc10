-- Lists of words of three miners.
use Rattle.std.specs.Prelude.{ℕ, List}

pub record ThreeLists : Type 0 where
  pub first : List ℕ
  pub second : List ℕ
  pub third : List ℕ

-- shares of the operands, and words
pub record Parts : Type 0 where
  pub u : ThreeLists
  pub v : ThreeLists
  pub words : ThreeLists
