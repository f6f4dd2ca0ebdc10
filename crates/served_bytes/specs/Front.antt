-- What bytes begin with that are still to come.
use Rattle.std.specs.Prelude.{ℕ, List}

-- a value, as a message's words or a hello, with the bytes after it; no such value, by the first place that is wrong; or they end within it
pub data Front (A : Type 0) : Type 0 where
  Whole : (value : A) (rest : List ℕ) → Front A
  Malformed : (place : ℕ) → Front A
  Truncated : Front A

-- what bytes begin with where a message has to come
abbrev pub Framed : Type 0
Framed = Front (List ℕ)
