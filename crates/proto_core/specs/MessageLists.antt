-- A list of messages kept as all their words, one message after another, and the place at which each ends.
use Rattle.std.specs.Prelude.{◌≡◌, ℕ, zero, suc, ◌+◌, ◌-◌, ◌<◌, ◌≤◌, List, length, take, drop, map}
use Rattle.std.specs.List.{range_with_len}
use Rattle.proto_core.specs.Lists.{at}

-- where a message begins: the first at 0, each other one where the one before it ends
abbrev pub start_of : List ℕ → ℕ → ℕ
start_of ends zero = 0
start_of ends (suc k) = at ends k

-- the words from one place to another
abbrev pub between : ℕ → ℕ → List ℕ → List ℕ
between from to words = take (to - from) (drop from words)

unfoldable pub messages_of : List ℕ → List ℕ → List (List ℕ)
messages_of ends words = map (λ k. between (start_of ends k) (at ends k) words) (range_with_len 0 (length ends))

-- a message that begins and ends at these places, of so many words in all, and has at most 2,048
pub record IsPiece (from to total : ℕ) : Type 0 where
  pub rises : from ≤ to
  pub short : to ≤ from + 2048
  pub within : to ≤ total

-- each end is that of a message, and the last one is where the words end
pub record AreEnds (ends words : List ℕ) : Type 0 where
  pub pieces : (k : ℕ) → k < length ends → IsPiece (start_of ends k) (at ends k) (length words)
  pub last : start_of ends (length ends) ≡ length words
