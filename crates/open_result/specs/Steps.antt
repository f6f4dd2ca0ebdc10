-- What a miner that opens holds, and what each of its steps gives. A state is the miner's share and its mask; once the
-- previous miner's mask came, its new share, and the previous miner's once that came.
use Rattle.std.specs.Prelude.{◌≡◌, ℕ, List, length}
use Rattle.proto_core.specs.Ring.{Ring}
use Rattle.proto_core.specs.declared.party.Number.{Number}
use Rattle.proto_core.specs.Strand.{Strand}
use Rattle.proto_core.specs.Resharing.{reshared, sum_of_three}
use Rattle.open_result.specs.Opening.{open_masked, open_sends, open_from_previous, open_from_next, open_ends}

-- ---- what is left of a miner's part, and what it does with the message that comes

abbrev pub left_masked : Ring → Number → List ℕ × List ℕ → Strand (List (List ℕ))
left_masked r i state = open_masked r (length state.0) i state.0 state.1

abbrev pub after_masked : Ring → Number → List ℕ × List ℕ → List ℕ → Strand (List (List ℕ))
after_masked r i state message = open_sends r (length state.0) i (reshared r (length state.0) state.0 state.1 message)

abbrev pub left_from_previous : Ring → Number → List ℕ × List ℕ → Strand (List (List ℕ))
left_from_previous r i state = open_from_previous r (length state.0) i state.0

abbrev pub after_from_previous : Ring → Number → List ℕ × List ℕ → List ℕ → Strand (List (List ℕ))
after_from_previous r i state message = open_from_next r (length state.0) i state.0 message

abbrev pub left_from_next : Ring → Number → List ℕ × List ℕ → Strand (List (List ℕ))
left_from_next r i state = open_from_next r (length state.0) i state.0 state.1

abbrev pub after_from_next : Ring → List ℕ × List ℕ → List ℕ → Strand (List (List ℕ))
after_from_next r state message = open_ends (sum_of_three r (length state.0) state.0 state.1 message)

-- ---- what the steps give

-- the previous miner's mask came: the new share goes to both others
pub record Masks (r : Ring) (before : List ℕ × List ℕ) (message : List ℕ) (after : List ℕ × List ℕ) (to_next to_previous : List ℕ) : Type 0 where
  pub fits : length message ≡ length before.0
  pub share : after.0 ≡ reshared r (length before.0) before.0 before.1 message
  pub len : length after.0 ≡ length before.0
  pub next : to_next ≡ after.0
  pub previous : to_previous ≡ after.0

-- the previous miner's new share came
pub record Keeps (before : List ℕ × List ℕ) (message : List ℕ) (after : List ℕ × List ℕ) : Type 0 where
  pub fits : length message ≡ length before.0
  pub share : after.0 ≡ before.0
  pub other : after.1 ≡ message

-- the next miner's new share came
pub record Sums (r : Ring) (before : List ℕ × List ℕ) (message opened : List ℕ) : Type 0 where
  pub fits : length message ≡ length before.0
  pub sum : opened ≡ sum_of_three r (length before.0) before.0 before.1 message
