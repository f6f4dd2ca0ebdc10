-- What each step of splitting gives, by what a miner holds and the message that comes.
use Rattle.std.specs.Prelude.{◌≡◌, ℕ, false, List, length}
use Rattle.proto_core.specs.Rings.{add_ring, xor_ring}
use Rattle.proto_core.specs.Elementwise.{minus, zeros}
use Rattle.split_share.specs.SplitStrand.{Held, signed_sum}

-- miner 1 sends both parts of its share, and has shares 0
pub record OneSplits (u words message12 message13 x y : List ℕ) : Type 0 where
  pub second : message12 ≡ words
  pub third : message13 ≡ minus add_ring (length u) u words
  pub first_share : x ≡ zeros xor_ring (length u)
  pub second_share : y ≡ zeros xor_ring (length u)

-- miner 2 has the first word
pub record Got12 (held : Held) (message x y : List ℕ) : Type 0 where
  pub fits : length message ≡ length held.share
  pub first_share : x ≡ signed_sum false (length held.share) held.share message
  pub second_share : y ≡ zeros xor_ring (length held.share)

-- miner 3 has the second word
pub record Got13 (held : Held) (message x y : List ℕ) : Type 0 where
  pub fits : length message ≡ length held.share
  pub first_share : x ≡ zeros xor_ring (length held.share)
  pub second_share : y ≡ signed_sum held.negated (length held.share) held.share message
