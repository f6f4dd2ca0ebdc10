-- What each step of multiplying gives, by what a miner held before and the message that comes.
use Rattle.std.specs.Prelude.{◌≡◌, ℕ, ◌*◌, ◌++◌, List, length}
use Rattle.proto_core.specs.Ring.{Ring}
use Rattle.proto_core.specs.Lists.{part}
use Rattle.proto_core.specs.Elementwise.{plus, minus}
use Rattle.multiply.specs.MulStrand.{Held, product}

-- at the start: the words drawn go to the next miner
pub record Starts (r : Ring) (u v words : List ℕ) (after : Held) (to_next : List ℕ) : Type 0 where
  pub u_masked : after.u ≡ plus r (length u) u (part (length u) 0 words)
  pub v_masked : after.v ≡ plus r (length u) v (part (length u) 1 words)
  pub mask : after.mask ≡ part (length u) 2 words
  pub len : length after.mask ≡ length u
  pub next : to_next ≡ words

-- the previous miner's words came: the factors go to the next miner
pub record Crosses (r : Ring) (before : Held) (message : List ℕ) (after : Held) (to_next : List ℕ) : Type 0 where
  pub fits : length message ≡ 3 * length before.mask
  pub u : after.u ≡ minus r (length before.mask) before.u (part (length before.mask) 0 message)
  pub v : after.v ≡ minus r (length before.mask) before.v (part (length before.mask) 1 message)
  pub mask : after.mask ≡ minus r (length before.mask) before.mask (part (length before.mask) 2 message)
  pub len : length after.mask ≡ length before.mask
  pub next : to_next ≡ after.u ++ after.v

-- the previous miner's factors came
pub record Multiplied (r : Ring) (before : Held) (message product_share : List ℕ) : Type 0 where
  pub fits : length message ≡ 2 * length before.mask
  pub share : product_share ≡ product r (length before.mask) before message
