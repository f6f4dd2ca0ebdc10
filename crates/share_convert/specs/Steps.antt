-- What each step of converting gives, by what a miner held before and the message that comes.
use Rattle.std.specs.Prelude.{◌≡◌, ◌≢◌, ℕ, ◌*◌, ◌++◌, ◌⊎◌, List, [], length}
use Rattle.proto_core.specs.Rings.{add_ring}
use Rattle.proto_core.specs.declared.refused.BadMessage.{BadMessage}
use Rattle.proto_core.specs.declared.refused.BadMessage.TheVariants.{BadLength}
use Rattle.proto_core.specs.Elementwise.{plus, minus, zeros}
use Rattle.proto_core.specs.Lists.{part}
use Rattle.proto_core.specs.Refusals.{AreBits, WrongBit}
use Rattle.proto_core.specs.Resharing.{reshared}
use Rattle.share_convert.specs.Bits.{xor_bits, one_less_where, negative_where}
use Rattle.share_convert.specs.ConvStrand.{Held, a_of, to_two, to_three}

-- a message of so many words, of which those of the bit field are bits
pub record HasBits (message : List ℕ) (want from n : ℕ) : Type 0 where
  pub len : length message ≡ want
  pub bits : AreBits message from n

-- why it is none
abbrev pub LacksBits : (message : List ℕ) (want from n : ℕ) → BadMessage → Type 0
LacksBits message want from n cause =
    ((length message ≢ want) × (cause ≡ BadLength want (length message)))
    ⊎ ((length message ≡ want) × WrongBit message from n cause)

-- ---- miner 1

pub record OneStarts (u words : List ℕ) (after : Held) (message12 message13 : List ℕ) : Type 0 where
  pub mask : after.mask ≡ a_of (length u) words
  pub len : length after.mask ≡ length u
  pub bits : after.bits ≡ []
  pub word : after.word ≡ []
  pub second : message12 ≡ to_two (length u) words
  pub third : message13 ≡ to_three (length u) u words

pub record Got31 (before : Held) (message share : List ℕ) : Type 0 where
  pub fits : length message ≡ length before.mask
  pub made : share ≡ reshared add_ring (length before.mask) (zeros add_ring (length before.mask)) before.mask message

-- ---- miner 2

pub record Got12 (before : Held) (message : List ℕ) (after : Held) (reply : List ℕ) : Type 0 where
  pub fits : HasBits message (3 * length before.mask) (length before.mask) (length before.mask)
  pub bits : after.bits ≡ xor_bits (length before.mask) (part (length before.mask) 1 message) before.bits
  pub word : after.word ≡ part (length before.mask) 0 message
  pub mask : after.mask ≡ minus add_ring (length before.mask) before.mask (part (length before.mask) 2 message)
  pub len : length after.mask ≡ length before.mask
  pub sent : reply ≡ after.bits ++ before.mask

pub record Got32 (before : Held) (message share : List ℕ) : Type 0 where
  pub fits : HasBits message (length before.mask) 0 (length before.mask)
  pub made :
      share
      ≡ plus add_ring (length before.mask)
      (one_less_where (length before.mask) (xor_bits (length before.mask) before.bits message) before.word) before.mask

-- ---- miner 3

pub record Got13 (before : Held) (message : List ℕ) (after : Held) (reply : List ℕ) : Type 0 where
  pub fits : HasBits message (2 * length before.mask) (length before.mask) (length before.mask)
  pub bits : after.bits ≡ xor_bits (length before.mask) (part (length before.mask) 1 message) before.bits
  pub word : after.word ≡ part (length before.mask) 0 message
  pub mask : after.mask ≡ before.mask
  pub sent : reply ≡ after.bits

pub record Got23 (before : Held) (message share : List ℕ) : Type 0 where
  pub fits : HasBits message (2 * length before.mask) 0 (length before.mask)
  pub made :
      share
      ≡ reshared add_ring (length before.mask)
      (negative_where (length before.mask) (xor_bits (length before.mask) (part (length before.mask) 0 message) before.bits) before.word)
      before.mask
      (part (length before.mask) 1 message)
