-- When a message is refused, and what is handed back.
use Rattle.std.specs.Prelude.{◌≡◌, ◌≢◌, ℕ, ◌+◌, ◌<◌, List, length, ◌⊎◌}
use Rattle.proto_core.specs.declared.refused.BadMessage.{BadMessage}
use Rattle.proto_core.specs.declared.refused.BadMessage.TheVariants.{BadLength, NotABit}
use Rattle.proto_core.specs.Lists.{at}
use Rattle.proto_core.specs.declared.refused.Refused.{Refused}

-- the message has a wrong length; the state is as before
pub record WrongLength {S : Type 0} (before : S) (want have : ℕ) (refused : Refused S) : Type 0 where
  pub differs : have ≢ want
  pub state : refused.state ≡ before
  pub cause : refused.cause ≡ BadLength want have

-- all of n words are bits
abbrev pub AreBits : List ℕ → ℕ → ℕ → Type 0
AreBits m from n = (k : ℕ) → k < n → at m (from + k) < 2

-- the first of them that is none
pub record FirstNotABit (m : List ℕ) (from n place : ℕ) : Type 0 where
  pub within : place < n
  pub above : 1 < at m (from + place)
  pub first : AreBits m from place

pub record WrongBit (m : List ℕ) (from n : ℕ) (cause : BadMessage) : Type 0 where
  pub place : ℕ
  pub is_first : FirstNotABit m from n place
  pub is : cause ≡ NotABit (from + place) (at m (from + place))

-- a message of a wrong length, or whose words in this field are not all bits; the state is as before
pub record RefusesBits {S : Type 0} (before : S) (m : List ℕ) (want from n : ℕ) (refused : Refused S) : Type 0 where
  pub state : refused.state ≡ before
  pub why : ((length m ≢ want) × (refused.cause ≡ BadLength want (length m))) ⊎ ((length m ≡ want) × WrongBit m from n refused.cause)
