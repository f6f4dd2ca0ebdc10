-- What the first miner sends, and all shares of the two words.
use Rattle.std.specs.Prelude.{◌≡◌, ℕ, Bool, List, [], ◌∷◌}
use Rattle.proto_core.specs.declared.party.Number.{Number}
use Rattle.proto_core.specs.declared.link.Link.TheVariants.{Link12, Link13}
use Rattle.proto_core.specs.Protocol.{Joint}
use Rattle.split_share.specs.Splitting.{split_messages, first_word, second_word}

-- both messages are the protocol's
pub record AreSent (n : ℕ) (j : Joint) (message12 message13 : List ℕ) : Type 0 where
  pub on12 : message12 ∷ [] ≡ split_messages n j Link12
  pub on13 : message13 ∷ [] ≡ split_messages n j Link13

-- a miner's shares are the protocol's
pub record AreShares (negated : Bool) (n : ℕ) (i : Number) (j : Joint) (x y : List ℕ) : Type 0 where
  pub first : x ≡ first_word n j i
  pub second : y ≡ second_word negated n j i
