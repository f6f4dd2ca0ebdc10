-- What the three miners send, and their shares of the number.
use Rattle.std.specs.Prelude.{◌≡◌, ℕ, List, [], ◌∷◌}
use Rattle.proto_core.specs.declared.link.Link.TheVariants.{Link12, Link13, Link23, Link31, Link32}
use Rattle.proto_core.specs.declared.party.Number.TheVariants.{One, Two, Three}
use Rattle.proto_core.specs.Protocol.{Joint}
use Rattle.share_convert.specs.Converting.{conv_messages, converted}

-- each link's message and each miner's share are the protocol's
pub record AreParts (n : ℕ) (j : Joint) (sent12 sent13 sent23 sent31 sent32 one two three : List ℕ) : Type 0 where
  pub on12 : sent12 ∷ [] ≡ conv_messages n j Link12
  pub on13 : sent13 ∷ [] ≡ conv_messages n j Link13
  pub on23 : sent23 ∷ [] ≡ conv_messages n j Link23
  pub on31 : sent31 ∷ [] ≡ conv_messages n j Link31
  pub on32 : sent32 ∷ [] ≡ conv_messages n j Link32
  pub first : one ≡ converted n j One
  pub second : two ≡ converted n j Two
  pub third : three ≡ converted n j Three
