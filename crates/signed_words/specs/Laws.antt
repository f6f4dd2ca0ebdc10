-- What is promised of words with a sign.
use Rattle.std.specs.Prelude.{◌≡◌, ℕ, ◌<◌, ◌^◌, ◌+ℤ◌, ◌-ℤ◌, ◌*ℤ◌, nat_lt, if◌then◌else◌}
use Rattle.std.specs.Int.{w64, int_wrap}
use Rattle.proto_core.specs.Rings.{add_ring}
use Rattle.signed_words.specs.Signed.{signed, signed_less, signed_quotient, signed_remainder, raised}

-- the order of signed numbers is that of their raised words
abbrev pub OrdersAreRaised : Type 0
OrdersAreRaised = (x y : ℕ) → x < 2 ^ 64 → y < 2 ^ 64 → (if nat_lt (raised x) (raised y) then 1 else 0) ≡ signed_less x y

-- the ring's operations wrap as signed numbers do
pub record RingIsSigned : Type 0 where
  pub sums : (x y : ℕ) → x < 2 ^ 64 → y < 2 ^ 64 → signed (add_ring.add x y) ≡ int_wrap w64 (signed x +ℤ signed y)
  pub products : (x y : ℕ) → x < 2 ^ 64 → y < 2 ^ 64 → signed (add_ring.mul x y) ≡ int_wrap w64 (signed x *ℤ signed y)

-- what division gives is a word
pub record QuotientsAreWords : Type 0 where
  pub quotient : (x y : ℕ) → x < 2 ^ 64 → y < 2 ^ 64 → signed_quotient x y < 2 ^ 64
  pub remainder : (x y : ℕ) → x < 2 ^ 64 → y < 2 ^ 64 → signed_remainder x y < 2 ^ 64
