-- The order of signed numbers.
use Rattle.std.proofs.Common.{◌≡◌, ℕ, ◌+◌, ◌%◌, ◌^◌, ◌<◌, ◌≤◌, inl, inr, arith, int_lt, nat_lt, if◌then◌else◌, Bool, true, false, ap, ◌∙◌, sym}
use Rattle.std.proofs.lemmas.Bool.Decides.{nat_tests}
use Rattle.std.proofs.lemmas.Int.{ints, to_z_pos}
use Rattle.proto_core.specs.Rings.{add_ring}
use Rattle.signed_words.specs.Signed.{signed, signed_less, raised}

pub orders_are_raised : (x y : ℕ) → x < 2 ^ 64 → y < 2 ^ 64 → (if nat_lt (raised x) (raised y) then 1 else 0) ≡ signed_less x y
orders_are_raised x y hx hy = grind (arith, ints, nat_tests)
