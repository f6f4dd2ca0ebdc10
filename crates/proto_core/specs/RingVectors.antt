-- Worked values of the two rings.
use Rattle.std.specs.Prelude.{◌≡◌, ◌-◌, ◌^◌, refl}
use Rattle.proto_core.specs.Rings.{add_ring, xor_ring}

sum_wraps : add_ring.add (2 ^ 64 - 1) 2 ≡ 1
sum_wraps = refl

difference_wraps : add_ring.sub 0 1 ≡ 18446744073709551615
difference_wraps = refl

negative_of_zero : add_ring.neg 0 ≡ 0
negative_of_zero = refl

product_wraps : add_ring.mul (2 ^ 63) 3 ≡ 9223372036854775808
product_wraps = refl

sum_by_xor : xor_ring.add 12 10 ≡ 6
sum_by_xor = refl

difference_by_xor : xor_ring.sub 12 10 ≡ 6
difference_by_xor = refl

product_by_and : xor_ring.mul 12 10 ≡ 8
product_by_and = refl

one_of_and : xor_ring.mul 12 xor_ring.one ≡ 12
one_of_and = refl
