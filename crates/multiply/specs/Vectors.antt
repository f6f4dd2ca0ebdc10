-- Worked values: 6 times 7 by shares 0, 0, 6 and 0, 0, 7, and rows with masks that are not zero.
use Rattle.std.specs.Prelude.{◌≡◌, [], ◌∷◌, ◌++◌, refl}
use Rattle.proto_core.specs.Rings.{add_ring, xor_ring}
use Rattle.proto_core.specs.declared.party.Number.TheVariants.{One, Two, Three}
use Rattle.proto_core.specs.declared.link.Link.TheVariants.{Link12, Link21, Link23, Link31}
use Rattle.proto_core.specs.Lists.{each, part}
use Rattle.proto_core.specs.Protocol.{Joint}
use Rattle.proto_core.specs.Resharing.{reshared, sum_of_three}
use Rattle.multiply.specs.Products.{times, cross}
use Rattle.proto_core.specs.Parties.{of_three}
use Rattle.multiply.specs.Multiplying.{mul_messages, product_of}

six_times_seven : Joint
six_times_seven =
    record {
      u = of_three (0 ∷ []) (0 ∷ []) (6 ∷ []);
      v = of_three (0 ∷ []) (0 ∷ []) (7 ∷ []);
      words = of_three (0 ∷ 0 ∷ 0 ∷ []) (0 ∷ 0 ∷ 0 ∷ []) (0 ∷ 0 ∷ 0 ∷ []);
    }

-- what the first miner receives
to_first : mul_messages add_ring 1 six_times_seven Link31 ≡ (0 ∷ 0 ∷ 0 ∷ []) ∷ (6 ∷ 7 ∷ []) ∷ []
unfolding six_times_seven reshared each part
to_first = refl

nothing_back : mul_messages add_ring 1 six_times_seven Link21 ≡ []
nothing_back = refl

shares : product_of add_ring 1 six_times_seven One ++ product_of add_ring 1 six_times_seven Two ++ product_of add_ring 1 six_times_seven Three ≡ 0 ∷ 0 ∷ 42 ∷ []
unfolding six_times_seven reshared each part cross
shares = refl

-- u = 1 + 2 + 3 and v = 4 + 5 + 6
with_masks : Joint
with_masks =
    record {
      u = of_three (1 ∷ []) (2 ∷ []) (3 ∷ []);
      v = of_three (4 ∷ []) (5 ∷ []) (6 ∷ []);
      words = of_three (10 ∷ 20 ∷ 30 ∷ []) (1 ∷ 2 ∷ 3 ∷ []) (7 ∷ 8 ∷ 9 ∷ []);
    }

-- 1 + 10 - 7 and 4 + 20 - 8
from_first : mul_messages add_ring 1 with_masks Link12 ≡ (10 ∷ 20 ∷ 30 ∷ []) ∷ (4 ∷ 16 ∷ []) ∷ []
unfolding with_masks reshared each part
from_first = refl

-- 2 + 1 - 10 and 5 + 2 - 20, modulo 2^64
from_second : mul_messages add_ring 1 with_masks Link23 ≡ (1 ∷ 2 ∷ 3 ∷ []) ∷ (18446744073709551609 ∷ 18446744073709551603 ∷ []) ∷ []
unfolding with_masks reshared each part
from_second = refl

value : times add_ring 1 (sum_of_three add_ring 1 (1 ∷ []) (2 ∷ []) (3 ∷ [])) (sum_of_three add_ring 1 (4 ∷ []) (5 ∷ []) (6 ∷ [])) ≡ 90 ∷ []
unfolding times sum_of_three each
value = refl

-- 4 16 + 4 12 + 9 16 + 30 - 9, with the third miner's factors 9 and 12
first_share : product_of add_ring 1 with_masks One ≡ 277 ∷ []
unfolding with_masks reshared each part cross
first_share = refl

-- by `and`: 1 xor 2 xor 3 is 0
first_share_by_and : product_of xor_ring 1 with_masks One ≡ 19 ∷ []
unfolding with_masks reshared each part cross
first_share_by_and = refl
