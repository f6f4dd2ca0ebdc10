-- Worked values: the bit `true` with shares 0, 0, 1, and a row with masks that are not zero.
use Rattle.std.specs.Prelude.{◌≡◌, [], ◌∷◌, ◌++◌, refl}
use Rattle.proto_core.specs.declared.link.Link.TheVariants.{Link12, Link13, Link23, Link31, Link32}
use Rattle.proto_core.specs.declared.party.Number.TheVariants.{One, Two, Three}
use Rattle.proto_core.specs.Elementwise.{zeros}
use Rattle.proto_core.specs.Lists.{each, part}
use Rattle.proto_core.specs.Protocol.{Joint}
use Rattle.proto_core.specs.Resharing.{reshared}
use Rattle.share_convert.specs.Bits.{bits, xor_bits, xor_bits_of_three, bits_less, one_less_where, negative_where}
use Rattle.share_convert.specs.Converting.{conv_messages, converted, two_map, three_map, three_back, flipped}
use Rattle.proto_core.specs.Joints.{joint_of}

-- b, e, m, a are 3, 2, 10, 0
true_bit : Joint
true_bit = joint_of (0 ∷ []) (0 ∷ []) (1 ∷ []) (3 ∷ 2 ∷ 10 ∷ 0 ∷ []) (0 ∷ []) (0 ∷ [])

on_12 : conv_messages 1 true_bit Link12 ≡ (10 ∷ 0 ∷ 0 ∷ []) ∷ []
unfolding true_bit bits part each
on_12 = refl

on_13 : conv_messages 1 true_bit Link13 ≡ (18446744073709551607 ∷ 1 ∷ []) ∷ []
unfolding true_bit bits_less xor_bits part each
on_13 = refl

on_23 : conv_messages 1 true_bit Link23 ≡ (0 ∷ 0 ∷ []) ∷ []
unfolding true_bit xor_bits part each
on_23 = refl

on_32 : conv_messages 1 true_bit Link32 ≡ (0 ∷ []) ∷ []
unfolding true_bit xor_bits_of_three part each
on_32 = refl

on_31 : conv_messages 1 true_bit Link31 ≡ (0 ∷ []) ∷ []
unfolding true_bit
on_31 = refl

shares : converted 1 true_bit One ++ converted 1 true_bit Two ++ converted 1 true_bit Three ≡ 0 ∷ 10 ∷ 18446744073709551607 ∷ []
unfolding true_bit zeros one_less_where negative_where bits_less xor_bits_of_three reshared part each
shares = refl

-- shares 5, 6, 8 of bit 1, whose upper bits are of no meaning
with_masks : Joint
with_masks = joint_of (5 ∷ []) (6 ∷ []) (8 ∷ []) (4 ∷ 7 ∷ 100 ∷ 1000 ∷ []) (30 ∷ []) (2 ∷ [])

masked_shares : converted 1 with_masks One ++ converted 1 with_masks Two ++ converted 1 with_masks Three
    ≡ 998 ∷ 18446744073709550746 ∷ 18446744073709551489 ∷ []
unfolding with_masks zeros one_less_where negative_where bits_less xor_bits_of_three reshared part each
masked_shares = refl

-- the upper bits of b and e stay
map_of_two : two_map 1 (8 ∷ []) (4 ∷ 7 ∷ 100 ∷ 1000 ∷ []) ≡ 5 ∷ 7 ∷ 100 ∷ 1000 ∷ []
unfolding flipped xor_bits part each
map_of_two = refl

map_of_three : three_map 1 (5 ∷ []) (6 ∷ []) (4 ∷ 7 ∷ 100 ∷ 1000 ∷ []) ≡ 5 ∷ 7 ∷ 18446744073709551517 ∷ 1000 ∷ []
unfolding flipped bits_less part each
map_of_three = refl

back_of_three : three_back 1 (5 ∷ []) (6 ∷ []) (5 ∷ 7 ∷ 18446744073709551517 ∷ 1000 ∷ []) ≡ 4 ∷ 7 ∷ 100 ∷ 1000 ∷ []
unfolding flipped bits_less part each
back_of_three = refl
