-- Worked values of the definitions on lists.
use Rattle.std.specs.Prelude.{◌≡◌, [], ◌∷◌, refl}
use Rattle.proto_core.specs.Rings.{add_ring, xor_ring}
use Rattle.proto_core.specs.Lists.{each, part}
use Rattle.proto_core.specs.MessageLists.{messages_of}
use Rattle.proto_core.specs.Resharing.{reshared, sum_of_three}

second_field : part 2 1 (10 ∷ 11 ∷ 20 ∷ 21 ∷ 30 ∷ 31 ∷ []) ≡ 20 ∷ 21 ∷ []
unfolding part each
second_field = refl

three_messages : messages_of (2 ∷ 2 ∷ 3 ∷ []) (7 ∷ 8 ∷ 9 ∷ []) ≡ (7 ∷ 8 ∷ []) ∷ [] ∷ (9 ∷ []) ∷ []
unfolding messages_of
three_messages = refl

masked_share : reshared add_ring 2 (5 ∷ 1 ∷ []) (7 ∷ 0 ∷ []) (2 ∷ 18446744073709551615 ∷ []) ≡ 10 ∷ 2 ∷ []
unfolding reshared each
masked_share = refl

masked_by_xor : reshared xor_ring 1 (5 ∷ []) (7 ∷ []) (2 ∷ []) ≡ 0 ∷ []
unfolding reshared each
masked_by_xor = refl

value_of_shares : sum_of_three add_ring 1 (5 ∷ []) (6 ∷ []) (18446744073709551615 ∷ []) ≡ 10 ∷ []
unfolding sum_of_three each
value_of_shares = refl
