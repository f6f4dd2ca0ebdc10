-- Worked values: 13 by shares 5, 6, 2 with the word 20, whole and negated.
use Rattle.std.specs.Prelude.{◌≡◌, true, false, [], ◌∷◌, ◌++◌, refl}
use Rattle.proto_core.specs.declared.link.Link.TheVariants.{Link12, Link13}
use Rattle.proto_core.specs.declared.party.Number.TheVariants.{One, Two, Three}
use Rattle.proto_core.specs.Lists.{each}
use Rattle.proto_core.specs.Elementwise.{plus, minus, zeros}
use Rattle.proto_core.specs.Protocol.{Joint}
use Rattle.split_share.specs.SplitStrand.{signed_sum}
use Rattle.split_share.specs.Splitting.{split_messages, first_word, second_word, sum_or_difference}
use Rattle.proto_core.specs.Joints.{joint_of}

thirteen : Joint
thirteen = joint_of (5 ∷ []) (6 ∷ []) (2 ∷ []) (20 ∷ []) [] []

on_12 : split_messages 1 thirteen Link12 ≡ (20 ∷ []) ∷ []
unfolding thirteen
on_12 = refl

-- 5 - 20
on_13 : split_messages 1 thirteen Link13 ≡ (18446744073709551601 ∷ []) ∷ []
unfolding thirteen minus each
on_13 = refl

first_shares : first_word 1 thirteen One ++ first_word 1 thirteen Two ++ first_word 1 thirteen Three ≡ 0 ∷ 26 ∷ 0 ∷ []
unfolding thirteen zeros signed_sum each
first_shares = refl

-- 2 - 15
second_shares : second_word false 1 thirteen One ++ second_word false 1 thirteen Two ++ second_word false 1 thirteen Three ≡ 0 ∷ 0 ∷ 18446744073709551603 ∷ []
unfolding thirteen zeros signed_sum minus each
second_shares = refl

negated_share : second_word true 1 thirteen Three ≡ 13 ∷ []
unfolding thirteen signed_sum minus each
negated_share = refl

sum_of_words : sum_or_difference false 1 (26 ∷ []) (18446744073709551603 ∷ []) ≡ 13 ∷ []
unfolding plus each
sum_of_words = refl

difference_of_words : sum_or_difference true 1 (26 ∷ []) (13 ∷ []) ≡ 13 ∷ []
unfolding minus each
difference_of_words = refl
