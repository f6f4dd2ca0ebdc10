-- Worked shares.
use Rattle.std.specs.Prelude.{◌≡◌, ◌-◌, ◌^◌, [], ◌∷◌, true, false, refl}
use Rattle.proto_core.specs.Rings.{add_ring, xor_ring}
use Rattle.proto_core.specs.declared.party.Number.TheVariants.{One, Two, Three}
use Rattle.bit_words.specs.Bits.{number_with, words_with}
use Rattle.bit_words.specs.Gathered.{packed}
use Rattle.value_file.specs.declared.value.DataType.TheVariants.{Bool}
use Rattle.value_file.specs.declared.value.Domain.TheVariants.{Private}
use Rattle.value_file.specs.declared.value.Value.TheVariants.{Integers, Truths}
use Rattle.input_share.specs.Values.{shared_size, shared_words}
use Rattle.input_share.specs.Dealing.{draws_for, share_of}
use Rattle.input_share.specs.AddUp.{sums_of}

-- the number 5 under the masks 2^64 - 1 and 0
number_left : share_of Three add_ring (5 ∷ []) ((2 ^ 64 - 1) ∷ 0 ∷ 1 ∷ []) ≡ 6 ∷ []
number_left = refl

-- true under the masks 6 and 3
truth_left : share_of Three xor_ring (1 ∷ []) (6 ∷ 3 ∷ []) ≡ 4 ∷ []
truth_left = refl

-- three truth values are shared in one word, 65 in two
three_packed : shared_words (Truths (true ∷ false ∷ true ∷ [])) ≡ 5 ∷ []
unfolding packed words_with number_with
three_packed = refl

-- the numbers -1 and 3 in a word each
two_with_a_sign : shared_words (Integers ((2 ^ 64 - 1) ∷ 3 ∷ [])) ≡ 18446744073709551615 ∷ 3 ∷ []
two_with_a_sign = refl

draws_of_65 : draws_for Private (shared_size Bool 65) ≡ 4
draws_of_65 = refl

-- two numbers take two words for the first miner and then two for the second
first_of_two : share_of One add_ring (1 ∷ 2 ∷ []) (10 ∷ 20 ∷ 30 ∷ 40 ∷ []) ≡ 10 ∷ 20 ∷ []
first_of_two = refl

second_of_two : share_of Two add_ring (1 ∷ 2 ∷ []) (10 ∷ 20 ∷ 30 ∷ 40 ∷ []) ≡ 30 ∷ 40 ∷ []
second_of_two = refl

number_told : sums_of add_ring ((2 ^ 64 - 1) ∷ []) (0 ∷ []) (6 ∷ []) ≡ 5 ∷ []
number_told = refl

truth_told : sums_of xor_ring (6 ∷ []) (3 ∷ []) (4 ∷ []) ≡ 1 ∷ []
truth_told = refl
