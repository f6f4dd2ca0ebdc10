-- Worked values of single gates, on the values (1, 2^64 - 1) and (3, 5).
use Rattle.std.specs.Prelude.{◌≡◌, [], ◌∷◌, refl, length, take, drop}
use Rattle.gates.specs.declared.ring_kind.RingKind.TheVariants.{Arithmetic, Boolean}
use Rattle.gates.specs.declared.gate.Gate.TheVariants.{Add, Sub, MulPub, Mul, Xor, And, Not, Shl, Shr, Low, Cat, Part, Put, Rep, Sum, Stretch, Tile}
use Rattle.gates.specs.declared.gate.Gate.TheVariants.{SumEach}
use Rattle.gates.specs.declared.gate.Gate.TheVariants.{Pack, Unpack, RepBit, PartBit, PutBit, CatBit}
use Rattle.bit_words.specs.Bits.{words_with, number_with}
use Rattle.bit_words.specs.Gathered.{packed, unpacked, bits_repeated, bit_taken, bit_put, bits_joined}
use Rattle.gates.specs.Clear.{Values, clear_value}
use Rattle.gates.specs.Blocks.{block_sizes}

two : Values
two = (1 ∷ 18446744073709551615 ∷ []) ∷ (3 ∷ 5 ∷ []) ∷ (9 ∷ []) ∷ []

sum_wraps : clear_value [] two (Add 0 1) ≡ 4 ∷ 4 ∷ []
unfolding two
sum_wraps = refl

difference_wraps : clear_value [] two (Sub 0 1) ≡ 18446744073709551614 ∷ 18446744073709551610 ∷ []
unfolding two
difference_wraps = refl

product_wraps : clear_value [] two (Mul 0 1) ≡ 3 ∷ 18446744073709551611 ∷ []
unfolding two
product_wraps = refl

public_product : clear_value [] two (MulPub Arithmetic 1 (2 ∷ 9223372036854775808 ∷ [])) ≡ 6 ∷ 9223372036854775808 ∷ []
unfolding two
public_product = refl

public_mask : clear_value [] two (MulPub Boolean 1 (1 ∷ 4 ∷ [])) ≡ 1 ∷ 4 ∷ []
unfolding two
public_mask = refl

exclusive_or : clear_value [] two (Xor 0 1) ≡ 2 ∷ 18446744073709551610 ∷ []
unfolding two
exclusive_or = refl

conjunction : clear_value [] two (And 0 1) ≡ 1 ∷ 5 ∷ []
unfolding two
conjunction = refl

complement : clear_value [] two (Not 0) ≡ 18446744073709551614 ∷ 0 ∷ []
unfolding two
complement = refl

shifted_up : clear_value [] two (Shl 0 63) ≡ 9223372036854775808 ∷ 9223372036854775808 ∷ []
unfolding two
shifted_up = refl

shifted_down : clear_value [] two (Shr 0 63) ≡ 0 ∷ 1 ∷ []
unfolding two
shifted_down = refl

lowest : clear_value [] two (Low 1) ≡ 1 ∷ 1 ∷ []
unfolding two
lowest = refl

behind : clear_value [] two (Cat 1 2) ≡ 3 ∷ 5 ∷ 9 ∷ []
unfolding two
behind = refl

a_part : clear_value [] two (Part 1 1 1) ≡ 5 ∷ []
unfolding two
a_part = refl

put_there : clear_value [] two (Put 1 1 2) ≡ 3 ∷ 9 ∷ []
unfolding two
put_there = refl

three_times : clear_value [] two (Rep 2 3) ≡ 9 ∷ 9 ∷ 9 ∷ []
unfolding two
three_times = refl

added_up : clear_value [] two (Sum 0) ≡ 0 ∷ []
unfolding two
added_up = refl

each_three_times : clear_value [] two (Stretch 1 3) ≡ 3 ∷ 3 ∷ 3 ∷ 5 ∷ 5 ∷ 5 ∷ []
unfolding two
each_three_times = refl

all_three_times : clear_value [] two (Tile 1 3) ≡ 3 ∷ 5 ∷ 3 ∷ 5 ∷ 3 ∷ 5 ∷ []
unfolding two
all_three_times = refl

part_by_part : clear_value [] ((1 ∷ 2 ∷ 3 ∷ 4 ∷ 5 ∷ 18446744073709551615 ∷ []) ∷ []) (SumEach 0 3 2) ≡ 6 ∷ 8 ∷ []
part_by_part = refl

no_words_in_a_part : clear_value [] ([] ∷ []) (SumEach 0 0 2) ≡ 0 ∷ 0 ∷ []
no_words_in_a_part = refl

-- both words of the second value are odd
packed_bits : clear_value [] two (Pack 1) ≡ 3 ∷ []
unfolding two packed words_with number_with
packed_bits = refl

single_bits : clear_value [] two (Unpack 2 5) ≡ 1 ∷ 0 ∷ 0 ∷ 1 ∷ 0 ∷ []
unfolding two unpacked
single_bits = refl

bit_again : clear_value [] two (RepBit 2 3) ≡ 7 ∷ []
unfolding two bits_repeated words_with number_with
bit_again = refl

-- bit 66 is bit 2 of the second word
one_bit : clear_value [] two (PartBit 1 66) ≡ 1 ∷ []
unfolding two bit_taken
one_bit = refl

bit_given : clear_value [] two (PutBit 1 65 2) ≡ 3 ∷ 7 ∷ []
unfolding two bit_put words_with number_with
bit_given = refl

bits_after_bits : clear_value [] two (CatBit 2 4 2 2) ≡ 25 ∷ []
unfolding two bits_joined words_with number_with
bits_after_bits = refl

blocks_of_513 : block_sizes 513 ≡ 512 ∷ 1 ∷ []
blocks_of_513 = refl

blocks_of_512 : block_sizes 512 ≡ 512 ∷ []
blocks_of_512 = refl

no_blocks : block_sizes 0 ≡ []
no_blocks = refl
