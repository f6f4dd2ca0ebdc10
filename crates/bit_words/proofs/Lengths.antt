-- How many words the operations on packed truth values make.
use Rattle.std.proofs.Common.{◌≡◌, ℕ, ◌+◌, ◌*◌, List, length, refl, ◌∙◌, arith}
use Rattle.bit_words.specs.Bits.{words_for, bit_of}
use Rattle.bit_words.specs.Gathered.{bits_repeated, bit_taken, bit_put, bits_joined, changed_at, joined_at}
use Rattle.bit_words.proofs.BitLists.{length-words_with}

pub length-repeated : (words : List ℕ) (n : ℕ) → length (bits_repeated words n) ≡ words_for n
unfolding bits_repeated
length-repeated words n = length-words_with n (λ k. bit_of words 0)

pub length-taken : (words : List ℕ) (i : ℕ) → length (bit_taken words i) ≡ 1
unfolding bit_taken
length-taken words i = refl

whole_words : (n : ℕ) → words_for (64 * n) ≡ n
whole_words n = omega arith

pub length-put : (words : List ℕ) (i : ℕ) (others : List ℕ) → length (bit_put words i others) ≡ length words
unfolding bit_put
length-put words i others =
    length-words_with (64 * length words) (changed_at words i (bit_of others 0)) ∙ whole_words (length words)

pub length-joined : (words : List ℕ) (n : ℕ) (others : List ℕ) (m : ℕ) → length (bits_joined words n others m) ≡ words_for (n + m)
unfolding bits_joined
length-joined words n others m = length-words_with (n + m) (joined_at words n others)
