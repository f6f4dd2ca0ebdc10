-- Lists of words as bits, 64 in each word: bit k stands in word k div 64, at place k mod 64.
use Rattle.std.specs.Prelude.{ℕ, zero, suc, ◌+◌, ◌*◌, ◌/◌, ◌%◌, ◌^◌, nat_lt, if◌then◌else◌, List, map, get_or}
use Rattle.std.specs.List.{range_with_len}
use Rattle.std.specs.Int.{bit_at}

-- how many words hold n bits
abbrev pub words_for : ℕ → ℕ
words_for n = (n + 63) / 64

-- bit k of the words, and 0 past their end
abbrev pub bit_of : List ℕ → ℕ → ℕ
bit_of words k = bit_at (get_or words (k / 64) 0) (k % 64)

-- the number of n bits, each the parity of what stands at its place
unfoldable pub number_with : ℕ → (ℕ → ℕ) → ℕ
number_with zero bits = 0
number_with (suc n) bits = bits n % 2 * 2 ^ n + number_with n bits

-- n bits, followed by zeros
abbrev pub cut_at : ℕ → (ℕ → ℕ) → ℕ → ℕ
cut_at n bits k = if nat_lt k n then bits k else 0

-- word j of n bits
abbrev pub word_with : ℕ → (ℕ → ℕ) → ℕ → ℕ
word_with n bits j = number_with 64 (λ k. cut_at n bits (64 * j + k))

-- the words of n bits; what the last word has beyond them is 0
unfoldable pub words_with : ℕ → (ℕ → ℕ) → List ℕ
words_with n bits = map (word_with n bits) (range_with_len 0 (words_for n))
