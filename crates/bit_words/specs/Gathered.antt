-- Truth values packed into words, and what is done with them there.
use Rattle.std.specs.Prelude.{ℕ, ◌+◌, ◌-◌, ◌*◌, ◌%◌, ◌^◌, bit_xor, ◌==◌, nat_lt, if◌then◌else◌, List, [], ◌∷◌, length, map, get_or}
use Rattle.std.specs.List.{range_with_len}
use Rattle.std.specs.Int.{bit_at}
use Rattle.bit_words.specs.Bits.{bit_of, words_with}

-- the word at an index
abbrev pub word : List ℕ → ℕ → ℕ
word xs k = get_or xs k 0

-- bit 0 of each word, one after another
unfoldable pub packed : List ℕ → List ℕ
packed xs = words_with (length xs) (word xs)

-- the first n bits, each as a word of its own
unfoldable pub unpacked : List ℕ → ℕ → List ℕ
unpacked words n = map (bit_of words) (range_with_len 0 n)

-- bit 0, n times
unfoldable pub bits_repeated : List ℕ → ℕ → List ℕ
bits_repeated words n = words_with n (λ k. bit_of words 0)

-- one bit, as a word
unfoldable pub bit_taken : List ℕ → ℕ → List ℕ
bit_taken words i = bit_of words i ∷ []

-- the bits of words, but for another one at a place
abbrev pub changed_at : List ℕ → (place bit k : ℕ) → ℕ
changed_at words i bit k = if k == i then bit else bit_of words k

-- a word with the bit at a place given anew, by another's parity
abbrev pub with_bit : (word place bit : ℕ) → ℕ
with_bit x p b = bit_xor x ((bit_at x p + b) % 2 * 2 ^ p)

-- one bit given anew by bit 0 of others; all other bits stay, those beyond the elements too
unfoldable pub bit_put : List ℕ → ℕ → List ℕ → List ℕ
bit_put words i others = words_with (64 * length words) (changed_at words i (bit_of others 0))

-- the first n bits of the ones, and then those of the others
abbrev pub joined_at : List ℕ → ℕ → List ℕ → (k : ℕ) → ℕ
joined_at words n others k = if nat_lt k n then bit_of words k else bit_of others (k - n)

-- the first n bits of the ones, followed by the first m of the others
unfoldable pub bits_joined : List ℕ → ℕ → List ℕ → ℕ → List ℕ
bits_joined words n others m = words_with (n + m) (joined_at words n others)
