-- Words as numbers with a sign, by two's complement: a word below 2^63 stands for itself, and another one for itself less 2^64.
use Rattle.std.specs.Prelude.{ℕ, ◌+◌, ◌^◌, ℤ, int_lt, int_div, int_rem, if◌then◌else◌}
use Rattle.std.specs.Int.{w64, cast_signed, cast_unsigned}
use Rattle.proto_core.specs.Rings.{add_ring}

abbrev pub signed : ℕ → ℤ
signed x = cast_signed w64 x

-- the word of a number from -2^63 to 2^63 - 1; -2^63 divided by -1 is 2^63, which has the word of -2^63
abbrev pub word_of : ℤ → ℕ
word_of z = cast_unsigned w64 z

-- whether the first number is less than the second: 1 for yes, 0 for no
abbrev pub signed_less : ℕ → ℕ → ℕ
signed_less x y = if int_lt (signed x) (signed y) then 1 else 0

-- towards 0
abbrev pub signed_quotient : ℕ → ℕ → ℕ
signed_quotient x y = word_of (int_div (signed x) (signed y))

-- with the dividend's sign
abbrev pub signed_remainder : ℕ → ℕ → ℕ
signed_remainder x y = word_of (int_rem (signed x) (signed y))

-- half of all words
abbrev pub half : ℕ
half = 2 ^ 63

-- the word with its sign bit turned, in whose order words stand as signed numbers do
abbrev pub raised : ℕ → ℕ
raised x = add_ring.add x half
