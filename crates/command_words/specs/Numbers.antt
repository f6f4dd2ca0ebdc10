-- Numbers, miners and seeds as text.
use Rattle.std.specs.Prelude.{ℕ, Bool, List, [], ◌∷◌, length, ◌&&◌, ◌||◌, ◌==◌, ◌^◌, nat_lt, nat_le, if◌then◌else◌, Option, Some, None, option_and_then}
use Rattle.std.specs.List.{find, list_all}
use Rattle.std.specs.Result.{result_ok}
use Rattle.std.specs.Char.{is_ascii_digit}
use Rattle.std.specs.Str.Parse.{digits_value}
use Rattle.hex.specs.Hex.{decode_sized}
use Rattle.proto_core.specs.declared.party.Number.{Number}
use Rattle.proto_core.specs.declared.party.Number.TheVariants.{One, Two, Three}
use Rattle.proto_core.specs.Parties.{count_of}

-- decimal digits with a value below 2^64: no sign, and leading zeros are fine
unfoldable pub number_of : List ℕ → Option ℕ
number_of text =
    if nat_lt 0 (length text) && list_all is_ascii_digit text && nat_lt (digits_value 10 text) (2 ^ 64)
    then Some (digits_value 10 text) else None

-- decimal digits with the value 1, 2 or 3
unfoldable pub miner_of : List ℕ → Option Number
miner_of text = option_and_then (λ n. find (λ i. n == count_of i) (One ∷ Two ∷ Three ∷ [])) (number_of text)

abbrev pub most_port : ℕ
most_port = 65533

-- the first of three ports that follow one another
abbrev pub port_numbered : ℕ → Option ℕ
port_numbered n = if nat_le 1 n && nat_le n most_port then Some n else None

-- decimal digits with a value from 1 to 65,533
unfoldable pub port_of : List ℕ → Option ℕ
port_of text = option_and_then port_numbered (number_of text)

-- `0` to `9` and `a` to `f`
abbrev pub is_lower_hex : ℕ → Bool
is_lower_hex c = (nat_le 48 c && nat_le c 57) || (nat_le 97 c && nat_le c 102)

-- 64 lower-case hexadecimal digits, as 32 bytes
unfoldable pub seed_of : List ℕ → Option (List ℕ)
seed_of text = if length text == 64 && list_all is_lower_hex text then result_ok (decode_sized text 32) else None
