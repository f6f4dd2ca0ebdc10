-- Worked values: the code of `void main() { }`, and its faults.
use Rattle.std.specs.Prelude.{◌≡◌, ℕ, List, [], ◌∷◌, ◌++◌, take, None, Ok, Err, refl}
use Rattle.bytecode.specs.Raw.{ReturnNone, RawCode}
use Rattle.bytecode.specs.Written.{written_code}
use Rattle.bytecode.specs.Layouts.{Truncated, Trailing, BadTag, BadVersion}
use Rattle.bytecode.specs.Decoded.{decoded, decoded_v1}

abbrev empty_main : RawCode
empty_main = record { names = []; functions = record { parameters = 0; gives = None; registers = []; body = ReturnNone ∷ [] } ∷ [] }

abbrev empty_main_bytes : List ℕ
empty_main_bytes = 83 ∷ 67 ∷ 51 ∷ 80 ∷ 2 ∷ 0 ∷ 0 ∷ 1 ∷ 0 ∷ 0 ∷ 0 ∷ 255 ∷ 0 ∷ 0 ∷ 1 ∷ 0 ∷ 24 ∷ []

pub empty_main-written : written_code empty_main ≡ empty_main_bytes
empty_main-written = refl

pub empty_main-read : decoded empty_main_bytes ≡ Ok empty_main
empty_main-read = refl

pub one_byte_more : decoded (empty_main_bytes ++ 0 ∷ []) ≡ Err (record { kind = Trailing; place = 17 })
one_byte_more = refl

pub one_byte_fewer : decoded (take 16 empty_main_bytes) ≡ Err (record { kind = Truncated; place = 16 })
one_byte_fewer = refl

-- without a function, at the count
pub no_function : decoded (83 ∷ 67 ∷ 51 ∷ 80 ∷ 2 ∷ 0 ∷ 0 ∷ 0 ∷ 0 ∷ []) ≡ Err (record { kind = BadTag; place = 7 })
no_function = refl

pub another_version : decoded (83 ∷ 67 ∷ 51 ∷ 80 ∷ 1 ∷ []) ≡ Err (record { kind = BadVersion; place = 4 })
another_version = refl

-- tag 15 in hexadecimal is none, though it lies between two
pub no_tag : decoded (take 16 empty_main_bytes ++ 0x15 ∷ []) ≡ Err (record { kind = BadTag; place = 16 })
no_tag = refl

-- ---- the first version

abbrev first_bytes : List ℕ
first_bytes = 83 ∷ 67 ∷ 51 ∷ 80 ∷ 1 ∷ 0 ∷ 0 ∷ 1 ∷ 0 ∷ 0 ∷ 0 ∷ 255 ∷ 0 ∷ 0 ∷ 1 ∷ 0 ∷ 24 ∷ []

pub first_read : decoded_v1 first_bytes ≡ Ok empty_main
first_read = refl

pub first_is_no_second : decoded first_bytes ≡ Err (record { kind = BadVersion; place = 4 })
first_is_no_second = refl

pub second_is_no_first : decoded_v1 empty_main_bytes ≡ Err (record { kind = BadVersion; place = 4 })
second_is_no_first = refl
