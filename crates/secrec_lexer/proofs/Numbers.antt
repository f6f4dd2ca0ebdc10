-- What `from_str_radix` reads is what the definition spells.
use Rattle.std.proofs.Common.{◌≡◌, ℕ, ◌<◌, ◌^◌, List, [], ◌∷◌, refl, sym, subst, length, arith, Bool, true, false, Some, None, cond, Result, Ok, Err}
use Rattle.std.specs.Prelude.{◌&&◌, ◌==◌, nat_lt, IsTrue}
use Rattle.std.specs.List.{list_all}
use Rattle.std.specs.Char.{is_digit, digit_value}
use Rattle.std.specs.Result.{OkIff, result_ok}
use Rattle.std.specs.Str.Parse.{IsNumeral, AllDigits, digits_value, ParsesUnsigned, without_leading_plus}
use Rattle.std.proofs.lemmas.Bool.Decides.{nat_tests, Decides-ltb}
use Rattle.sc_text.specs.Name.{is_name_byte}
use Rattle.secrec_lexer.specs.Pieces.{number_spelled}
use Rattle.secrec_lexer.proofs.Choices.{and_left, and_right, and_both, not_true}

no_plus : (byte : ℕ) → is_name_byte byte ≡ true → byte == 43 ≡ false
no_plus byte h = grind (arith, nat_tests)

-- names have no `+`
without_plus : (bytes : List ℕ) → list_all is_name_byte bytes ≡ true → without_leading_plus bytes ≡ bytes
without_plus [] h = refl
without_plus (byte ∷ more) h = rw (no_plus byte (and_left (is_name_byte byte) (list_all is_name_byte more) h))

all_digits : (radix : ℕ) (digits : List ℕ) → list_all (λ digit. is_digit digit radix) digits ≡ true → AllDigits radix digits
all_digits radix [] h = tt
all_digits radix (digit ∷ more) h = (
  (Decides-ltb (digit_value digit) radix).0 (and_left (is_digit digit radix) (list_all (λ d. is_digit d radix) more) h),
  all_digits radix more (and_right (is_digit digit radix) (list_all (λ d. is_digit d radix) more) h),
)

all_digits_told : (radix : ℕ) (digits : List ℕ) → AllDigits radix digits → list_all (λ digit. is_digit digit radix) digits ≡ true
all_digits_told radix [] h = refl
all_digits_told radix (digit ∷ more) h =
    and_both (is_digit digit radix) (list_all (λ d. is_digit d radix) more) ((Decides-ltb (digit_value digit) radix).1 h.0) (all_digits_told radix more h.1)

-- a numeral below 2^64, as tests
abbrev is_spelled : ℕ → List ℕ → Bool
is_spelled radix digits = nat_lt 0 (length digits) && list_all (λ digit. is_digit digit radix) digits && nat_lt (digits_value radix digits) (2 ^ 64)

spelled_holds : (radix : ℕ) (digits : List ℕ) → is_spelled radix digits ≡ true → IsNumeral radix digits × (digits_value radix digits < 2 ^ 64)
spelled_holds radix digits h =
    let some = nat_lt 0 (length digits) in
    let all = list_all (λ digit. is_digit digit radix) digits in
    let fits = nat_lt (digits_value radix digits) (2 ^ 64) in
    let front = and_left (some && all) fits h in (
      ((Decides-ltb 0 (length digits)).0 (and_left some all front), all_digits radix digits (and_right some all front)),
      (Decides-ltb (digits_value radix digits) (2 ^ 64)).0 (and_right (some && all) fits h),
    )

spelled_told : (radix : ℕ) (digits : List ℕ) → IsNumeral radix digits × (digits_value radix digits < 2 ^ 64) → is_spelled radix digits ≡ true
spelled_told radix digits h =
    let some = nat_lt 0 (length digits) in
    let all = list_all (λ digit. is_digit digit radix) digits in
    let fits = nat_lt (digits_value radix digits) (2 ^ 64) in
    and_both (some && all) fits
    (and_both some all ((Decides-ltb 0 (length digits)).1 h.0.0) (all_digits_told radix digits h.0.1))
    ((Decides-ltb (digits_value radix digits) (2 ^ 64)).1 h.1)

choose : (test : Bool) (value : ℕ) → test ≡ false → cond test (Some value) None ≡ None
choose test value e = rw e

as_read : {E : Type 0} (radix : ℕ) (digits : List ℕ) (found : Result ℕ E)
    → OkIff found (IsNumeral radix digits × (digits_value radix digits < 2 ^ 64)) (digits_value radix digits) → result_ok found ≡ number_spelled radix digits
as_read radix digits (Ok value) h = rw (spelled_told radix digits h.0, h.1)
as_read radix digits (Err e) h =
    sym (choose (is_spelled radix digits) (digits_value radix digits) (not_true (is_spelled radix digits) (λ g. h (spelled_holds radix digits g))))

-- what is read of digits that have no sign
pub number_read : {E : Type 0} (radix : ℕ) (digits : List ℕ) (found : Result ℕ E) → IsTrue (list_all is_name_byte digits)
    → ParsesUnsigned 64 radix digits found → result_ok found ≡ number_spelled radix digits
number_read radix digits found names h =
    let P : List ℕ → Type 0 = λ ds. OkIff found (IsNumeral radix ds × (digits_value radix ds < 2 ^ 64)) (digits_value radix ds) in
    as_read radix digits found (subst P (without_plus digits names) h)
