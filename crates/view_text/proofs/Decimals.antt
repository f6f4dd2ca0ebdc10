-- Numbers in decimal are read again, and have digits alone.
use Rattle.std.proofs.Common.{◌≡◌, ℕ, ◌<◌, ◌≤◌, ◌^◌, Bool, true, false, if◌then◌else◌, List, [], ◌∷◌, ◌++◌, refl, sym, ◌∙◌, ap, subst, arith}
use Rattle.std.specs.Prelude.{◌==◌, ◌&&◌, nat_lt, nat_le, bytes_eq, length, Some, None, Result, Ok}
use Rattle.std.specs.List.{list_all}
use Rattle.std.specs.Fmt.{decimal}
use Rattle.std.specs.Str.Parse.{digits_value, ParsesUnsigned}
use Rattle.std.proofs.lemmas.Slice.Eq.{bytes_eq-Decides}
use Rattle.std.proofs.lemmas.Fmt.{parse-decimal, decimal_is_IsNumeral_wide, decimal_by_steps_wide}
use Rattle.proto_core.proofs.MessageFields.{first_true, second_true}
use Rattle.sc_text.specs.Name.{is_name, is_name_byte}
use Rattle.view_text.specs.Reading.{number_in}
use Rattle.view_text.proofs.Bytes.{Free, eq_self}

lt_true : (a b : ℕ) → a < b → nat_lt a b ≡ true
lt_true a b h = grind arith

lt_is : (a b : ℕ) → nat_lt a b ≡ true → a < b
lt_is a b h = grind arith

pub number_back : (limit n : ℕ) → n < limit → n < 10 ^ 64 → number_in limit (decimal n) ≡ Some n
unfolding number_in
number_back limit n h wide =
    let value : digits_value 10 (decimal n) ≡ n = (decimal_is_IsNumeral_wide n wide).1 in
    ap (λ v. if nat_lt v limit && bytes_eq (decimal v) (decimal n) then Some v else None) value
    ∙ ap (λ b. if b && bytes_eq (decimal n) (decimal n) then Some n else None) (lt_true n limit h)
    ∙ ap (λ b. if b then Some n else None) (eq_self (decimal n))

-- ---- digits

abbrev pub AreDigits : List ℕ → Type 0
AreDigits [] = Unit {0}
AreDigits (x ∷ xs) = (48 ≤ x) × (x < 58) × AreDigits xs

digits_append : (xs ys : List ℕ) → AreDigits xs → AreDigits ys → AreDigits (xs ++ ys)
digits_append [] ys h g = g
digits_append (x ∷ xs) ys h g = (h.0, h.1, digits_append xs ys h.2 g)

pub decimal_digits : (n : ℕ) → n < 10 ^ 64 → AreDigits (decimal n)
decimal_digits n h =
    decimal_by_steps_wide (λ n ds. AreDigits ds)
    (λ n small. (omega arith, omega arith, tt))
    (λ n ds big rest. digits_append ds _ rest (omega arith, omega arith, tt))
    n h

not_eq : (x c : ℕ) → c < x → (x == c) ≡ false
not_eq x c h = grind arith

pub digits_free : (c : ℕ) (xs : List ℕ) → c < 48 → AreDigits xs → Free c xs
digits_free c [] small h = tt
digits_free c (x ∷ xs) small h = (not_eq x c (omega arith), digits_free c xs small h.2)

pub decimal_free : (c n : ℕ) → c < 48 → n < 10 ^ 64 → Free c (decimal n)
decimal_free c n small h = digits_free c (decimal n) small (decimal_digits n h)

-- ---- names

eq_is : (x c : ℕ) → (x == c) ≡ true → x ≡ c
eq_is x c h = grind arith

clash : {P : Type 0} → false ≡ true → P
clash e = cc

byte_free : (c x : ℕ) → is_name_byte c ≡ false → is_name_byte x ≡ true → (x == c) ≡ false
byte_free c x not is = by_test (x == c) refl
  where
    by_test : (b : Bool) → (x == c) ≡ b → (x == c) ≡ false
    by_test false e = e
    by_test true e = clash (sym not ∙ ap is_name_byte (sym (eq_is x c e)) ∙ is)

all_free : (c : ℕ) → is_name_byte c ≡ false → (xs : List ℕ) → list_all is_name_byte xs ≡ true → Free c xs
all_free c not [] h = tt
all_free c not (x ∷ xs) h = (
  byte_free c x not (first_true (is_name_byte x) (list_all is_name_byte xs) h),
  all_free c not xs (second_true (is_name_byte x) (list_all is_name_byte xs) h),
)

pub name_free : (c : ℕ) → is_name_byte c ≡ false → (xs : List ℕ) → is_name xs ≡ true → Free c xs
unfolding is_name
name_free c not xs h = all_free c not xs (second_true (nat_le 1 (length xs) && nat_le (length xs) 64) (list_all is_name_byte xs) h)

-- ---- reading by `parse`

-- where the number is not parsed to something that prints so, it is none
pub number_none : {E : Type 0} (bs : List ℕ) (r : Result ℕ E) → ParsesUnsigned 64 10 bs r →
    ((n : ℕ) → r ≡ Ok n → bytes_eq (decimal n) bs ≡ false) → number_in (2 ^ 64) bs ≡ None
unfolding number_in
number_none bs r parses differs = by_test (nat_lt (digits_value 10 bs) (2 ^ 64)) (bytes_eq (decimal (digits_value 10 bs)) bs) refl refl
  where
    by_test : (a b : Bool) → nat_lt (digits_value 10 bs) (2 ^ 64) ≡ a → bytes_eq (decimal (digits_value 10 bs)) bs ≡ b →
        (if nat_lt (digits_value 10 bs) (2 ^ 64) && bytes_eq (decimal (digits_value 10 bs)) bs then Some (digits_value 10 bs) else None) ≡ None
    by_test false b e f = ap (λ x. if x && bytes_eq (decimal (digits_value 10 bs)) bs then Some (digits_value 10 bs) else None) e
    by_test true false e f =
        ap (λ x. if x && bytes_eq (decimal (digits_value 10 bs)) bs then Some (digits_value 10 bs) else None) e
        ∙ ap (λ x. if x then Some (digits_value 10 bs) else None) f
    by_test true true e f =
        let small : digits_value 10 bs < 2 ^ 64 = lt_is _ _ e in
        let same : bs ≡ decimal (digits_value 10 bs) = sym ((bytes_eq-Decides (decimal (digits_value 10 bs)) bs).0 f) in
        let read : r ≡ Ok (digits_value 10 bs) = parse-decimal 64 (digits_value 10 bs) bs r small small same parses in
        clash (sym (differs (digits_value 10 bs) read) ∙ f)

pub number_some : (bs : List ℕ) (n : ℕ) → n < 2 ^ 64 → decimal n ≡ bs → number_in (2 ^ 64) bs ≡ Some n
number_some bs n h e = subst (λ v. number_in (2 ^ 64) v ≡ Some n) e (number_back (2 ^ 64) n h (omega arith))
