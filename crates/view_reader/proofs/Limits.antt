-- Numbers with other limits than words have, names, and links.
use Rattle.std.proofs.Common.{◌≡◌, ℕ, ◌+◌, ◌<◌, ◌≤◌, ◌^◌, Bool, true, false, if◌then◌else◌, List, [], ◌∷◌, refl, sym, ◌∙◌, ap, subst, ne_eqb, arith}
use Rattle.std.specs.Prelude.{◌&&◌, ◌==◌, nat_le, length, bytes_eq, Option, Some, None, IfSome, IfNone, Result, Ok, option_and_then}
use Rattle.std.specs.List.{list_all}
use Rattle.std.specs.Fmt.{decimal}
use Rattle.std.specs.Str.{IsUtf8, IsAscii}
use Rattle.std.specs.Str.Parse.{ParsesUnsigned}
use Rattle.std.proofs.lemmas.Bool.Decides.{nat_tests}
use Rattle.std.proofs.lemmas.Fmt.{parse-decimal_wide}
use Rattle.std.proofs.lemmas.Slice.Eq.{bytes_eq-Decides}
use Rattle.std.proofs.lemmas.Str.{IsUtf8-from_ascii}
use Rattle.std.proofs.lemmas.Str.Ascii.{IsAscii-nil, IsAscii-cons}
use Rattle.sc_text.specs.Name.{is_name, is_name_byte}
use Rattle.proto_core.specs.declared.link.Link.{Link}
use Rattle.proto_core.specs.Parties.{link_text}
use Rattle.proto_core.proofs.MessageFields.{first_true, second_true}
use Rattle.view_text.specs.Reading.{below_in, number_in, word_in, name_in, link_in, links, one_of}
use Rattle.view_text.proofs.Decimals.{number_back}
use Rattle.view_text.proofs.Found.{nothing_found, same_found}
use Rattle.view_text.proofs.LinesRead.{below_read, number_read}
use Rattle.view_text.proofs.Lines.{link_back}
use Rattle.view_reader.proofs.Texts.{no_number}

-- ---- lines, below 2^32

narrower : (word : List ℕ) (n : ℕ) → number_in (2 ^ 32) word ≡ Some n → (word_in word ≡ Some n) × (n < 2 ^ 32)
narrower word n h =
    let read = number_read (2 ^ 32) word n h in
    let small : n < 2 ^ 32 = read.1 in (subst (λ w. word_in w ≡ Some n) (sym read.0) (number_back (2 ^ 64) n (omega arith) (omega arith)), small)

pub line_number_some : (word : List ℕ) (n : ℕ) → Some n ≡ word_in word → n ≤ 4294967295 → Some n ≡ number_in (2 ^ 32) word
line_number_some word n h low =
    sym (subst (λ w. number_in (2 ^ 32) w ≡ Some n) (sym (number_read (2 ^ 64) word n (sym h)).0) (number_back (2 ^ 32) n (omega arith) (omega arith)))

pub line_number_large : (word : List ℕ) (n : ℕ) → Some n ≡ word_in word → 4294967295 < n → None ≡ number_in (2 ^ 32) word
line_number_large word n h high = by_answer (number_in (2 ^ 32) word) refl
  where
    by_answer : (o : Option ℕ) → number_in (2 ^ 32) word ≡ o → None ≡ number_in (2 ^ 32) word
    by_answer None e = sym e
    by_answer (Some m) e =
        let read = narrower word m e in
        let small : m < 2 ^ 32 = read.1 in
        let same : n ≡ m = same_found n m (h ∙ read.0) in
        absurd (omega arith)

pub line_number_none : (word : List ℕ) → None ≡ word_in word → None ≡ number_in (2 ^ 32) word
line_number_none word h = by_answer (number_in (2 ^ 32) word) refl
  where
    by_answer : (o : Option ℕ) → number_in (2 ^ 32) word ≡ o → None ≡ number_in (2 ^ 32) word
    by_answer None e = sym e
    by_answer (Some m) e = nothing_found m (h ∙ (narrower word m e).0)

-- ---- by how much a number is below 0, from 1 to 2^63

below_wider : (word : List ℕ) (n : ℕ) → below_in word ≡ Some n → (word_in word ≡ Some n) × (0 < n) × (n ≤ 2 ^ 63)
below_wider word n h =
    let read = below_read word n h in
    let small : n ≤ 2 ^ 63 = read.2 in
    (subst (λ w. word_in w ≡ Some n) (sym read.0) (number_back (2 ^ 64) n (omega arith) (omega arith)), read.1, small)

pub below_some : (word : List ℕ) (n : ℕ) → Some n ≡ word_in word → 0 < n → n ≤ 2 ^ 63 → Some n ≡ below_in word
below_some word n h some low =
    let number : number_in (2 ^ 63 + 1) word ≡ Some n =
    subst (λ w. number_in (2 ^ 63 + 1) w ≡ Some n) (sym (number_read (2 ^ 64) word n (sym h)).0) (number_back (2 ^ 63 + 1) n (omega arith) (omega arith)) in
    sym (ap (option_and_then (λ m. if m == 0 then None else Some m)) number
    ∙ ap (λ b. if b then None else Some n) (ne_eqb n 0 (λ none. omega (arith, some, none))))

pub below_far : (word : List ℕ) (n : ℕ) → Some n ≡ word_in word → (0 < n → n ≤ 2 ^ 63 → ⊥) → None ≡ below_in word
below_far word n h far = by_answer (below_in word) refl
  where
    by_answer : (o : Option ℕ) → below_in word ≡ o → None ≡ below_in word
    by_answer None e = sym e
    by_answer (Some m) e =
        let read = below_wider word m e in
        let same : n ≡ m = same_found n m (h ∙ read.0) in
        absurd (far (subst (λ k. 0 < k) (sym same) read.1) (subst (λ k. k ≤ 2 ^ 63) (sym same) read.2))

pub below_none : (word : List ℕ) → None ≡ word_in word → None ≡ below_in word
below_none word h = by_answer (below_in word) refl
  where
    by_answer : (o : Option ℕ) → below_in word ≡ o → None ≡ below_in word
    by_answer None e = sym e
    by_answer (Some m) e = nothing_found m (h ∙ (below_wider word m e).0)

-- ---- needs, below 2^128

pub need_some : (word : List ℕ) (n : ℕ) → n < 2 ^ 128 → decimal n ≡ word → Some n ≡ number_in (2 ^ 128) word
need_some word n h e = sym (subst (λ w. number_in (2 ^ 128) w ≡ Some n) e (number_back (2 ^ 128) n h (omega arith)))

-- where the number is not parsed to something that prints so, it is none
pub need_none : {E : Type 0} (word : List ℕ) (r : Result ℕ E) → ParsesUnsigned 128 10 word r →
    ((n : ℕ) → r ≡ Ok n → bytes_eq (decimal n) word ≡ false) → None ≡ number_in (2 ^ 128) word
need_none word r parses differs = by_answer (number_in (2 ^ 128) word) refl
  where
    clash : {P : Type 0} → false ≡ true → P
    clash e = cc

    by_answer : (o : Option ℕ) → number_in (2 ^ 128) word ≡ o → None ≡ number_in (2 ^ 128) word
    by_answer None e = sym e
    by_answer (Some n) e =
        let read = number_read (2 ^ 128) word n e in
        let small : n < 2 ^ 128 = read.1 in
        let parsed : r ≡ Ok n = parse-decimal_wide 128 n word r small (omega arith) read.0 parses in
        clash (sym (differs n parsed) ∙ (bytes_eq-Decides (decimal n) word).1 (sym read.0))

pub no_need : (word : List ℕ) → (IsUtf8 word → ⊥) → None ≡ number_in (2 ^ 128) word
no_need word no_text = sym (no_number (2 ^ 128) word (omega arith) no_text)

-- ---- names

byte_low : (b : ℕ) → is_name_byte b ≡ true → b < 128
byte_low b h = grind (arith, nat_tests)

bytes_low : (bs : List ℕ) → list_all is_name_byte bs ≡ true → IsAscii bs
bytes_low [] h = IsAscii-nil
bytes_low (b ∷ bs) h =
    IsAscii-cons b bs (byte_low b (first_true (is_name_byte b) (list_all is_name_byte bs) h))
    (bytes_low bs (second_true (is_name_byte b) (list_all is_name_byte bs) h))

name_text : (word : List ℕ) → is_name word ≡ true → IsUtf8 word
unfolding is_name
name_text word h =
    IsUtf8-from_ascii word (bytes_low word (second_true (nat_le 1 (length word) && nat_le (length word) 64) (list_all is_name_byte word) h))

pub no_name : (word : List ℕ) → (IsUtf8 word → ⊥) → None ≡ name_in word
no_name word no_text = by_test (is_name word) refl
  where
    by_test : (b : Bool) → is_name word ≡ b → None ≡ name_in word
    by_test false e = sym (ap (λ x. if x then Some word else None) e)
    by_test true e = absurd (no_text (name_text word e))

-- ---- links

none_of : {A : Type 0} (text : A → List ℕ) (xs : List A) (word : List ℕ) → ((x : A) → text x ≡ word → ⊥) → one_of text xs word ≡ None
none_of text [] word differs = refl
none_of text (x ∷ xs) word differs = by_test (bytes_eq (text x) word) refl (none_of text xs word differs)
  where
    by_test : (b : Bool) → bytes_eq (text x) word ≡ b → one_of text xs word ≡ None → one_of text (x ∷ xs) word ≡ None
    by_test false e rest = ap (λ t. if t then Some x else one_of text xs word) e ∙ rest
    by_test true e rest = absurd (differs x ((bytes_eq-Decides (text x) word).0 e))

pub link_found : (r : Option Link) (word : List ℕ) → IfSome r (λ link. link_text link ≡ word) →
    IfNone r ((l : Link) → link_text l ≡ word → ⊥) → r ≡ link_in word
link_found (Some l) word found none = sym (subst (λ w. link_in w ≡ Some l) found (link_back l))
link_found None word found none = sym (none_of link_text links word none)
