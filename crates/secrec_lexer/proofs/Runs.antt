-- Runs of letters, digits and `_`, and the end of a comment.
use Rattle.std.proofs.Common.{◌≡◌, ℕ, zero, suc, ◌+◌, ◌<◌, List, [], ◌∷◌, refl, sym, ap, ◌∙◌, length, take, drop, arith, Bool, true, false, Option}
use Rattle.std.proofs.Common.{Some, None, cond, Result, Ok, Err, get_or, add-one, ◌-◌, length-drop}
use Rattle.std.specs.Prelude.{codes, option_map, IsTrue, MatchResult, IsOk}
use Rattle.std.specs.List.{list_all, prefix_len}
use Rattle.std.specs.Str.{IsAscii, IsUtf8}
use Rattle.std.proofs.lemmas.Bool.Decides.{nat_tests}
use Rattle.std.proofs.lemmas.List.Folds.{length-prefix_len}
use Rattle.std.proofs.lemmas.List.{take_all}
use Rattle.std.proofs.lemmas.Str.{IsUtf8-from_ascii}
use Rattle.std.proofs.Math.Seq.{drop-cons}
use Rattle.sc_text.specs.Name.{is_name_byte}
use Rattle.secrec_lexer.specs.Bytes.{name_run, begins, size_to_close}
use Rattle.secrec_lexer.proofs.Choices.{and_left, and_right}

-- so many bytes from the front are the run
pub take-length-name_run : (bytes : List ℕ) → take (length (name_run bytes)) bytes ≡ name_run bytes
take-length-name_run bytes = ap (λ n. take n bytes) (length-prefix_len is_name_byte bytes)

is_name_byte-small : (byte : ℕ) → is_name_byte byte ≡ true → byte < 128
is_name_byte-small byte h = grind (arith, nat_tests)

names_are_ascii : (bytes : List ℕ) → list_all is_name_byte bytes ≡ true → IsAscii bytes
names_are_ascii [] h i = omega arith
names_are_ascii (byte ∷ more) h zero = is_name_byte-small byte (and_left (is_name_byte byte) (list_all is_name_byte more) h)
names_are_ascii (byte ∷ more) h (suc i) = names_are_ascii more (and_right (is_name_byte byte) (list_all is_name_byte more) h) i

-- letters, digits and `_` are text
pub IsUtf8-names : (bytes : List ℕ) → IsTrue (list_all is_name_byte bytes) → IsUtf8 bytes
IsUtf8-names bytes h = IsUtf8-from_ascii bytes (names_are_ascii bytes h)

-- what is text is read as such
pub read_text : {T E : Type 0} (P : T → Type 0) (Q : E → Type 0) (bytes : List ℕ) (found : Result T E)
    → MatchResult found P (λ e. ¬ (IsUtf8 bytes) × Q e) → IsUtf8 bytes → IsOk found
read_text P Q bytes (Ok text) h utf8 = refl
read_text P Q bytes (Err e) h utf8 = absurd (h.0 utf8)

take_one_more : (n byte : ℕ) (more : List ℕ) → take (1 + n) (byte ∷ more) ≡ byte ∷ take n more
take_one_more n byte more = let e : 1 + n ≡ suc n = omega arith in ap (λ k. take k (byte ∷ more)) e

-- the run has nothing else
pub list_all-name_run : (bytes : List ℕ) → IsTrue (list_all is_name_byte (name_run bytes))
list_all-name_run [] = refl
list_all-name_run (byte ∷ more) = go (is_name_byte byte) refl (list_all-name_run more)
  where
    go : (b : Bool) → is_name_byte byte ≡ b → list_all is_name_byte (name_run more) ≡ true
        → list_all is_name_byte (take (cond b (1 + prefix_len is_name_byte more) 0) (byte ∷ more)) ≡ true
    go true e h = rw (take_one_more (prefix_len is_name_byte more) byte more, e) h
    go false e h = refl

-- what `&bytes[at..]` is
pub rest_from : (bytes : List ℕ) (at : ℕ) → take (length bytes - at) (drop at bytes) ≡ drop at bytes
rest_from bytes at = take_all (length bytes - at) (drop at bytes) (omega (arith, length-drop at bytes))

add_twice : (found : Option ℕ) (at : ℕ) → option_map (λ size. size + at) (option_map (λ size. size + 1) found) ≡ option_map (λ size. size + (at + 1)) found
add_twice None at = refl
add_twice (Some size) at = ap Some (omega arith)

pub size_to_close-here : (bytes : List ℕ) → begins bytes (codes "*/") ≡ true → size_to_close bytes ≡ Some 2
size_to_close-here [] h = cc
size_to_close-here (byte ∷ more) h = rw h

pub size_to_close-next : (byte : ℕ) (more : List ℕ) → begins (byte ∷ more) (codes "*/") ≡ false
    → size_to_close (byte ∷ more) ≡ option_map (λ size. size + 1) (size_to_close more)
size_to_close-next byte more h = rw h

-- one byte further
pub size_to_close-drop : (bytes : List ℕ) (at : ℕ) → at < length bytes → begins (drop at bytes) (codes "*/") ≡ false
    → option_map (λ size. size + at) (size_to_close (drop at bytes)) ≡ option_map (λ size. size + (at + 1)) (size_to_close (drop (at + 1) bytes))
size_to_close-drop bytes at h e =
    let d : drop at bytes ≡ get_or bytes at 0 ∷ drop (at + 1) bytes = rw add-one (drop-cons bytes at 0 h) in
    let f : begins (get_or bytes at 0 ∷ drop (at + 1) bytes) (codes "*/") ≡ false = ap (λ w. begins w (codes "*/")) (sym d) ∙ e in
    ap (λ w. option_map (λ size. size + at) (size_to_close w)) d
    ∙ ap (option_map (λ size. size + at)) (size_to_close-next (get_or bytes at 0) (drop (at + 1) bytes) f)
    ∙ add_twice (size_to_close (drop (at + 1) bytes)) at
