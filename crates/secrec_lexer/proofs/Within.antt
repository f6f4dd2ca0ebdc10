-- Each piece lies within the text, and takes some of it.
use Rattle.std.proofs.Common.{◌≡◌, ℕ, suc, ◌+◌, ◌<◌, ◌≤◌, List, [], ◌∷◌, refl, sym, subst, length, drop, arith, true, false, Option, Some, None}
use Rattle.std.proofs.Common.{length-drop, add-one}
use Rattle.std.specs.Prelude.{◌==◌, nat_eq, codes, option_map, not}
use Rattle.std.specs.Char.{is_ascii_digit}
use Rattle.std.proofs.lemmas.List.Folds.{length-prefix_len}
use Rattle.std.proofs.lemmas.List.Sums.{prefix_len-le-length}
use Rattle.sc_text.specs.Name.{is_name, is_name_byte}
use Rattle.secrec_lexer.specs.declared.sign.Sign.{Sign}
use Rattle.secrec_lexer.specs.declared.piece.Piece.{Piece}
use Rattle.secrec_lexer.specs.Bytes.{is_blank, is_newline, name_run, first_line, begins, size_to_close}
use Rattle.secrec_lexer.specs.Signs.{single_sign, longer_sign, keyword}
use Rattle.secrec_lexer.specs.Pieces.{comment, word_value, number, word, text, longest, sign, first}
use Rattle.secrec_lexer.specs.inner.Extents.{IsWithin}
use Rattle.std.proofs.lemmas.Bool.{eqb-true}
use Rattle.secrec_lexer.proofs.Choices.{and_left, and_right, split}

name_run-le : (bytes : List ℕ) → length (name_run bytes) ≤ length bytes
name_run-le bytes = rw (length-prefix_len is_name_byte bytes) (prefix_len-le-length is_name_byte bytes)

name_run-some : (byte : ℕ) (more : List ℕ) → is_name_byte byte ≡ true → 0 < length (name_run (byte ∷ more))
name_run-some byte more e = rw (length-prefix_len is_name_byte (byte ∷ more), e) (omega arith)

first_line-le : (bytes : List ℕ) → length (first_line bytes) ≤ length bytes
first_line-le bytes = rw (length-prefix_len (λ b. not (is_newline b)) bytes) (prefix_len-le-length (λ b. not (is_newline b)) bytes)

first_line-some : (byte : ℕ) (more : List ℕ) → is_newline byte ≡ false → 0 < length (first_line (byte ∷ more))
first_line-some byte more e = rw (length-prefix_len (λ b. not (is_newline b)) (byte ∷ more), e) (omega arith)

option_within : ℕ → Option ℕ → Type 0
option_within n None = Unit {0}
option_within n (Some size) = size ≤ n

-- two bytes are begun with by two at least
two : (first second byte : ℕ) (more : List ℕ) → begins (byte ∷ more) (first ∷ second ∷ []) ≡ true → 0 < length more
two first second byte [] e = let f : false ≡ true = and_right (nat_eq first byte) false e in cc
two first second byte (next ∷ more) e = omega arith

option_more : (n : ℕ) (found : Option ℕ) → option_within n found → option_within (n + 1) (option_map (λ size. size + 1) found)
unfolding option_within
option_more n None h = tt
option_more n (Some size) h = omega arith

size_to_close-le : (bytes : List ℕ) → option_within (length bytes) (size_to_close bytes)
unfolding option_within
size_to_close-le [] = tt
size_to_close-le (byte ∷ more) =
    let P : Option ℕ → Type 0 = λ found. option_within (suc (length more)) found in
    split P (begins (byte ∷ more) (codes "*/")) _ _
    (λ e. let h = two 42 47 byte more e in omega arith)
    (λ e. rw (← add-one) (option_more (length more) (size_to_close more) (size_to_close-le more)))

slash_first : (second byte : ℕ) (more : List ℕ) → begins (byte ∷ more) (47 ∷ second ∷ []) ≡ true → is_newline byte ≡ false
slash_first second byte more e = let f : 47 ≡ byte = eqb-true 47 byte (and_left (nat_eq 47 byte) _ e) in rw (← f)

digit_in_name : (byte : ℕ) → is_ascii_digit byte ≡ true → is_name_byte byte ≡ true
digit_in_name byte e = rw e

comment_within : (n : ℕ) (found : Option ℕ) → option_within n found → IsWithin (comment found) (n + 2)
unfolding option_within
comment_within n None h = omega arith
comment_within n (Some size) h = (omega arith, omega arith)

number_within : (n size : ℕ) (found : Option ℕ) → 0 < size → size ≤ n → IsWithin (number found size) n
number_within n size None some le = omega arith
number_within n size (Some value) some le = (some, le, refl)

word_within : (n : ℕ) (bytes : List ℕ) (found : Option Sign) → 0 < length bytes → length bytes ≤ n → IsWithin (word found bytes) n
word_within n bytes (Some sign) some le = (some, le, refl)
word_within n bytes None some le =
    let P : Piece → Type 0 = λ piece. IsWithin piece n in
    split P (is_name bytes) _ _ (λ e. (some, le, refl)) (λ e. omega arith)

text_within : (n : ℕ) (bytes behind : List ℕ) → length bytes + length behind + 1 ≤ n → IsWithin (text bytes behind) n
text_within n bytes [] le = omega arith
text_within n bytes (next ∷ more) le =
    let P : Piece → Type 0 = λ piece. IsWithin piece n in
    split P (next == 34) _ _
    (λ e. split P (is_name bytes) _ _ (λ f. (omega arith, omega arith, refl)) (λ f. omega arith))
    (λ e. split P (next == 10) _ _ (λ f. omega arith) (λ f. omega arith))

longest_within : (sign : Sign) (byte : ℕ) (more : List ℕ) → IsWithin (longest sign (longer_sign sign byte more)) (suc (length more))
longest_within sign byte [] = (omega arith, omega arith, refl)
longest_within sign byte (next ∷ more) = go (longer_sign sign byte (next ∷ more))
  where
    go : (found : Option Sign) → IsWithin (longest sign found) (suc (suc (length more)))
    go None = (omega arith, omega arith, refl)
    go (Some longer) = (omega arith, omega arith, refl)

sign_within : (found : Option Sign) (byte : ℕ) (more : List ℕ) → IsWithin (sign found byte more) (suc (length more))
sign_within None byte more = omega arith
sign_within (Some first) byte more = longest_within first byte more

comment_begun : (byte : ℕ) (more : List ℕ) → begins (byte ∷ more) (codes "/*") ≡ true
    → IsWithin (comment (size_to_close (drop 2 (byte ∷ more)))) (length (byte ∷ more))
comment_begun byte more e =
    let some = two 47 42 byte more e in
    let size : length (drop 1 more) + 2 ≡ suc (length more) = omega (arith, length-drop 1 more) in
    subst (IsWithin (comment (size_to_close (drop 1 more)))) size
    (comment_within (length (drop 1 more)) (size_to_close (drop 1 more)) (size_to_close-le (drop 1 more)))

number_begun : (byte : ℕ) (more : List ℕ) → is_ascii_digit byte ≡ true
    → IsWithin (number (word_value (name_run (byte ∷ more))) (length (name_run (byte ∷ more)))) (length (byte ∷ more))
number_begun byte more e =
    number_within (suc (length more)) (length (name_run (byte ∷ more))) (word_value (name_run (byte ∷ more)))
    (name_run-some byte more (digit_in_name byte e)) (name_run-le (byte ∷ more))

-- a comment that is answered lies within the text
pub comment_lies : (bytes : List ℕ) (byte : ℕ) (more : List ℕ) (piece : Piece) → bytes ≡ byte ∷ more → begins bytes (codes "/*") ≡ true
    → piece ≡ comment (size_to_close (drop 2 bytes)) → IsWithin piece (length bytes)
comment_lies bytes byte more piece e =
    let P : List ℕ → Type 0 = λ w. begins w (codes "/*") ≡ true → piece ≡ comment (size_to_close (drop 2 w)) → IsWithin piece (length w) in
    subst P (sym e) (λ begun is. rw is (comment_begun byte more begun))

-- a number that is answered lies within the text
pub number_lies : (bytes run : List ℕ) (byte : ℕ) (more : List ℕ) (piece : Piece) → bytes ≡ byte ∷ more → run ≡ name_run bytes
    → is_ascii_digit byte ≡ true → piece ≡ number (word_value run) (length run) → IsWithin piece (length bytes)
number_lies bytes run byte more piece e =
    let P : List ℕ → Type 0 = λ w. run ≡ name_run w → is_ascii_digit byte ≡ true → piece ≡ number (word_value run) (length run) → IsWithin piece (length w) in
    subst P (sym e) (λ f digit is. rw (is, f) (number_begun byte more digit))

run_and_rest : (bytes : List ℕ) → length (name_run bytes) + length (drop (length (name_run bytes)) bytes) ≡ length bytes
run_and_rest bytes = let h = name_run-le bytes in omega (arith, length-drop (length (name_run bytes)) bytes)

pub first_within : (bytes : List ℕ) → IsWithin (first bytes) (length bytes)
first_within [] = tt
first_within (byte ∷ more) =
    let P : Piece → Type 0 = λ piece. IsWithin piece (suc (length more)) in
    split P (is_blank byte) _ _ (λ e. (omega arith, omega arith)) (λ blank.
    split P (begins (byte ∷ more) (codes "//")) _ _
    (λ e. (first_line-some byte more (slash_first 47 byte more e), first_line-le (byte ∷ more))) (λ line.
    split P (begins (byte ∷ more) (codes "/*")) _ _
    (λ e. comment_begun byte more e) (λ many.
    split P (is_ascii_digit byte) _ _
    (λ e. number_begun byte more e) (λ digit.
    split P (is_name_byte byte) _ _
    (λ e. word_within (suc (length more)) (name_run (byte ∷ more)) (keyword (name_run (byte ∷ more))) (name_run-some byte more e)
    (name_run-le (byte ∷ more))) (λ name.
    split P (byte == 34) _ _
    (λ e. text_within (suc (length more)) (name_run more) (drop (length (name_run more)) more) (let h = run_and_rest more in omega arith))
    (λ quote. sign_within (single_sign byte) byte more))))))
