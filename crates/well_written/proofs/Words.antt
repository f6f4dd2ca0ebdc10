-- Each number among the tokens of a text is a word.
use Rattle.std.proofs.Common.{◌≡◌, ℕ, ◌+◌, ◌<◌, ◌^◌, List, [], ◌∷◌, ◌++◌, length, drop, refl, subst, Option, Some, None, Bool, true, false, if◌then◌else◌}
use Rattle.std.specs.Prelude.{◌&&◌, ◌==◌, nat_lt, codes}
use Rattle.std.specs.List.{list_all}
use Rattle.std.specs.Char.{is_ascii_digit, is_digit}
use Rattle.std.specs.Str.Parse.{digits_value}
use Rattle.std.proofs.lemmas.Bool.{and_parts}
use Rattle.std.proofs.lemmas.Bool.Decides.{Decides-ltb}
use Rattle.sc_text.specs.Name.{is_name, is_name_byte}
use Rattle.secrec_lexer.specs.declared.sign.Sign.{Sign}
use Rattle.secrec_lexer.specs.declared.token.TokenKind.{TokenKind}
use Rattle.secrec_lexer.specs.declared.token.TokenKind.TheVariants as kinds
use Rattle.secrec_lexer.specs.declared.token.Token.{Token}
use Rattle.secrec_lexer.specs.declared.lex_err.LexFault.TheVariants as faults
use Rattle.secrec_lexer.specs.declared.piece.Piece.{Piece}
use Rattle.secrec_lexer.specs.declared.piece.Piece.TheVariants.{End, Blank, Lexeme, Fault}
use Rattle.secrec_lexer.specs.Bytes.{is_blank, name_run, first_line, begins, size_to_close}
use Rattle.secrec_lexer.specs.Signs.{single_sign, longer_sign, keyword}
use Rattle.secrec_lexer.specs.Pieces.{comment, number_spelled, word_value, number, word, text, longest, sign, first}
use Rattle.secrec_lexer.specs.Lexis.{Lexes, ended, blank, lexeme}

-- a number is a word
abbrev pub IsWord : TokenKind → Type 0
IsWord (kinds.Name x) = Unit {0}
IsWord (kinds.Number n) = n < 2 ^ 64
IsWord (kinds.Text x) = Unit {0}
IsWord (kinds.Sign s) = Unit {0}
IsWord kinds.End = Unit {0}

abbrev pub AreWords : List Token → Type 0
AreWords [] = Unit {0}
AreWords (t ∷ ts) = IsWord t.kind × AreWords ts

pub words_parts : (ss ts : List Token) → AreWords (ss ++ ts) → AreWords ss × AreWords ts
words_parts [] ts w = (tt, w)
words_parts (s ∷ ss) ts w = let r = words_parts ss ts w.1 in ((w.0, r.0), r.1)

-- PIECES

abbrev IsWordPiece : Piece → Type 0
IsWordPiece End = Unit {0}
IsWordPiece (Blank size) = Unit {0}
IsWordPiece (Lexeme kind size) = IsWord kind
IsWordPiece (Fault fault before) = Unit {0}

-- what holds of both branches
of_both : (b : Bool) (x y : Piece) → IsWordPiece x → IsWordPiece y → IsWordPiece (if b then x else y)
of_both true x y p q = p
of_both false x y p q = q

comment_piece : (o : Option ℕ) → IsWordPiece (comment o)
comment_piece None = tt
comment_piece (Some n) = tt

-- the value of a numeral
abbrev IsValue : Option ℕ → Type 0
IsValue None = Unit {0}
IsValue (Some n) = n < 2 ^ 64

of_value : (b : Bool) (o r : Option ℕ) → (b ≡ true → IsValue o) → IsValue r → IsValue (if b then o else r)
of_value true o r p q = p refl
of_value false o r p q = q

spelled_value : (radix : ℕ) (digits : List ℕ) → IsValue (number_spelled radix digits)
spelled_value radix digits =
    let some = nat_lt 0 (length digits) && list_all (λ digit. is_digit digit radix) digits in
    let fits = nat_lt (digits_value radix digits) (2 ^ 64) in
    of_value (some && fits) (Some (digits_value radix digits)) None (λ e. (Decides-ltb (digits_value radix digits) (2 ^ 64)).0 (and_parts some fits e).1) tt

word_value_fits : (bytes : List ℕ) → IsValue (word_value bytes)
word_value_fits bytes = of_value (begins bytes (codes "0x")) (number_spelled 16 (drop 2 bytes)) (number_spelled 10 bytes)
    (λ e. spelled_value 16 (drop 2 bytes)) (spelled_value 10 bytes)

number_piece : (o : Option ℕ) (size : ℕ) → IsValue o → IsWordPiece (number o size)
number_piece None size v = tt
number_piece (Some n) size v = v

word_piece : (o : Option Sign) (bytes : List ℕ) → IsWordPiece (word o bytes)
word_piece (Some s) bytes = tt
word_piece None bytes = of_both (is_name bytes) (Lexeme (kinds.Name bytes) (length bytes)) (Fault faults.BadName 0) tt tt

text_piece : (bytes more : List ℕ) → IsWordPiece (text bytes more)
text_piece bytes [] = tt
text_piece bytes (next ∷ more) =
    of_both (next == 34) (if is_name bytes then Lexeme (kinds.Text bytes) (length bytes + 2) else Fault faults.BadName 0)
    (if next == 10 then Fault faults.OpenText 0 else Fault faults.BadByte (length bytes + 1))
    (of_both (is_name bytes) (Lexeme (kinds.Text bytes) (length bytes + 2)) (Fault faults.BadName 0) tt tt)
    (of_both (next == 10) (Fault faults.OpenText 0) (Fault faults.BadByte (length bytes + 1)) tt tt)

longest_piece : (s : Sign) (o : Option Sign) → IsWordPiece (longest s o)
longest_piece s None = tt
longest_piece s (Some l) = tt

sign_piece : (o : Option Sign) (byte : ℕ) (more : List ℕ) → IsWordPiece (sign o byte more)
sign_piece None byte more = tt
sign_piece (Some s) byte more = longest_piece s (longer_sign s byte more)

first_piece : (bytes : List ℕ) → IsWordPiece (first bytes)
first_piece [] = tt
first_piece (byte ∷ more) = of_both (is_blank byte) (Blank 1) _ tt (of_both (begins (byte ∷ more) (codes "//")) (Blank (length (first_line (byte ∷ more)))) _ tt
    (of_both (begins (byte ∷ more) (codes "/*")) (comment (size_to_close (drop 2 (byte ∷ more)))) _ (comment_piece (size_to_close (drop 2 (byte ∷ more))))
    (of_both (is_ascii_digit byte) (number (word_value (name_run (byte ∷ more))) (length (name_run (byte ∷ more)))) _
    (number_piece (word_value (name_run (byte ∷ more))) (length (name_run (byte ∷ more))) (word_value_fits (name_run (byte ∷ more))))
    (of_both (is_name_byte byte) (word (keyword (name_run (byte ∷ more))) (name_run (byte ∷ more))) _
    (word_piece (keyword (name_run (byte ∷ more))) (name_run (byte ∷ more)))
    (of_both (byte == 34) (text (name_run more) (drop (length (name_run more)) more)) (sign (single_sign byte) byte more)
    (text_piece (name_run more) (drop (length (name_run more)) more)) (sign_piece (single_sign byte) byte more))))))

-- TOKENS

pub words_lexed : (bytes : List ℕ) (offset : ℕ) (tokens : List Token) → Lexes bytes offset tokens → AreWords tokens
words_lexed bytes offset tokens (ended e) = (tt, tt)
words_lexed bytes offset tokens (blank size e rest) = words_lexed bytes (offset + size) tokens rest
words_lexed bytes offset tokens (lexeme kind size e rest) = (subst IsWordPiece e (first_piece (drop offset bytes)), words_lexed bytes (offset + size) _ rest)
