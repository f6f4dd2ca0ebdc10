-- Each token of a text stands on a line of 32 bits, and each string among them is a name.
use Rattle.std.proofs.Common.{◌≡◌, ℕ, ◌+◌, ◌≤◌, ◌^◌, List, [], ◌∷◌, ◌++◌, length, take, drop, refl, subst, Option, Some, None, Bool, true, false}
use Rattle.std.proofs.Common.{arith, if◌then◌else◌}
use Rattle.std.specs.Prelude.{◌==◌, codes}
use Rattle.std.specs.Char.{is_ascii_digit}
use Rattle.std.specs.List.{count_by}
use Rattle.std.proofs.lemmas.Bool.{lt-ltb}
use Rattle.std.proofs.lemmas.List.{length-take}
use Rattle.std.proofs.lemmas.List.Sums.{count_by-le-length}
use Rattle.sc_text.specs.Name.{is_name, is_name_byte, IsName}
use Rattle.secrec_lexer.specs.declared.sign.Sign.{Sign}
use Rattle.secrec_lexer.specs.declared.token.TokenKind.{TokenKind}
use Rattle.secrec_lexer.specs.declared.token.TokenKind.TheVariants as kinds
use Rattle.secrec_lexer.specs.declared.token.Token.{Token}
use Rattle.secrec_lexer.specs.declared.lex_err.LexFault.TheVariants as faults
use Rattle.secrec_lexer.specs.declared.piece.Piece.{Piece}
use Rattle.secrec_lexer.specs.declared.piece.Piece.TheVariants.{End, Blank, Lexeme, Fault}
use Rattle.secrec_lexer.specs.Bytes.{is_blank, is_newline, name_run, first_line, begins, size_to_close}
use Rattle.secrec_lexer.specs.Signs.{single_sign, longer_sign, keyword}
use Rattle.secrec_lexer.specs.Pieces.{comment, word_value, number, word, text, longest, sign, first}
use Rattle.secrec_lexer.specs.Places.{place_at}
use Rattle.secrec_lexer.specs.Lexis.{Lexes, ended, blank, lexeme, HasTokens}
use Rattle.program_run.specs.WrittenSources.{IsPlace}

-- a string is a name
abbrev pub IsText : TokenKind → Type 0
IsText (kinds.Name x) = Unit {0}
IsText (kinds.Number n) = Unit {0}
IsText (kinds.Text x) = IsName x
IsText (kinds.Sign s) = Unit {0}
IsText kinds.End = Unit {0}

abbrev pub AreSaid : List Token → Type 0
AreSaid [] = Unit {0}
AreSaid (t ∷ ts) = (IsPlace t.place × IsText t.kind) × AreSaid ts

pub said_parts : (ss ts : List Token) → AreSaid (ss ++ ts) → AreSaid ss × AreSaid ts
said_parts [] ts w = (tt, w)
said_parts (s ∷ ss) ts w = let r = said_parts ss ts w.1 in ((w.0, r.0), r.1)

-- ---- LINES

shorter : (n : ℕ) (bytes : List ℕ) → length (take n bytes) ≤ length bytes
shorter n bytes = let e = length-take n bytes in omega (arith, e)

place_there : (bytes : List ℕ) → length bytes ≤ 1048576 → (offset : ℕ) → IsPlace (place_at bytes offset)
unfolding place_at
place_there bytes h offset =
    let few = count_by-le-length is_newline (take offset bytes) in
    let short = shorter offset bytes in
    lt-ltb (1 + count_by is_newline (take offset bytes)) (2 ^ 32) (omega (arith, few, short, h))

-- ---- PIECES

abbrev IsTextPiece : Piece → Type 0
IsTextPiece End = Unit {0}
IsTextPiece (Blank size) = Unit {0}
IsTextPiece (Lexeme kind size) = IsText kind
IsTextPiece (Fault fault before) = Unit {0}

of_both : (b : Bool) (x y : Piece) → (b ≡ true → IsTextPiece x) → IsTextPiece y → IsTextPiece (if b then x else y)
of_both true x y p q = p refl
of_both false x y p q = q

comment_piece : (o : Option ℕ) → IsTextPiece (comment o)
comment_piece None = tt
comment_piece (Some n) = tt

number_piece : (o : Option ℕ) (size : ℕ) → IsTextPiece (number o size)
number_piece None size = tt
number_piece (Some n) size = tt

word_piece : (o : Option Sign) (bytes : List ℕ) → IsTextPiece (word o bytes)
word_piece (Some s) bytes = tt
word_piece None bytes = of_both (is_name bytes) (Lexeme (kinds.Name bytes) (length bytes)) (Fault faults.BadName 0) (λ e. tt) tt

text_piece : (bytes more : List ℕ) → IsTextPiece (text bytes more)
text_piece bytes [] = tt
text_piece bytes (next ∷ more) =
    of_both (next == 34) (if is_name bytes then Lexeme (kinds.Text bytes) (length bytes + 2) else Fault faults.BadName 0)
    (if next == 10 then Fault faults.OpenText 0 else Fault faults.BadByte (length bytes + 1))
    (λ q. of_both (is_name bytes) (Lexeme (kinds.Text bytes) (length bytes + 2)) (Fault faults.BadName 0) (λ e. e) tt)
    (of_both (next == 10) (Fault faults.OpenText 0) (Fault faults.BadByte (length bytes + 1)) (λ e. tt) tt)

longest_piece : (s : Sign) (o : Option Sign) → IsTextPiece (longest s o)
longest_piece s None = tt
longest_piece s (Some l) = tt

sign_piece : (o : Option Sign) (byte : ℕ) (more : List ℕ) → IsTextPiece (sign o byte more)
sign_piece None byte more = tt
sign_piece (Some s) byte more = longest_piece s (longer_sign s byte more)

first_piece : (bytes : List ℕ) → IsTextPiece (first bytes)
first_piece [] = tt
first_piece (byte ∷ more) =
    of_both (is_blank byte) (Blank 1) _ (λ e. tt)
    (of_both (begins (byte ∷ more) (codes "//")) (Blank (length (first_line (byte ∷ more)))) _ (λ e. tt)
    (of_both (begins (byte ∷ more) (codes "/*")) (comment (size_to_close (drop 2 (byte ∷ more)))) _
    (λ e. comment_piece (size_to_close (drop 2 (byte ∷ more))))
    (of_both (is_ascii_digit byte) (number (word_value (name_run (byte ∷ more))) (length (name_run (byte ∷ more)))) _
    (λ e. number_piece (word_value (name_run (byte ∷ more))) (length (name_run (byte ∷ more))))
    (of_both (is_name_byte byte) (word (keyword (name_run (byte ∷ more))) (name_run (byte ∷ more))) _
    (λ e. word_piece (keyword (name_run (byte ∷ more))) (name_run (byte ∷ more)))
    (of_both (byte == 34) (text (name_run more) (drop (length (name_run more)) more)) (sign (single_sign byte) byte more)
    (λ e. text_piece (name_run more) (drop (length (name_run more)) more)) (sign_piece (single_sign byte) byte more))))))

-- ---- TOKENS

said_from : (bytes : List ℕ) → length bytes ≤ 1048576 → (offset : ℕ) (tokens : List Token) → Lexes bytes offset tokens → AreSaid tokens
said_from bytes h offset tokens (ended e) = ((place_there bytes h offset, tt), tt)
said_from bytes h offset tokens (blank size e rest) = said_from bytes h (offset + size) tokens rest
said_from bytes h offset tokens (lexeme kind size e rest) =
    ((place_there bytes h offset, subst IsTextPiece e (first_piece (drop offset bytes))), said_from bytes h (offset + size) _ rest)

pub said_lexed : (bytes : List ℕ) (tokens : List Token) → HasTokens bytes tokens → AreSaid tokens
said_lexed bytes tokens h = said_from bytes h.0 0 tokens h.1
