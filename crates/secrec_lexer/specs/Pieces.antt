-- What stands at the front of a text.
use Rattle.std.specs.Prelude.{ℕ, ◌+◌, ◌^◌, ◌==◌, ◌&&◌, nat_lt, List, [], ◌∷◌, length, drop, Option, Some, None, codes, if◌then◌else◌}
use Rattle.std.specs.List.{list_all}
use Rattle.std.specs.Char.{is_ascii_digit, is_digit}
use Rattle.std.specs.Str.Parse.{digits_value}
use Rattle.sc_text.specs.Name.{is_name, is_name_byte}
use Rattle.secrec_lexer.specs.declared.sign.Sign.{Sign}
use Rattle.secrec_lexer.specs.declared.token.TokenKind.TheVariants as kinds
use Rattle.secrec_lexer.specs.declared.lex_err.LexFault.TheVariants as faults
use Rattle.secrec_lexer.specs.declared.piece.Piece.{Piece}
use Rattle.secrec_lexer.specs.declared.piece.Piece.TheVariants.{End, Blank, Lexeme, Fault}
use Rattle.secrec_lexer.specs.Bytes.{is_blank, name_run, first_line, begins, size_to_close}
use Rattle.secrec_lexer.specs.Signs.{single_sign, longer_sign, keyword}

-- Each piece goes with its number of bytes, and a fault with the number of bytes before it.

-- a comment of many lines, by the number of bytes after its `/*`, if it is closed
abbrev pub comment : Option ℕ → Piece
comment None = Fault faults.OpenComment 0
comment (Some size) = Blank (2 + size)

-- the number that the digits spell, at least one, all of the base and of a value below 2^64
abbrev pub number_spelled : ℕ → List ℕ → Option ℕ
number_spelled radix digits =
    if nat_lt 0 (length digits) && list_all (λ digit. is_digit digit radix) digits && nat_lt (digits_value radix digits) (2 ^ 64)
    then Some (digits_value radix digits) else None

-- the number that a word spells, in decimal, or in hexadecimal after `0x`
abbrev pub word_value : List ℕ → Option ℕ
word_value word = if begins word (codes "0x") then number_spelled 16 (drop 2 word) else number_spelled 10 word

-- a number of this value, if it has one, and of so many bytes
abbrev pub number : Option ℕ → ℕ → Piece
number None size = Fault faults.BadNumber 0
number (Some value) size = Lexeme (kinds.Number value) size

-- a keyword, or else a name, of 1 to 64 bytes
abbrev pub word : Option Sign → List ℕ → Piece
word (Some sign) bytes = Lexeme (kinds.Sign sign) (length bytes)
word None bytes = if is_name bytes then Lexeme (kinds.Name bytes) (length bytes) else Fault faults.BadName 0

-- a string: its letters, digits and `_`, and what stands after them
abbrev pub text : List ℕ → List ℕ → Piece
text bytes [] = Fault faults.OpenText 0
text bytes (next ∷ more) =
    if next == 34 then (if is_name bytes then Lexeme (kinds.Text bytes) (length bytes + 2) else Fault faults.BadName 0)
    else if next == 10 then Fault faults.OpenText 0
    else Fault faults.BadByte (length bytes + 1)

-- a sign of one byte, or the longer one that begins with it
abbrev pub longest : Sign → Option Sign → Piece
longest sign None = Lexeme (kinds.Sign sign) 1
longest sign (Some longer) = Lexeme (kinds.Sign longer) 2

-- the longest sign that begins with this byte, if a sign does
abbrev pub sign : Option Sign → ℕ → List ℕ → Piece
sign None byte more = Fault faults.BadByte 0
sign (Some first) byte more = longest first (longer_sign first byte more)

-- what stands at the front of a text
abbrev pub first : List ℕ → Piece
first [] = End
first (byte ∷ more) =
    if is_blank byte then Blank 1
    else if begins (byte ∷ more) (codes "//") then Blank (length (first_line (byte ∷ more)))
    else if begins (byte ∷ more) (codes "/*") then comment (size_to_close (drop 2 (byte ∷ more)))
    else if is_ascii_digit byte then number (word_value (name_run (byte ∷ more))) (length (name_run (byte ∷ more)))
    else if is_name_byte byte then word (keyword (name_run (byte ∷ more))) (name_run (byte ∷ more))
    else if byte == 34 then text (name_run more) (drop (length (name_run more)) more)
    else sign (single_sign byte) byte more
