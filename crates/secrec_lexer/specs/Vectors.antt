-- Texts by hand.
use Rattle.std.specs.Prelude.{◌≡◌, ◌^◌, ◌-◌, [], ◌∷◌, ◌++◌, codes, map, replicate}
use Rattle.std.proofs.Common.{refl, lit≤}
use Rattle.secrec_lexer.specs.declared.sign.Sign.TheVariants as signs
use Rattle.secrec_lexer.specs.declared.token.TokenKind.TheVariants as kinds
use Rattle.secrec_lexer.specs.declared.lex_err.LexFault.TheVariants as faults
use Rattle.secrec_lexer.specs.declared.piece.Piece.TheVariants.{End, Blank, Lexeme, Fault}
use Rattle.secrec_lexer.specs.Pieces.{first}
use Rattle.secrec_lexer.specs.Places.{place_at}
use Rattle.secrec_lexer.specs.Lexis.{HasTokens, IsRefused, within, ended, blank, lexeme, here, behind_blank, behind_lexeme}
use Rattle.secrec_lexer.specs.Signs.{single_sign, keyword}
use Rattle.sc_text.specs.Name.{is_name}

-- every sign, with a space after it
signs_spelled : map first
    (codes "( " ∷ codes ") " ∷ codes "[ " ∷ codes "] " ∷ codes "{ " ∷ codes "} " ∷ codes "< " ∷ codes "> " ∷
    codes ", " ∷ codes "; " ∷ codes ": " ∷ codes "= " ∷ codes "+ " ∷ codes "- " ∷ codes "* " ∷ codes "/ " ∷
    codes "% " ∷ codes "& " ∷ codes "| " ∷ codes "^ " ∷ codes "! " ∷ codes "== " ∷ codes "!= " ∷ codes "<= " ∷
    codes ">= " ∷ codes "&& " ∷ codes "|| " ∷ codes "+= " ∷ codes "-= " ∷ codes "*= " ∷ codes "&= " ∷ codes "|= " ∷
    codes "^= " ∷ codes "++ " ∷ codes "-- " ∷ [])
    ≡ (Lexeme (kinds.Sign signs.LeftParenthesis) 1 ∷ Lexeme (kinds.Sign signs.RightParenthesis) 1 ∷ Lexeme (kinds.Sign signs.LeftBracket) 1 ∷
    Lexeme (kinds.Sign signs.RightBracket) 1 ∷ Lexeme (kinds.Sign signs.LeftBrace) 1 ∷ Lexeme (kinds.Sign signs.RightBrace) 1 ∷
    Lexeme (kinds.Sign signs.Less) 1 ∷ Lexeme (kinds.Sign signs.Greater) 1 ∷ Lexeme (kinds.Sign signs.Comma) 1 ∷
    Lexeme (kinds.Sign signs.Semicolon) 1 ∷ Lexeme (kinds.Sign signs.Colon) 1 ∷ Lexeme (kinds.Sign signs.Assign) 1 ∷
    Lexeme (kinds.Sign signs.Plus) 1 ∷ Lexeme (kinds.Sign signs.Minus) 1 ∷ Lexeme (kinds.Sign signs.Star) 1 ∷
    Lexeme (kinds.Sign signs.Slash) 1 ∷ Lexeme (kinds.Sign signs.Percent) 1 ∷ Lexeme (kinds.Sign signs.Ampersand) 1 ∷
    Lexeme (kinds.Sign signs.Bar) 1 ∷ Lexeme (kinds.Sign signs.Caret) 1 ∷ Lexeme (kinds.Sign signs.Exclamation) 1 ∷
    Lexeme (kinds.Sign signs.Equal) 2 ∷ Lexeme (kinds.Sign signs.NotEqual) 2 ∷ Lexeme (kinds.Sign signs.LessOrEqual) 2 ∷
    Lexeme (kinds.Sign signs.GreaterOrEqual) 2 ∷ Lexeme (kinds.Sign signs.DoubleAmpersand) 2 ∷ Lexeme (kinds.Sign signs.DoubleBar) 2 ∷
    Lexeme (kinds.Sign signs.PlusAssign) 2 ∷ Lexeme (kinds.Sign signs.MinusAssign) 2 ∷ Lexeme (kinds.Sign signs.StarAssign) 2 ∷
    Lexeme (kinds.Sign signs.AmpersandAssign) 2 ∷ Lexeme (kinds.Sign signs.BarAssign) 2 ∷ Lexeme (kinds.Sign signs.CaretAssign) 2 ∷
    Lexeme (kinds.Sign signs.Increment) 2 ∷ Lexeme (kinds.Sign signs.Decrement) 2 ∷ [])
unfolding single_sign keyword is_name
signs_spelled = refl

-- every keyword, with a sign after it
keywords_spelled : map first
    (codes "import;" ∷ codes "kind;" ∷ codes "domain;" ∷ codes "template;" ∷ codes "public;" ∷ codes "void;" ∷ codes "uint64;" ∷ codes "uint;" ∷
    codes "int64;" ∷ codes "int;" ∷ codes "bool;" ∷ codes "if;" ∷ codes "else;" ∷ codes "while;" ∷ codes "do;" ∷ codes "for;" ∷
    codes "break;" ∷ codes "continue;" ∷ codes "return;" ∷ codes "assert;" ∷ codes "true;" ∷ codes "false;" ∷ codes "argument;" ∷ codes "publish;" ∷
    codes "declassify;" ∷ [])
    ≡ (Lexeme (kinds.Sign signs.Import) 6 ∷ Lexeme (kinds.Sign signs.Kind) 4 ∷ Lexeme (kinds.Sign signs.Domain) 6 ∷
    Lexeme (kinds.Sign signs.Template) 8 ∷ Lexeme (kinds.Sign signs.Public) 6 ∷ Lexeme (kinds.Sign signs.Void) 4 ∷
    Lexeme (kinds.Sign signs.Uint64) 6 ∷ Lexeme (kinds.Sign signs.Uint) 4 ∷ Lexeme (kinds.Sign signs.Int64) 5 ∷
    Lexeme (kinds.Sign signs.Int) 3 ∷ Lexeme (kinds.Sign signs.Bool) 4 ∷ Lexeme (kinds.Sign signs.If) 2 ∷
    Lexeme (kinds.Sign signs.Else) 4 ∷ Lexeme (kinds.Sign signs.While) 5 ∷ Lexeme (kinds.Sign signs.Do) 2 ∷
    Lexeme (kinds.Sign signs.For) 3 ∷ Lexeme (kinds.Sign signs.Break) 5 ∷ Lexeme (kinds.Sign signs.Continue) 8 ∷
    Lexeme (kinds.Sign signs.Return) 6 ∷ Lexeme (kinds.Sign signs.Assert) 6 ∷ Lexeme (kinds.Sign signs.True) 4 ∷
    Lexeme (kinds.Sign signs.False) 5 ∷ Lexeme (kinds.Sign signs.Argument) 8 ∷ Lexeme (kinds.Sign signs.Publish) 7 ∷
    Lexeme (kinds.Sign signs.Declassify) 10 ∷ [])
unfolding single_sign keyword is_name
keywords_spelled = refl

sign_before_word : first (codes "<=a") ≡ Lexeme (kinds.Sign signs.LessOrEqual) 2
unfolding single_sign keyword is_name
sign_before_word = refl

two_of_three : first (codes "===") ≡ Lexeme (kinds.Sign signs.Equal) 2
unfolding single_sign keyword is_name
two_of_three = refl

-- a keyword by itself, and a name with more
type_with_a_sign : first (codes "int64[[1]]") ≡ Lexeme (kinds.Sign signs.Int64) 5
unfolding single_sign keyword is_name
type_with_a_sign = refl

another_width : first (codes "int32 ") ≡ Lexeme (kinds.Name (codes "int32")) 5
unfolding single_sign keyword is_name
another_width = refl

keyword_with_more : first (codes "uint64_") ≡ Lexeme (kinds.Name (codes "uint64_")) 7
unfolding single_sign keyword is_name
keyword_with_more = refl

longest_name : first (replicate 64 97 ++ codes " ") ≡ Lexeme (kinds.Name (replicate 64 97)) 64
unfolding single_sign keyword is_name
longest_name = refl

longer_name : first (replicate 65 97) ≡ Fault faults.BadName 0
unfolding single_sign keyword is_name
longer_name = refl

zero : first (codes "0") ≡ Lexeme (kinds.Number 0) 1
unfolding single_sign keyword is_name
zero = refl

greatest : first (codes "18446744073709551615") ≡ Lexeme (kinds.Number (2 ^ 64 - 1)) 20
unfolding single_sign keyword is_name
greatest = refl

too_great : first (codes "18446744073709551616") ≡ Fault faults.BadNumber 0
unfolding single_sign keyword is_name
too_great = refl

greatest_hexadecimal : first (codes "0xFfFfFfFfFfFfFfFf") ≡ Lexeme (kinds.Number (2 ^ 64 - 1)) 18
unfolding single_sign keyword is_name
greatest_hexadecimal = refl

too_great_hexadecimal : first (codes "0x10000000000000000") ≡ Fault faults.BadNumber 0
unfolding single_sign keyword is_name
too_great_hexadecimal = refl

leading_zeros : first (replicate 30 48 ++ codes "1") ≡ Lexeme (kinds.Number 1) 31
unfolding single_sign keyword is_name
leading_zeros = refl

upper_case_prefix : first (codes "0X1") ≡ Fault faults.BadNumber 0
unfolding single_sign keyword is_name
upper_case_prefix = refl

no_digit : first (codes "0x") ≡ Fault faults.BadNumber 0
unfolding single_sign keyword is_name
no_digit = refl

no_hexadecimal_digit : first (codes "0xg") ≡ Fault faults.BadNumber 0
unfolding single_sign keyword is_name
no_hexadecimal_digit = refl

split_digits : first (codes "1_000") ≡ Fault faults.BadNumber 0
unfolding single_sign keyword is_name
split_digits = refl

letters_behind : first (codes "12ab") ≡ Fault faults.BadNumber 0
unfolding single_sign keyword is_name
letters_behind = refl

string : first (codes "\"a_1\")") ≡ Lexeme (kinds.Text (codes "a_1")) 5
unfolding single_sign keyword is_name
string = refl

open_string : first (codes "\"ab") ≡ Fault faults.OpenText 0
unfolding single_sign keyword is_name
open_string = refl

string_over_lines : first (codes "\"ab\n$") ≡ Fault faults.OpenText 0
unfolding single_sign keyword is_name
string_over_lines = refl

bad_byte_in_string : first (codes "\"ab$\n") ≡ Fault faults.BadByte 3
unfolding single_sign keyword is_name
bad_byte_in_string = refl

empty_string : first (codes "\"\"") ≡ Fault faults.BadName 0
unfolding single_sign keyword is_name
empty_string = refl

longer_string : first (codes "\"" ++ replicate 65 97 ++ codes "\"") ≡ Fault faults.BadName 0
unfolding single_sign keyword is_name
longer_string = refl

longer_string_with_bad_byte : first (codes "\"" ++ replicate 70 97 ++ codes "$") ≡ Fault faults.BadByte 71
unfolding single_sign keyword is_name
longer_string_with_bad_byte = refl

line_comment : first (codes "// a\n1") ≡ Blank 4
unfolding single_sign keyword is_name
line_comment = refl

carriage_return_in_comment : first (codes "//a\rb") ≡ Blank 5
unfolding single_sign keyword is_name
carriage_return_in_comment = refl

comment : first (codes "/* / * */1") ≡ Blank 9
unfolding single_sign keyword is_name
comment = refl

comments_do_not_nest : first (codes "/*/**/*/") ≡ Blank 6
unfolding single_sign keyword is_name
comments_do_not_nest = refl

comment_half_closed : first (codes "/*/") ≡ Fault faults.OpenComment 0
unfolding single_sign keyword is_name
comment_half_closed = refl

form_feed : first (12 ∷ []) ≡ Fault faults.BadByte 0
unfolding single_sign keyword is_name
form_feed = refl

byte_128 : first (128 ∷ []) ≡ Fault faults.BadByte 0
unfolding single_sign keyword is_name
byte_128 = refl

no_text : first [] ≡ End
unfolding single_sign keyword is_name
no_text = refl

place_at_start : place_at (codes "ab") 0 ≡ record { line = 1; column = 1 }
unfolding place_at
place_at_start = refl

place_behind_newlines : place_at (codes "ab\n\r\nc\td") 7 ≡ record { line = 3; column = 3 }
unfolding place_at
place_behind_newlines = refl

place_behind_the_text : place_at (codes "a\n") 2 ≡ record { line = 2; column = 1 }
unfolding place_at
place_behind_the_text = refl

-- a whole text
tokens_of_a_text : HasTokens (codes "a<=\n1")
    (record { place = record { line = 1; column = 1 }; kind = kinds.Name (codes "a") }
    ∷ record { place = record { line = 1; column = 2 }; kind = kinds.Sign signs.LessOrEqual }
    ∷ record { place = record { line = 2; column = 1 }; kind = kinds.Number 1 }
    ∷ record { place = record { line = 2; column = 2 }; kind = kinds.End }
    ∷ [])
unfolding single_sign keyword is_name place_at
tokens_of_a_text = (
  lit≤ tt,
  lexeme (kinds.Name (codes "a")) 1 refl
      (lexeme (kinds.Sign signs.LessOrEqual) 2 refl (blank 1 refl (lexeme (kinds.Number 1) 1 refl (ended refl)))),
)

-- a text that is refused at its second piece
refusal_of_a_text : IsRefused (codes "1 \"a!@") faults.BadByte (record { line = 1; column = 5 })
unfolding single_sign keyword is_name place_at
refusal_of_a_text = within (lit≤ tt) (behind_lexeme (kinds.Number 1) 1 refl (behind_blank 1 refl (here 2 refl)))
