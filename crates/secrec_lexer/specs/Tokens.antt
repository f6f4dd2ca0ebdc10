-- Which token is which sign, and where a list of tokens ends.
use Rattle.std.specs.Prelude.{ℕ, Bool, true, false, ◌&&◌, not, nat_eq, IsTrue, List, [], ◌∷◌}
use Rattle.secrec_lexer.specs.declared.sign.Sign.{Sign}
use Rattle.secrec_lexer.specs.declared.sign.Sign.TheVariants as signs
use Rattle.secrec_lexer.specs.declared.token.TokenKind.{TokenKind}
use Rattle.secrec_lexer.specs.declared.token.TokenKind.TheVariants as kinds
use Rattle.secrec_lexer.specs.declared.token.Token.{Token}

-- signs and keywords, in the order of their declaration
abbrev pub number : Sign → ℕ
number signs.LeftParenthesis = 0
number signs.RightParenthesis = 1
number signs.LeftBracket = 2
number signs.RightBracket = 3
number signs.LeftBrace = 4
number signs.RightBrace = 5
number signs.Less = 6
number signs.Greater = 7
number signs.Comma = 8
number signs.Semicolon = 9
number signs.Colon = 10
number signs.Assign = 11
number signs.Plus = 12
number signs.Minus = 13
number signs.Star = 14
number signs.Slash = 15
number signs.Percent = 16
number signs.Ampersand = 17
number signs.Bar = 18
number signs.Caret = 19
number signs.Exclamation = 20
number signs.Equal = 21
number signs.NotEqual = 22
number signs.LessOrEqual = 23
number signs.GreaterOrEqual = 24
number signs.DoubleAmpersand = 25
number signs.DoubleBar = 26
number signs.PlusAssign = 27
number signs.MinusAssign = 28
number signs.StarAssign = 29
number signs.AmpersandAssign = 30
number signs.BarAssign = 31
number signs.CaretAssign = 32
number signs.Increment = 33
number signs.Decrement = 34
number signs.Import = 35
number signs.Kind = 36
number signs.Domain = 37
number signs.Template = 38
number signs.Public = 39
number signs.Void = 40
number signs.Uint64 = 41
number signs.Uint = 42
number signs.Int64 = 43
number signs.Int = 44
number signs.Bool = 45
number signs.If = 46
number signs.Else = 47
number signs.While = 48
number signs.Do = 49
number signs.For = 50
number signs.Break = 51
number signs.Continue = 52
number signs.Return = 53
number signs.Assert = 54
number signs.True = 55
number signs.False = 56
number signs.Argument = 57
number signs.Publish = 58
number signs.Declassify = 59

-- whether this sign is what a token is
abbrev pub kind_is : Sign → TokenKind → Bool
kind_is sign (kinds.Name bytes) = false
kind_is sign (kinds.Number value) = false
kind_is sign (kinds.Text bytes) = false
kind_is sign (kinds.Sign other) = nat_eq (number sign) (number other)
kind_is sign kinds.End = false

-- whether a token is this sign
abbrev pub is_sign : Sign → Token → Bool
is_sign sign token = kind_is sign token.kind

-- whether it is the end of the text
abbrev pub is_end : TokenKind → Bool
is_end (kinds.Name bytes) = false
is_end (kinds.Number value) = false
is_end (kinds.Text bytes) = false
is_end (kinds.Sign sign) = false
is_end kinds.End = true

-- the last token is the end of the text, and no other is
abbrev pub is_ended : List Token → Bool
is_ended [] = false
is_ended (token ∷ []) = is_end token.kind
is_ended (token ∷ next ∷ more) = not (is_end token.kind) && is_ended (next ∷ more)

abbrev pub IsEnded : List Token → Type 0
IsEnded tokens = IsTrue (is_ended tokens)
