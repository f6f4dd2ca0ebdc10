-- Signs are told apart by their numbers.
use Rattle.std.proofs.Common.{◌≡◌, refl, sym, ap, ◌∙◌, true, false}
use Rattle.std.proofs.lemmas.Bool.{eqb-true}
use denote.Enum.Bare.{tag_one}
use denote.Enum.Declared.{tag_of}
use Rattle.secrec_lexer.specs.contracts.sign.Sign.{the_type}
use Rattle.secrec_lexer.specs.declared.sign.Sign.{Sign}
use Rattle.secrec_lexer.specs.declared.sign.Sign.TheVariants as signs
use Rattle.secrec_lexer.specs.declared.token.TokenKind.{TokenKind}
use Rattle.secrec_lexer.specs.declared.token.TokenKind.TheVariants as kinds
use Rattle.secrec_lexer.specs.Tokens.{number, kind_is}

-- a sign's number is its place in the declaration
pub tag_of-number : (sign : Sign) → tag_of the_type sign ≡ number sign
tag_of-number signs.LeftParenthesis = refl
tag_of-number signs.RightParenthesis = refl
tag_of-number signs.LeftBracket = refl
tag_of-number signs.RightBracket = refl
tag_of-number signs.LeftBrace = refl
tag_of-number signs.RightBrace = refl
tag_of-number signs.Less = refl
tag_of-number signs.Greater = refl
tag_of-number signs.Comma = refl
tag_of-number signs.Semicolon = refl
tag_of-number signs.Colon = refl
tag_of-number signs.Assign = refl
tag_of-number signs.Plus = refl
tag_of-number signs.Minus = refl
tag_of-number signs.Star = refl
tag_of-number signs.Slash = refl
tag_of-number signs.Percent = refl
tag_of-number signs.Ampersand = refl
tag_of-number signs.Bar = refl
tag_of-number signs.Caret = refl
tag_of-number signs.Exclamation = refl
tag_of-number signs.Equal = refl
tag_of-number signs.NotEqual = refl
tag_of-number signs.LessOrEqual = refl
tag_of-number signs.GreaterOrEqual = refl
tag_of-number signs.DoubleAmpersand = refl
tag_of-number signs.DoubleBar = refl
tag_of-number signs.PlusAssign = refl
tag_of-number signs.MinusAssign = refl
tag_of-number signs.StarAssign = refl
tag_of-number signs.AmpersandAssign = refl
tag_of-number signs.BarAssign = refl
tag_of-number signs.CaretAssign = refl
tag_of-number signs.Increment = refl
tag_of-number signs.Decrement = refl
tag_of-number signs.Import = refl
tag_of-number signs.Kind = refl
tag_of-number signs.Domain = refl
tag_of-number signs.Template = refl
tag_of-number signs.Public = refl
tag_of-number signs.Void = refl
tag_of-number signs.Uint64 = refl
tag_of-number signs.Uint = refl
tag_of-number signs.Int64 = refl
tag_of-number signs.Int = refl
tag_of-number signs.Bool = refl
tag_of-number signs.If = refl
tag_of-number signs.Else = refl
tag_of-number signs.While = refl
tag_of-number signs.Do = refl
tag_of-number signs.For = refl
tag_of-number signs.Break = refl
tag_of-number signs.Continue = refl
tag_of-number signs.Return = refl
tag_of-number signs.Assert = refl
tag_of-number signs.True = refl
tag_of-number signs.False = refl
tag_of-number signs.Argument = refl
tag_of-number signs.Publish = refl
tag_of-number signs.Declassify = refl

-- no two signs have one number
pub number_one : (sign other : Sign) → number sign ≡ number other → sign ≡ other
number_one sign other e = tag_one the_type tt sign other (tag_of-number sign ∙ e ∙ sym (tag_of-number other))

-- a sign is itself
pub kind_is-itself : (sign : Sign) → kind_is sign (kinds.Sign sign) ≡ true
kind_is-itself signs.LeftParenthesis = refl
kind_is-itself signs.RightParenthesis = refl
kind_is-itself signs.LeftBracket = refl
kind_is-itself signs.RightBracket = refl
kind_is-itself signs.LeftBrace = refl
kind_is-itself signs.RightBrace = refl
kind_is-itself signs.Less = refl
kind_is-itself signs.Greater = refl
kind_is-itself signs.Comma = refl
kind_is-itself signs.Semicolon = refl
kind_is-itself signs.Colon = refl
kind_is-itself signs.Assign = refl
kind_is-itself signs.Plus = refl
kind_is-itself signs.Minus = refl
kind_is-itself signs.Star = refl
kind_is-itself signs.Slash = refl
kind_is-itself signs.Percent = refl
kind_is-itself signs.Ampersand = refl
kind_is-itself signs.Bar = refl
kind_is-itself signs.Caret = refl
kind_is-itself signs.Exclamation = refl
kind_is-itself signs.Equal = refl
kind_is-itself signs.NotEqual = refl
kind_is-itself signs.LessOrEqual = refl
kind_is-itself signs.GreaterOrEqual = refl
kind_is-itself signs.DoubleAmpersand = refl
kind_is-itself signs.DoubleBar = refl
kind_is-itself signs.PlusAssign = refl
kind_is-itself signs.MinusAssign = refl
kind_is-itself signs.StarAssign = refl
kind_is-itself signs.AmpersandAssign = refl
kind_is-itself signs.BarAssign = refl
kind_is-itself signs.CaretAssign = refl
kind_is-itself signs.Increment = refl
kind_is-itself signs.Decrement = refl
kind_is-itself signs.Import = refl
kind_is-itself signs.Kind = refl
kind_is-itself signs.Domain = refl
kind_is-itself signs.Template = refl
kind_is-itself signs.Public = refl
kind_is-itself signs.Void = refl
kind_is-itself signs.Uint64 = refl
kind_is-itself signs.Uint = refl
kind_is-itself signs.Int64 = refl
kind_is-itself signs.Int = refl
kind_is-itself signs.Bool = refl
kind_is-itself signs.If = refl
kind_is-itself signs.Else = refl
kind_is-itself signs.While = refl
kind_is-itself signs.Do = refl
kind_is-itself signs.For = refl
kind_is-itself signs.Break = refl
kind_is-itself signs.Continue = refl
kind_is-itself signs.Return = refl
kind_is-itself signs.Assert = refl
kind_is-itself signs.True = refl
kind_is-itself signs.False = refl
kind_is-itself signs.Argument = refl
kind_is-itself signs.Publish = refl
kind_is-itself signs.Declassify = refl

-- what is told to be a sign is that sign
pub kind_is-true : (sign : Sign) (kind : TokenKind) → kind_is sign kind ≡ true → kind ≡ kinds.Sign sign
kind_is-true sign (kinds.Name bytes) e = cc
kind_is-true sign (kinds.Number value) e = cc
kind_is-true sign (kinds.Text bytes) e = cc
kind_is-true sign (kinds.Sign other) e = ap kinds.Sign (sym (number_one sign other (eqb-true (number sign) (number other) e)))
kind_is-true sign kinds.End e = cc

-- what is told not to be a sign is not that sign
pub kind_is-false : (sign : Sign) (kind : TokenKind) → kind_is sign kind ≡ false → kind ≡ kinds.Sign sign → ⊥
kind_is-false sign kind e f =
    let g : kind_is sign (kinds.Sign sign) ≡ false = ap (kind_is sign) (sym f) ∙ e in
    let h = kind_is-itself sign in cc
