-- Phrases: which lists of tokens spell something, built from single tokens.
use Rattle.std.specs.Prelude.{◌≡◌, List, [], ◌∷◌, ◌++◌}
use Rattle.sc_text.specs.declared.span.Span.{Span}
use Rattle.secrec_lexer.specs.declared.sign.Sign.{Sign}
use Rattle.secrec_lexer.specs.declared.token.TokenKind.{TokenKind}
use Rattle.secrec_lexer.specs.declared.token.TokenKind.TheVariants as kinds
use Rattle.secrec_lexer.specs.declared.token.Token.{Token}

abbrev pub Phrase : Type 1
Phrase = List Token → Type 0

abbrev pub token : Span → TokenKind → Token
token place kind = record { place = place; kind = kind }

abbrev pub nothing : Phrase
nothing ts = ts ≡ []

-- one token: at this place, and at any place
abbrev pub one_at : Span → TokenKind → Phrase
one_at place kind ts = ts ≡ token place kind ∷ []

abbrev pub one : TokenKind → Phrase
one kind ts = (place : Span) × one_at place kind ts

-- a sign or a keyword
abbrev pub sign_at : Span → Sign → Phrase
sign_at place s = one_at place (kinds.Sign s)

abbrev pub sign : Sign → Phrase
sign s = one (kinds.Sign s)

-- one phrase after another
infixr 5 ◌then◌
abbrev pub ◌then◌ : Phrase → Phrase → Phrase
(P then Q) ts = (s t : List Token) × (ts ≡ s ++ t) × P s × Q t
