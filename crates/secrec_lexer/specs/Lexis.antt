-- The tokens of a text, and its first fault: piece after piece.
use Rattle.std.specs.Prelude.{◌≡◌, ◌⊎◌, ℕ, ◌+◌, ◌<◌, ◌≤◌, List, [], ◌∷◌, length, drop, Result, Ok, Err}
use Rattle.sc_text.specs.declared.span.Span.{Span}
use Rattle.secrec_lexer.specs.declared.token.TokenKind.{TokenKind}
use Rattle.secrec_lexer.specs.declared.token.TokenKind.TheVariants as kinds
use Rattle.secrec_lexer.specs.declared.token.Token.{Token}
use Rattle.secrec_lexer.specs.declared.lex_err.LexFault.{LexFault}
use Rattle.secrec_lexer.specs.declared.lex_err.LexFault.TheVariants as faults
use Rattle.secrec_lexer.specs.declared.lex_err.LexErr.{LexErr}
use Rattle.secrec_lexer.specs.declared.lex_err.LexErr.TheVariants.{Memory, Refused}
use Rattle.secrec_lexer.specs.declared.piece.Piece.TheVariants.{End, Blank, Lexeme, Fault}
use Rattle.secrec_lexer.specs.Pieces.{first}
use Rattle.secrec_lexer.specs.Places.{place_at}

-- a token whose first byte has this offset
abbrev pub token_at : List ℕ → ℕ → TokenKind → Token
token_at text offset kind = record { place = place_at text offset; kind = kind }

-- From this offset on the text has these tokens.
pub data Lexes (text : List ℕ) : ℕ → List Token → Type 0 where
  ended : {offset : ℕ} → first (drop offset text) ≡ End → Lexes text offset (token_at text offset kinds.End ∷ [])
  blank : {offset : ℕ} {tokens : List Token} (size : ℕ) → first (drop offset text) ≡ Blank size → Lexes text (offset + size) tokens → Lexes text offset tokens
  lexeme : {offset : ℕ} {tokens : List Token} (kind : TokenKind) (size : ℕ) → first (drop offset text) ≡ Lexeme kind size
      → Lexes text (offset + size) tokens → Lexes text offset (token_at text offset kind ∷ tokens)

-- From this offset on the first fault of the text is this one, at this place.
pub data Refuses (text : List ℕ) : ℕ → LexFault → Span → Type 0 where
  here : {offset : ℕ} {fault : LexFault} (before : ℕ) → first (drop offset text) ≡ Fault fault before
      → Refuses text offset fault (place_at text (offset + before))
  behind_blank : {offset : ℕ} {fault : LexFault} {place : Span} (size : ℕ) → first (drop offset text) ≡ Blank size
      → Refuses text (offset + size) fault place → Refuses text offset fault place
  behind_lexeme : {offset : ℕ} {fault : LexFault} {place : Span} (kind : TokenKind) (size : ℕ) → first (drop offset text) ≡ Lexeme kind size
      → Refuses text (offset + size) fault place → Refuses text offset fault place

-- the text has these tokens, and is not too long
abbrev pub HasTokens : List ℕ → List Token → Type 0
HasTokens text tokens = (length text ≤ 1048576) × Lexes text 0 tokens

-- the text is refused for this fault at this place: for its length before all else
pub data IsRefused (text : List ℕ) : LexFault → Span → Type 0 where
  too_long : 1048576 < length text → IsRefused text faults.TooLong (place_at text 1048576)
  within : {fault : LexFault} {place : Span} → length text ≤ 1048576 → Refuses text 0 fault place → IsRefused text fault place

-- the text has tokens or is refused
abbrev pub IsDecided : List ℕ → Type 0
IsDecided text =
    ((tokens : List Token) × HasTokens text tokens)
    ⊎ ((fault : LexFault) × (place : Span) × IsRefused text fault place)

-- what is answered to a text: its tokens, its refusal, or that memory ran short
abbrev pub IsAnswer : List ℕ → Result (List Token) LexErr → Type 0
IsAnswer text (Ok tokens) = HasTokens text tokens
IsAnswer text (Err Memory) = Unit {0}
IsAnswer text (Err (Refused fault place)) = IsRefused text fault place

-- these tokens are answered, or that memory ran short
abbrev pub IsTokens : Result (List Token) LexErr → List Token → Type 0
IsTokens (Ok found) tokens = found ≡ tokens
IsTokens (Err Memory) tokens = Unit {0}
IsTokens (Err (Refused fault place)) tokens = ⊥

-- this refusal is answered, or that memory ran short
abbrev pub IsRefusal : Result (List Token) LexErr → LexFault → Span → Type 0
IsRefusal (Ok found) fault place = ⊥
IsRefusal (Err Memory) fault place = Unit {0}
IsRefusal (Err (Refused other spot)) fault place = (other ≡ fault) × (spot ≡ place)
