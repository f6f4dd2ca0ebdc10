-- The tokens of the load program: those of its text are these.
use Rattle.std.proofs.Common.{◌≡◌, ℕ, zero, suc, ◌+◌, List, [], ◌∷◌, ◌++◌, drop, Option, Some, None, refl, subst, lit≤}
use Rattle.std.proofs.lemmas.Option.{same_Some}
use Rattle.std.specs.Prelude.{codes, option_map}
use Rattle.sc_text.specs.Name.{is_name}
use Rattle.secrec_lexer.specs.declared.sign.Sign.{Sign}
use Rattle.secrec_lexer.specs.declared.sign.Sign.TheVariants as signs
use Rattle.secrec_lexer.specs.declared.token.TokenKind.{TokenKind}
use Rattle.secrec_lexer.specs.declared.token.TokenKind.TheVariants as kinds
use Rattle.secrec_lexer.specs.declared.token.Token.{Token}
use Rattle.secrec_lexer.specs.declared.piece.Piece.{Piece}
use Rattle.secrec_lexer.specs.declared.piece.Piece.TheVariants.{End, Blank, Lexeme, Fault}
use Rattle.secrec_lexer.specs.Pieces.{first}
use Rattle.secrec_lexer.specs.Places.{place_at}
use Rattle.secrec_lexer.specs.Signs.{single_sign, keyword}
use Rattle.secrec_lexer.specs.Lexis.{HasTokens, Lexes, ended, blank, lexeme, token_at}
use Rattle.workload.specs.Load.{load_program}
use Rattle.workload.specs.LoadTree.{at}

-- ---- the tokens, line by line

abbrev sign : (line column : ℕ) → Sign → Token
sign line column s = record { place = at line column; kind = kinds.Sign s }

abbrev name : (line column : ℕ) → List ℕ → Token
name line column x = record { place = at line column; kind = kinds.Name x }

abbrev text : (line column : ℕ) → List ℕ → Token
text line column x = record { place = at line column; kind = kinds.Text x }

abbrev number : (line column : ℕ) → ℕ → Token
number line column n = record { place = at line column; kind = kinds.Number n }

abbrev pub import_stdlib : List Token
import_stdlib =
    sign 1 1 signs.Import ∷ name 1 8 (codes "stdlib") ∷ sign 1 14 signs.Semicolon ∷ []

abbrev pub import_shared3p : List Token
import_shared3p =
    sign 1 16 signs.Import ∷ name 1 23 (codes "shared3p") ∷ sign 1 31 signs.Semicolon ∷ []

abbrev pub domain_p : List Token
domain_p =
    sign 1 33 signs.Domain ∷ name 1 40 (codes "p") ∷ name 1 42 (codes "shared3p") ∷ sign 1 50 signs.Semicolon ∷ []

abbrev pub heading : List Token
heading =
    sign 2 1 signs.Void ∷ name 2 6 (codes "main") ∷ sign 2 10 signs.LeftParenthesis ∷ sign 2 11 signs.RightParenthesis ∷ sign 2 13 signs.LeftBrace ∷
    []

abbrev pub first_array : List Token
first_array =
    name 2 15 (codes "p") ∷ sign 2 17 signs.Uint64 ∷ sign 2 23 signs.LeftBracket ∷ sign 2 24 signs.LeftBracket ∷ number 2 25 1 ∷
    sign 2 26 signs.RightBracket ∷ sign 2 27 signs.RightBracket ∷ name 2 29 (codes "a") ∷ sign 2 31 signs.Assign ∷ sign 2 33 signs.Argument ∷
    sign 2 41 signs.LeftParenthesis ∷ text 2 42 (codes "a") ∷ sign 2 45 signs.RightParenthesis ∷ sign 2 46 signs.Semicolon ∷ []

abbrev pub second_array : List Token
second_array =
    name 2 48 (codes "p") ∷ sign 2 50 signs.Uint64 ∷ sign 2 56 signs.LeftBracket ∷ sign 2 57 signs.LeftBracket ∷ number 2 58 1 ∷
    sign 2 59 signs.RightBracket ∷ sign 2 60 signs.RightBracket ∷ name 2 62 (codes "b") ∷ sign 2 64 signs.Assign ∷ sign 2 66 signs.Argument ∷
    sign 2 74 signs.LeftParenthesis ∷ text 2 75 (codes "b") ∷ sign 2 78 signs.RightParenthesis ∷ sign 2 79 signs.Semicolon ∷ []

abbrev pub products : List Token
products =
    sign 3 1 signs.Publish ∷ sign 3 8 signs.LeftParenthesis ∷ text 3 9 (codes "dot") ∷ sign 3 14 signs.Comma ∷ sign 3 16 signs.Declassify ∷
    sign 3 26 signs.LeftParenthesis ∷ name 3 27 (codes "sum") ∷ sign 3 30 signs.LeftParenthesis ∷ name 3 31 (codes "a") ∷ sign 3 33 signs.Star ∷
    name 3 35 (codes "b") ∷ sign 3 36 signs.RightParenthesis ∷ sign 3 37 signs.RightParenthesis ∷ sign 3 38 signs.RightParenthesis ∷
    sign 3 39 signs.Semicolon ∷ []

abbrev pub comparisons : List Token
comparisons =
    sign 3 41 signs.Publish ∷ sign 3 48 signs.LeftParenthesis ∷ text 3 49 (codes "less") ∷ sign 3 55 signs.Comma ∷ sign 3 57 signs.Declassify ∷
    sign 3 67 signs.LeftParenthesis ∷ name 3 68 (codes "sum") ∷ sign 3 71 signs.LeftParenthesis ∷ sign 3 72 signs.LeftParenthesis ∷
    sign 3 73 signs.Uint64 ∷ sign 3 79 signs.RightParenthesis ∷ sign 3 80 signs.LeftParenthesis ∷ name 3 81 (codes "a") ∷ sign 3 83 signs.Less ∷
    name 3 85 (codes "b") ∷ sign 3 86 signs.RightParenthesis ∷ sign 3 87 signs.RightParenthesis ∷ sign 3 88 signs.RightParenthesis ∷
    sign 3 89 signs.RightParenthesis ∷ sign 3 90 signs.Semicolon ∷ []

abbrev pub behind_main : List Token
behind_main = sign 3 92 signs.RightBrace ∷ []

abbrev pub the_end : List Token
the_end = record { place = at 4 1; kind = kinds.End } ∷ []

abbrev pub load_tokens : List Token
load_tokens =
    import_stdlib ++ import_shared3p ++ domain_p ++ heading ++ first_array ++ second_array ++ products ++ comparisons ++ behind_main ++ the_end

-- ---- the pieces of a text, one after another

piece : (bytes : List ℕ) (offset : ℕ) → (behind : ℕ → Option (List Token)) → Piece → Option (List Token)
piece bytes offset behind End = Some (token_at bytes offset kinds.End ∷ [])
piece bytes offset behind (Blank size) = behind (offset + size)
piece bytes offset behind (Lexeme kind size) = option_map (λ ts. token_at bytes offset kind ∷ ts) (behind (offset + size))
piece bytes offset behind (Fault fault before) = None

-- its tokens from this offset on, in so many pieces at most
pieces : (at_most : ℕ) → (bytes : List ℕ) → (offset : ℕ) → Option (List Token)
pieces zero bytes offset = None
pieces (suc n) bytes offset = piece bytes offset (pieces n bytes) (first (drop offset bytes))

behind_lexeme : (bytes : List ℕ) (offset size : ℕ) (kind : TokenKind) (ts : List Token) → first (drop offset bytes) ≡ Lexeme kind size
    → (o : Option (List Token))
    → ((more : List Token) → o ≡ Some more → Lexes bytes (offset + size) more) → option_map (λ more. token_at bytes offset kind ∷ more) o ≡ Some ts
    → Lexes bytes offset ts
behind_lexeme bytes offset size kind ts here None lexed is = absurd cc
behind_lexeme bytes offset size kind ts here (Some more) lexed is =
    subst (Lexes bytes offset) (same_Some (token_at bytes offset kind ∷ more) ts is) (lexeme kind size here (lexed more refl))

-- a piece, and the tokens after it
lexes_piece : (bytes : List ℕ) (offset : ℕ) (ts : List Token) (behind : ℕ → Option (List Token))
    → ((next : ℕ) (more : List Token) → behind next ≡ Some more → Lexes bytes next more) → (p : Piece) → first (drop offset bytes) ≡ p
    → piece bytes offset behind p ≡ Some ts → Lexes bytes offset ts
unfolding piece
lexes_piece bytes offset ts behind lexed End here is = subst (Lexes bytes offset) (same_Some (token_at bytes offset kinds.End ∷ []) ts is) (ended here)
lexes_piece bytes offset ts behind lexed (Blank size) here is = blank size here (lexed (offset + size) ts is)
lexes_piece bytes offset ts behind lexed (Lexeme kind size) here is =
    behind_lexeme bytes offset size kind ts here (behind (offset + size)) (λ more e. lexed (offset + size) more e) is
lexes_piece bytes offset ts behind lexed (Fault fault before) here is = absurd cc

lexes : (n : ℕ) (bytes : List ℕ) (offset : ℕ) (ts : List Token) → pieces n bytes offset ≡ Some ts → Lexes bytes offset ts
unfolding pieces
lexes zero bytes offset ts is = absurd cc
lexes (suc n) bytes offset ts is =
    lexes_piece bytes offset ts (pieces n bytes) (λ next more e. lexes n bytes next more e) (first (drop offset bytes)) refl is

pub load_lexed : HasTokens load_program load_tokens
unfolding load_program place_at single_sign keyword is_name piece pieces
load_lexed = (lit≤ tt, lexes 200 load_program 0 load_tokens refl)
