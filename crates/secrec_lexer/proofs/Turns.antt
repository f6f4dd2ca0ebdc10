-- One turn of the lexer: whatever completes the rest completes the whole.
use Rattle.std.proofs.Common.{◌≡◌, ℕ, ◌+◌, ◌-◌, ◌≤◌, List, [], ◌∷◌, ◌++◌, refl, sym, ap, ◌∙◌, subst, append_assoc, length, take, drop, arith, true}
use Rattle.std.proofs.Common.{Result, Ok, Err, length-drop, length-take, take-add}
use Rattle.std.specs.Prelude.{not, IfOk, IfErr}
use Rattle.std.specs.List.{list_all, fold}
use Rattle.std.proofs.lemmas.List.Folds.{list_all-append}
use Rattle.sc_text.specs.declared.span.Span.{Span}
use Rattle.secrec_lexer.specs.declared.token.TokenKind.{TokenKind}
use Rattle.secrec_lexer.specs.declared.token.TokenKind.TheVariants as kinds
use Rattle.secrec_lexer.specs.declared.token.Token.{Token}
use Rattle.secrec_lexer.specs.declared.lex_err.LexFault.{LexFault}
use Rattle.secrec_lexer.specs.declared.lex_err.LexErr.{LexErr}
use Rattle.secrec_lexer.specs.declared.lex_err.LexErr.TheVariants.{Memory}
use Rattle.secrec_lexer.specs.declared.piece.Piece.{Piece}
use Rattle.secrec_lexer.specs.declared.piece.Piece.TheVariants.{End, Blank, Lexeme, Fault}
use Rattle.secrec_lexer.specs.Tokens.{is_end}
use Rattle.secrec_lexer.specs.Pieces.{first}
use Rattle.secrec_lexer.specs.inner.Extents.{IsWithin}
use Rattle.secrec_lexer.specs.Places.{place_behind, place_at, next_place}
use Rattle.secrec_lexer.specs.Lexis.{Lexes, ended, blank, lexeme, Refuses, here, behind_blank, behind_lexeme, IsRefused, within, IsAnswer, token_at}
use Rattle.secrec_lexer.proofs.Runs.{rest_from}
use Rattle.secrec_lexer.proofs.Choices.{and_both}
use Rattle.secrec_lexer.proofs.Places.{place_behind-append, line-le, column-le}
use Rattle.secrec_lexer.proofs.Within.{first_within}

-- so far the text was cut into these tokens
pub record IsCut (text : List ℕ) (offset : ℕ) (place : Span) (tokens : List Token) : Type 0 where
  pub placed : place ≡ place_at text offset
  pub lines : place.line ≤ offset + 1
  pub columns : place.column ≤ offset + 1
  pub within : offset ≤ length text
  pub no_end : list_all (λ token. not (is_end token.kind)) tokens ≡ true
  pub lexed : (more : List Token) → Lexes text offset more → Lexes text 0 (tokens ++ more)
  pub refused : (fault : LexFault) (spot : Span) → Refuses text offset fault spot → Refuses text 0 fault spot

-- what was found in the rest of the text
pub at_offset : (text : List ℕ) (offset : ℕ) (found piece : Piece) → found ≡ first (take (length text - offset) (drop offset text)) → found ≡ piece
    → first (drop offset text) ≡ piece
at_offset text offset found piece e f = ap first (sym (rest_from text offset)) ∙ sym e ∙ f

-- the place after some bytes more
place_at-more : (text : List ℕ) (offset size : ℕ) → place_at text (offset + size) ≡ fold next_place (place_at text offset) (take size (drop offset text))
unfolding place_at
place_at-more text offset size = ap place_behind (take-add offset size text) ∙ place_behind-append (take offset text) (take size (drop offset text))

pub place_moved : (text : List ℕ) (offset size : ℕ) (place next : Span) → place ≡ place_at text offset
    → next ≡ fold next_place place (take size (take (length text - offset) (drop offset text))) → next ≡ place_at text (offset + size)
place_moved text offset size place next e f =
    f ∙ ap (λ bytes. fold next_place place (take size bytes)) (rest_from text offset)
    ∙ ap (λ p. fold next_place p (take size (drop offset text))) e ∙ sym (place_at-more text offset size)

pub found_within : (text : List ℕ) (offset : ℕ) (piece : Piece) → first (drop offset text) ≡ piece → IsWithin piece (length text - offset)
found_within text offset piece e =
    subst (λ n. IsWithin piece n) (length-drop offset text) (subst (λ p. IsWithin p (length (drop offset text))) e (first_within (drop offset text)))

line_within : (text : List ℕ) (offset : ℕ) (place : Span) → place ≡ place_at text offset → place.line ≤ offset + 1
unfolding place_at
line_within text offset place e = omega (arith, ap (λ p. p.line) e, line-le (take offset text), length-take offset text)

column_within : (text : List ℕ) (offset : ℕ) (place : Span) → place ≡ place_at text offset → place.column ≤ offset + 1
unfolding place_at
column_within text offset place e = omega (arith, ap (λ p. p.column) e, column-le (take offset text), length-take offset text)

pub cut_start : (text : List ℕ) (place : Span) → place ≡ place_behind [] → IsCut text 0 place []
unfolding place_at
cut_start text place e = record {
  placed = e;
  lines = line_within text 0 place e;
  columns = column_within text 0 place e;
  within = omega arith;
  no_end = refl;
  lexed = λ more h. h;
  refused = λ fault spot h. h;
}

pub cut_blank : (text : List ℕ) (offset size : ℕ) (place next : Span) (tokens : List Token) → IsCut text offset place tokens
    → first (drop offset text) ≡ Blank size → next ≡ place_at text (offset + size) → IsCut text (offset + size) next tokens
cut_blank text offset size place next tokens h e f =
    let size_within = found_within text offset (Blank size) e in
    record {
      placed = f;
      lines = line_within text (offset + size) next f;
      columns = column_within text (offset + size) next f;
      within = let le = h.within in omega (arith, size_within.1);
      no_end = h.no_end;
      lexed = λ more k. h.lexed more (blank size e k);
      refused = λ fault spot k. h.refused fault spot (behind_blank size e k);
    }

pub cut_lexeme : (text : List ℕ) (offset size : ℕ) (place next : Span) (tokens : List Token) (kind : TokenKind) → IsCut text offset place tokens
    → first (drop offset text) ≡ Lexeme kind size → next ≡ place_at text (offset + size)
    → IsCut text (offset + size) next (tokens ++ record { place = place; kind = kind } ∷ [])
cut_lexeme text offset size place next tokens kind h e f =
    let size_within = found_within text offset (Lexeme kind size) e in
    let token : Token = record { place = place; kind = kind } in
    let is_token : token_at text offset kind ≡ token = ap (λ p. let t : Token = record { place = p; kind = kind } in t) (sym h.placed) in
    record {
      placed = f;
      lines = line_within text (offset + size) next f;
      columns = column_within text (offset + size) next f;
      within = let le = h.within in omega (arith, size_within.1);
      no_end = list_all-append (λ t. not (is_end t.kind)) tokens (token ∷ []) ∙ and_both _ _ h.no_end (rw size_within.2);
      lexed = λ more k.
          subst (Lexes text 0) (sym (append_assoc tokens (token ∷ []) more))
          (h.lexed (token ∷ more) (subst (λ t. Lexes text offset (t ∷ more)) is_token (lexeme kind size e k)));
      refused = λ fault spot k. h.refused fault spot (behind_lexeme kind size e k);
    }

pub cut_fault : (text : List ℕ) (offset before : ℕ) (place spot : Span) (tokens : List Token) (fault : LexFault) → length text ≤ 1048576
    → IsCut text offset place tokens → first (drop offset text) ≡ Fault fault before → spot ≡ place_at text (offset + before) → IsRefused text fault spot
cut_fault text offset before place spot tokens fault short h e f =
    within short (h.refused fault spot (subst (Refuses text offset fault) (sym f) (here before e)))

pub cut_end : (text : List ℕ) (offset : ℕ) (place : Span) (tokens : List Token) (answer : Result (List Token) LexErr) → length text ≤ 1048576
    → IsCut text offset place tokens → first (drop offset text) ≡ End
    → IfOk answer (λ found. found ≡ tokens ++ record { place = place; kind = kinds.End } ∷ []) → IfErr answer (λ error. error ≡ Memory) → IsAnswer text answer
cut_end text offset place tokens (Ok found) short h e ok err =
    let is_token = ap (λ p. let t : Token = record { place = p; kind = kinds.End } in t) (sym h.placed) in
    (short, subst (Lexes text 0) (sym ok) (h.lexed _ (subst (λ t. Lexes text offset (t ∷ [])) is_token (ended e))))
cut_end text offset place tokens (Err error) short h e ok err = subst (λ x. IsAnswer text (Err x)) (sym err) tt
