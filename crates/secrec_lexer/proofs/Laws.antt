-- A text has one answer.
use Rattle.std.proofs.Common.{◌≤◌, zero, suc, ◌-◌, ◌⊎◌, inl, inr, ◌≡◌, ℕ, ◌+◌, ◌<◌, List, ◌∷◌, refl, sym, ap, ◌∙◌, subst, length, drop, arith, Result, Ok, Err}
use Rattle.std.proofs.lemmas.Bool.{cases_lt}
use Rattle.sc_text.specs.declared.span.Span.{Span}
use Rattle.secrec_lexer.specs.declared.token.TokenKind.{TokenKind}
use Rattle.secrec_lexer.specs.declared.token.Token.{Token}
use Rattle.secrec_lexer.specs.declared.lex_err.LexFault.{LexFault}
use Rattle.secrec_lexer.specs.declared.lex_err.LexFault.TheVariants as faults
use Rattle.secrec_lexer.specs.declared.lex_err.LexErr.{LexErr}
use Rattle.secrec_lexer.specs.declared.lex_err.LexErr.TheVariants.{Memory, Refused}
use Rattle.secrec_lexer.specs.declared.piece.Piece.{Piece}
use Rattle.secrec_lexer.specs.declared.piece.Piece.TheVariants.{End, Blank, Lexeme, Fault}
use Rattle.secrec_lexer.specs.Pieces.{first}
use Rattle.secrec_lexer.specs.inner.Extents.{IsWithin}
use Rattle.secrec_lexer.proofs.Turns.{found_within}
use Rattle.secrec_lexer.specs.Places.{place_at}
use Rattle.secrec_lexer.specs.Lexis.{Lexes, ended, blank, lexeme, Refuses, here, behind_blank, behind_lexeme, HasTokens, IsRefused, too_long, within}
use Rattle.secrec_lexer.specs.Lexis.{IsAnswer, IsTokens, IsRefusal, token_at, IsDecided}

-- what a piece is: its number of bytes, and its token
size_of : Piece → ℕ
size_of End = 0
size_of (Blank size) = size
size_of (Lexeme kind size) = size
size_of (Fault fault before) = before

same_size : (found piece other : Piece) → found ≡ piece → found ≡ other → size_of other ≡ size_of piece
same_size found piece other e f = ap size_of (sym f ∙ e)

end_or_blank : (found : Piece) (size : ℕ) → found ≡ End → found ≡ Blank size → ⊥
end_or_blank found size e f = cc

end_or_lexeme : (found : Piece) (kind : TokenKind) (size : ℕ) → found ≡ End → found ≡ Lexeme kind size → ⊥
end_or_lexeme found kind size e f = cc

end_or_fault : (found : Piece) (fault : LexFault) (before : ℕ) → found ≡ End → found ≡ Fault fault before → ⊥
end_or_fault found fault before e f = cc

blank_or_lexeme : (found : Piece) (size other : ℕ) (kind : TokenKind) → found ≡ Blank size → found ≡ Lexeme kind other → ⊥
blank_or_lexeme found size other kind e f = cc

blank_or_fault : (found : Piece) (size before : ℕ) (fault : LexFault) → found ≡ Blank size → found ≡ Fault fault before → ⊥
blank_or_fault found size before fault e f = cc

lexeme_or_fault : (found : Piece) (kind : TokenKind) (size before : ℕ) (fault : LexFault) → found ≡ Lexeme kind size → found ≡ Fault fault before → ⊥
lexeme_or_fault found kind size before fault e f = cc

same_blank : (found : Piece) (size other : ℕ) → found ≡ Blank size → found ≡ Blank other → other ≡ size
same_blank found size other e f = cc

same_lexeme : (found : Piece) (kind like : TokenKind) (size other : ℕ) → found ≡ Lexeme kind size → found ≡ Lexeme like other → other ≡ size
same_lexeme found kind like size other e f = cc

same_kind : (found : Piece) (kind like : TokenKind) (size other : ℕ) → found ≡ Lexeme kind size → found ≡ Lexeme like other → kind ≡ like
same_kind found kind like size other e f = cc

same_fault : (found : Piece) (fault like : LexFault) (before other : ℕ) → found ≡ Fault fault before → found ≡ Fault like other → fault ≡ like
same_fault found fault like before other e f = cc

same_before : (found : Piece) (fault like : LexFault) (before other : ℕ) → found ≡ Fault fault before → found ≡ Fault like other → before ≡ other
same_before found fault like before other e f = cc

-- the tokens from an offset on are one list
one_cut : (text : List ℕ) {offset : ℕ} {tokens others : List Token} → Lexes text offset tokens → Lexes text offset others → tokens ≡ others
one_cut text (ended e) (ended f) = refl
one_cut text {offset = o} (ended e) (blank size f h) = absurd (end_or_blank (first (drop o text)) size e f)
one_cut text {offset = o} (ended e) (lexeme kind size f h) = absurd (end_or_lexeme (first (drop o text)) kind size e f)
one_cut text {offset = o} (blank size e g) (ended f) = absurd (end_or_blank (first (drop o text)) size f e)
one_cut text {offset = o} (blank {tokens = ts} size e g) (blank {tokens = us} other f h) =
    one_cut text g (subst (λ n. Lexes text (o + n) us) (same_blank (first (drop o text)) size other e f) h)
one_cut text {offset = o} (blank size e g) (lexeme kind other f h) = absurd (blank_or_lexeme (first (drop o text)) size other kind e f)
one_cut text {offset = o} (lexeme kind size e g) (ended f) = absurd (end_or_lexeme (first (drop o text)) kind size f e)
one_cut text {offset = o} (lexeme kind size e g) (blank other f h) = absurd (blank_or_lexeme (first (drop o text)) other size kind f e)
one_cut text {offset = o} (lexeme {tokens = ts} kind size e g) (lexeme {tokens = us} like other f h) =
    let rest = one_cut text g (subst (λ n. Lexes text (o + n) us) (same_lexeme (first (drop o text)) kind like size other e f) h) in
    let token = ap (token_at text o) (same_kind (first (drop o text)) kind like size other e f) in
    ap (λ t. t ∷ ts) token ∙ ap (λ l. token_at text o like ∷ l) rest

-- from an offset on there are not both tokens and a fault
no_fault : (text : List ℕ) {offset : ℕ} {tokens : List Token} {fault : LexFault} {place : Span} → Lexes text offset tokens → Refuses text offset fault place → ⊥
no_fault text {offset = o} {fault = x} (ended e) (here before f) = end_or_fault (first (drop o text)) x before e f
no_fault text {offset = o} (ended e) (behind_blank size f h) = end_or_blank (first (drop o text)) size e f
no_fault text {offset = o} (ended e) (behind_lexeme kind size f h) = end_or_lexeme (first (drop o text)) kind size e f
no_fault text {offset = o} {fault = x} (blank size e g) (here before f) = blank_or_fault (first (drop o text)) size before x e f
no_fault text {offset = o} {fault = x} {place = p} (blank size e g) (behind_blank other f h) =
    no_fault text g (subst (λ n. Refuses text (o + n) x p) (same_blank (first (drop o text)) size other e f) h)
no_fault text {offset = o} (blank size e g) (behind_lexeme kind other f h) = blank_or_lexeme (first (drop o text)) size other kind e f
no_fault text {offset = o} {fault = x} (lexeme kind size e g) (here before f) = lexeme_or_fault (first (drop o text)) kind size before x e f
no_fault text {offset = o} (lexeme kind size e g) (behind_blank other f h) = blank_or_lexeme (first (drop o text)) other size kind f e
no_fault text {offset = o} {fault = x} {place = p} (lexeme kind size e g) (behind_lexeme like other f h) =
    no_fault text g (subst (λ n. Refuses text (o + n) x p) (same_lexeme (first (drop o text)) kind like size other e f) h)

-- from an offset on there is one first fault, at one place
one_fault : (text : List ℕ) {offset : ℕ} {fault other : LexFault} {place spot : Span} → Refuses text offset fault place
    → Refuses text offset other spot → (fault ≡ other) × (place ≡ spot)
one_fault text {offset = o} {fault = x} {other = y} (here before e) (here behind f) =
    (same_fault (first (drop o text)) x y before behind e f, ap (λ n. place_at text (o + n)) (same_before (first (drop o text)) x y before behind e f))
one_fault text {offset = o} {fault = x} (here before e) (behind_blank size f h) = absurd (blank_or_fault (first (drop o text)) size before x f e)
one_fault text {offset = o} {fault = x} (here before e) (behind_lexeme kind size f h) = absurd (lexeme_or_fault (first (drop o text)) kind size before x f e)
one_fault text {offset = o} {other = y} (behind_blank size e g) (here before f) = absurd (blank_or_fault (first (drop o text)) size before y e f)
one_fault text {offset = o} {other = y} {spot = q} (behind_blank size e g) (behind_blank size2 f h) =
    one_fault text g (subst (λ n. Refuses text (o + n) y q) (same_blank (first (drop o text)) size size2 e f) h)
one_fault text {offset = o} (behind_blank size e g) (behind_lexeme kind size2 f h) = absurd (blank_or_lexeme (first (drop o text)) size size2 kind e f)
one_fault text {offset = o} {other = y} (behind_lexeme kind size e g) (here before f) = absurd (lexeme_or_fault (first (drop o text)) kind size before y e f)
one_fault text {offset = o} (behind_lexeme kind size e g) (behind_blank size2 f h) = absurd (blank_or_lexeme (first (drop o text)) size2 size kind f e)
one_fault text {offset = o} {other = y} {spot = q} (behind_lexeme kind size e g) (behind_lexeme like size2 f h) =
    one_fault text g (subst (λ n. Refuses text (o + n) y q) (same_lexeme (first (drop o text)) kind like size size2 e f) h)

pub one_list : (text : List ℕ) (tokens others : List Token) → HasTokens text tokens → HasTokens text others → tokens ≡ others
one_list text tokens others g h = one_cut text g.1 h.1

pub not_both : (text : List ℕ) (tokens : List Token) (fault : LexFault) (place : Span) → HasTokens text tokens → IsRefused text fault place → ⊥
not_both text tokens _ _ g (too_long long) = let short = g.0 in omega arith
not_both text tokens fault place g (within short h) = no_fault text g.1 h

pub one_refusal : (text : List ℕ) (fault other : LexFault) (place spot : Span) → IsRefused text fault place → IsRefused text other spot
    → (fault ≡ other) × (place ≡ spot)
one_refusal text _ _ _ _ (too_long long) (too_long longer) = (refl, refl)
one_refusal text _ other _ spot (too_long long) (within short h) = absurd (omega arith)
one_refusal text fault _ place _ (within short h) (too_long long) = absurd (omega arith)
one_refusal text fault other place spot (within short g) (within shorter h) = one_fault text g h

pub only_tokens : (text : List ℕ) (answer : Result (List Token) LexErr) → IsAnswer text answer → (tokens : List Token) → HasTokens text tokens
    → IsTokens answer tokens
only_tokens text (Ok found) h tokens g = one_list text found tokens h g
only_tokens text (Err Memory) h tokens g = tt
only_tokens text (Err (Refused fault place)) h tokens g = not_both text tokens fault place g h

pub only_refusal : (text : List ℕ) (answer : Result (List Token) LexErr) → IsAnswer text answer → (fault : LexFault) (place : Span)
    → IsRefused text fault place → IsRefusal answer fault place
only_refusal text (Ok found) h fault place g = not_both text found fault place h g
only_refusal text (Err Memory) h fault place g = tt
only_refusal text (Err (Refused other spot)) h fault place g = one_refusal text other fault spot place h g

pub is_too_long : (text : List ℕ) (place : Span) → 1048576 < length text → place ≡ place_at text 1048576 → IsAnswer text (Err (Refused faults.TooLong place))
is_too_long text place long e = subst (IsRefused text faults.TooLong) (sym e) (too_long long)

-- what stands from an offset on: tokens, or a fault
abbrev Decides : List ℕ → ℕ → Type 0
Decides text offset = ((tokens : List Token) × Lexes text offset tokens) ⊎ ((fault : LexFault) × (place : Span) × Refuses text offset fault place)

behind : (text : List ℕ) (offset : ℕ) (piece : Piece) → first (drop offset text) ≡ piece → IsWithin piece (length text - offset)
    → ((size : ℕ) → 0 < size → size ≤ length text - offset → Decides text (offset + size)) → Decides text offset
behind text offset End e h k = inl (_, ended e)
behind text offset (Blank size) e h k =
    elim (k size h.0 h.1) [
      | inl r ↦ inl (r.0, blank size e r.1)
      | inr r ↦ inr (r.0, r.1, behind_blank size e r.2)
    ]
behind text offset (Lexeme kind size) e h k =
    elim (k size h.0 h.1) [
      | inl r ↦ inl (_, lexeme kind size e r.1)
      | inr r ↦ inr (r.0, r.1, behind_lexeme kind size e r.2)
    ]
behind text offset (Fault fault before) e h k = inr (fault, _, here before e)

decided_from : (n : ℕ) (text : List ℕ) (offset : ℕ) → length text ≤ offset + n → Decides text offset
decided_from zero text offset le =
    behind text offset (first (drop offset text)) refl (found_within text offset (first (drop offset text)) refl) (λ size some fits. absurd (omega arith))
decided_from (suc n) text offset le =
    behind text offset (first (drop offset text)) refl (found_within text offset (first (drop offset text)) refl)
    (λ size some fits. decided_from n text (offset + size) (omega arith))

pub decided : (text : List ℕ) → IsDecided text
decided text = elim (cases_lt 1048576 (length text)) [
  | inl long ↦ inr (faults.TooLong, place_at text 1048576, too_long long)
  | inr short ↦ elim (decided_from (length text) text 0 (omega arith)) [
    | inl r ↦ inl (r.0, (short, r.1))
    | inr r ↦ inr (r.0, r.1, within short r.2)
  ]
]
