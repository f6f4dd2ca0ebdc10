-- Tokens have one first fault at most, and none where they spell a program that is low enough.
use Rattle.std.proofs.Common.{◌≡◌, ℕ, ◌≤◌, List, [], ◌∷◌, ◌++◌, ◌⊎◌, inl, inr, refl, sym, ap, ap₂, ◌∙◌, subst}
use Rattle.std.proofs.lemmas.List.{append_assoc}
use Rattle.sc_text.specs.declared.span.Span.{Span}
use Rattle.secrec_lexer.specs.declared.token.Token.{Token}
use Rattle.program_trees.specs.Programs.{ProgramTree}
use Rattle.program_trees.specs.Heights.{program_height}
use Rattle.expression_parser.specs.declared.problem.ParseProblem.{ParseProblem}
use Rattle.expression_parser.specs.declared.problem.ParseProblem.TheVariants.{Unexpected, TooHigh}
use Rattle.expression_parser.proofs.Reading.{cons_head, cons_tail}
use Rattle.secrec_parser.specs.Grammar.{IsProgram}
use Rattle.secrec_parser.specs.FirstFault.{Begins, IsCause, IsFirstFault}

-- a program that begins with tokens begins with those before them
begins_before : (limit : ℕ) (ts more : List Token) → Begins limit (ts ++ more) → Begins limit ts
begins_before limit ts more b = (b.0, more ++ b.1, subst (IsProgram b.0) (append_assoc ts more b.1) b.2, b.3)

-- these tokens go at least as far as this one
abbrev Reaches : List Token → List Token → Token → Type 0
Reaches d b x = (m : List Token) × (d ≡ (b ++ x ∷ []) ++ m)

-- of two cuts of the same tokens at a token, one is the other or lies after it
abbrev Ordered : (b d : List Token) (x y : Token) → Type 0
Ordered b d x y = ((b ≡ d) × (x ≡ y)) ⊎ (Reaches d b x ⊎ Reaches b d y)

cuts : (b c d e : List Token) (x y : Token) → b ++ x ∷ c ≡ d ++ y ∷ e → Ordered b d x y
cuts [] c [] e x y h = inl (refl, cons_head h)
cuts [] c (w ∷ d) e x y h = inr (inl (d, ap (λ z. z ∷ d) (sym (cons_head h))))
cuts (z ∷ b) c [] e x y h = inr (inr (b, ap (λ w. w ∷ b) (cons_head h)))
cuts (z ∷ b) c (w ∷ d) e x y h = behind (cons_head h) (cuts b c d e x y (cons_tail h))
  where
    behind : z ≡ w → Ordered b d x y → Ordered (z ∷ b) (w ∷ d) x y
    behind s (inl o) = inl (ap₂ (λ u us. u ∷ us) s o.0, o.1)
    behind s (inr (inl o)) = inr (inl (o.0, ap₂ (λ u us. u ∷ us) (sym s) o.1))
    behind s (inr (inr o)) = inr (inr (o.0, ap₂ (λ u us. u ∷ us) s o.1))

same_cause : (p q : ParseProblem) (ts : List Token) → IsCause p ts → IsCause q ts → p ≡ q
same_cause Unexpected Unexpected ts a b = refl
same_cause Unexpected TooHigh ts a b = absurd (a b)
same_cause TooHigh Unexpected ts a b = absurd (b a)
same_cause TooHigh TooHigh ts a b = refl

pub one_first_fault : (limit : ℕ) (ts : List Token) (p q : ParseProblem) (s t : Span) → IsFirstFault limit ts p s → IsFirstFault limit ts q t
    → (p ≡ q) × (s ≡ t)
one_first_fault limit ts p q s t f g = go (cuts f.before f.behind g.before g.behind f.fault g.fault (sym f.split ∙ g.split))
  where
    go : Ordered f.before g.before f.fault g.fault → (p ≡ q) × (s ≡ t)
    go (inl o) =
        let upto : g.before ++ g.fault ∷ [] ≡ f.before ++ f.fault ∷ [] = sym (ap₂ (λ b x. b ++ x ∷ []) o.0 o.1) in
        (same_cause p q (f.before ++ f.fault ∷ []) f.cause (subst (IsCause q) upto g.cause), sym f.placed ∙ (ap (λ x. x.place) o.1 ∙ g.placed))
    go (inr (inl o)) = absurd (f.here (begins_before limit (f.before ++ f.fault ∷ []) o.0 (subst (Begins limit) o.1 g.begins)))
    go (inr (inr o)) = absurd (g.here (begins_before limit (g.before ++ g.fault ∷ []) o.0 (subst (Begins limit) o.1 f.begins)))

pub faultless_where_spelled : (limit : ℕ) (ts : List Token) (p : ParseProblem) (s : Span) (tree : ProgramTree) → IsFirstFault limit ts p s
    → IsProgram tree ts → program_height tree ≤ limit → ⊥
faultless_where_spelled limit ts p s tree f spelled low =
    f.here (tree, f.behind, subst (IsProgram tree) (f.split ∙ sym (append_assoc f.before (f.fault ∷ []) f.behind)) spelled, low)
