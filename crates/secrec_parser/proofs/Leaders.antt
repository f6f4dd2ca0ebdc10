-- What the first token tells of a statement.
use Rattle.std.proofs.Common.{◌≡◌, ℕ, zero, suc, ◌≤◌, List, [], ◌∷◌, ◌++◌, inl, inr, refl, sym, ap, ◌∙◌, subst, append_assoc, Bool, true, false}
use Rattle.std.proofs.Common.{Option, Some, None, arith}
use Rattle.std.proofs.lemmas.Option.{none-some}
use Rattle.sc_text.specs.declared.span.Span.{Span}
use Rattle.secrec_lexer.specs.declared.sign.Sign.{Sign}
use Rattle.secrec_lexer.specs.declared.sign.Sign.TheVariants as signs
use Rattle.secrec_lexer.specs.declared.token.TokenKind.{TokenKind}
use Rattle.secrec_lexer.specs.declared.token.TokenKind.TheVariants as kinds
use Rattle.secrec_lexer.specs.declared.token.Token.{Token}
use Rattle.program_trees.specs.declared.expression.DataType.{DataType}
use Rattle.program_trees.specs.declared.expression.DataType.TheVariants as types
use Rattle.program_trees.specs.declared.statement.Domain.{Domain}
use Rattle.program_trees.specs.declared.statement.Domain.TheVariants as domains
use Rattle.program_trees.specs.declared.statement.DeclaredType.{DeclaredType}
use Rattle.program_trees.specs.Statements.{StatementTree, block, empty, branch, choice, while_loop, do_loop, for_loop, breaks, continues, returns}
use Rattle.program_trees.specs.Statements.{assertion, declaration, assignment, evaluation}
use Rattle.program_trees.specs.Heights.{statement_height}
use Rattle.expression_parser.specs.Phrases.{Phrase, token, sign_at, ◌then◌}
use Rattle.expression_parser.specs.Grammar.{IsDataType, loosest}
use Rattle.expression_parser.specs.Steps as expressions
use Rattle.expression_parser.proofs.Tokens.{head_kind}
use Rattle.expression_parser.proofs.Nodes.{tall, begins}
use Rattle.secrec_parser.specs.declared.leader.Leader.{Leader}
use Rattle.secrec_parser.specs.declared.leader.Leader.TheVariants as leaders
use Rattle.secrec_parser.specs.Grammar.{IsDomain, IsType, IsStatement}
use Rattle.secrec_parser.specs.inner.Steps.{leader_of, least}
use Rattle.secrec_parser.proofs.Clashes.{false_true}

-- statements that can be taken for one another by their first token alone
abbrev pub family : Leader → ℕ
family leaders.Block = 0
family leaders.Empty = 1
family leaders.If = 2
family leaders.While = 3
family leaders.DoWhile = 4
family leaders.For = 5
family leaders.Break = 6
family leaders.Continue = 7
family leaders.Return = 8
family leaders.Assert = 9
family leaders.Declaration = 10
family leaders.Name = 10
family leaders.Expression = 10

abbrev pub family_of : StatementTree → ℕ
family_of (block p ss) = 0
family_of (empty p) = 1
family_of (branch p e s) = 2
family_of (choice p e s t) = 2
family_of (while_loop p e s) = 3
family_of (do_loop p s e) = 4
family_of (for_loop p a e b s) = 5
family_of (breaks p) = 6
family_of (continues p) = 7
family_of (returns p e) = 8
family_of (assertion p e) = 9
family_of (declaration d) = 10
family_of (assignment a) = 10
family_of (evaluation e) = 10

pub leader_at : (in_loop : Bool) (x : Token) (k : TokenKind) → k ≡ x.kind → leader_of in_loop x ≡ leader_of in_loop (token x.place k)
leader_at in_loop x k e = ap (λ z. leader_of in_loop (token x.place z)) (sym e)

family_at : (in_loop : Bool) (x : Token) (k : TokenKind) (n : ℕ) → k ≡ x.kind → family (leader_of in_loop (token x.place k)) ≡ n
    → family (leader_of in_loop x) ≡ n
family_at in_loop x k n e f = ap family (leader_at in_loop x k e) ∙ f

-- what a type begins with
abbrev pub begins_type : TokenKind → Bool
begins_type (kinds.Name bytes) = true
begins_type (kinds.Sign signs.Public) = true
begins_type (kinds.Sign signs.Uint64) = true
begins_type (kinds.Sign signs.Uint) = true
begins_type (kinds.Sign signs.Int64) = true
begins_type (kinds.Sign signs.Int) = true
begins_type (kinds.Sign signs.Bool) = true
begins_type other = false

type_kind : (e : DataType) (s m m2 : List Token) (x : Token) → IsDataType e s → s ++ m ≡ x ∷ m2 → begins_type x.kind ≡ true
type_kind types.Uint64 s m m2 x (inl v) eq = ap begins_type (sym (head_kind s [] m m2 v.0 (kinds.Sign signs.Uint64) x v.1 eq))
type_kind types.Uint64 s m m2 x (inr v) eq = ap begins_type (sym (head_kind s [] m m2 v.0 (kinds.Sign signs.Uint) x v.1 eq))
type_kind types.Int64 s m m2 x (inl v) eq = ap begins_type (sym (head_kind s [] m m2 v.0 (kinds.Sign signs.Int64) x v.1 eq))
type_kind types.Int64 s m m2 x (inr v) eq = ap begins_type (sym (head_kind s [] m m2 v.0 (kinds.Sign signs.Int) x v.1 eq))
type_kind types.Bool s m m2 x v eq = ap begins_type (sym (head_kind s [] m m2 v.0 (kinds.Sign signs.Bool) x v.1 eq))

pub declared_kind : (t : DeclaredType) (s m m2 : List Token) (x : Token) → IsType t s → s ++ m ≡ x ∷ m2 → begins_type x.kind ≡ true
declared_kind t s m m2 x v eq = go t.domain v.1.3
  where
    eq2 : v.1.0 ++ (v.1.1 ++ m) ≡ x ∷ m2
    eq2 = sym (append_assoc v.1.0 v.1.1 m) ∙ ap (λ l. l ++ m) (sym v.1.2) ∙ eq

    go : (d : Domain) → IsDomain d v.1.0 → begins_type x.kind ≡ true
    go domains.Public (inl n) =
        let w = v.1.4 in
        let e : w.0 ++ (w.1 ++ m) ≡ x ∷ m2 = sym (append_assoc w.0 w.1 m) ∙ ap (λ l. l ++ m) (sym w.2) ∙ ap (λ l. l ++ (v.1.1 ++ m)) (sym n) ∙ eq2 in
        type_kind t.element w.0 (w.1 ++ m) m2 x w.3 e
    go domains.Public (inr u) = ap begins_type (sym (head_kind v.1.0 [] (v.1.1 ++ m) m2 u.0 (kinds.Sign signs.Public) x u.1 eq2))
    go (domains.Named y) u = ap begins_type (sym (head_kind v.1.0 [] (v.1.1 ++ m) m2 y.place (kinds.Name y.text) x u eq2))

type_family : (in_loop : Bool) (k : TokenKind) (p : Span) → begins_type k ≡ true → family (leader_of in_loop (token p k)) ≡ 10
type_family in_loop (kinds.Name bytes) p e = refl
type_family in_loop (kinds.Sign signs.Public) p e = refl
type_family in_loop (kinds.Sign signs.Uint64) p e = refl
type_family in_loop (kinds.Sign signs.Uint) p e = refl
type_family in_loop (kinds.Sign signs.Int64) p e = refl
type_family in_loop (kinds.Sign signs.Int) p e = refl
type_family in_loop (kinds.Sign signs.Bool) p e = refl
type_family in_loop k p e = absurd (false_true e)

expression_family : (in_loop : Bool) (k : TokenKind) (p : Span) (n : ℕ) → expressions.least k ≡ Some n → family (leader_of in_loop (token p k)) ≡ 10
expression_family in_loop (kinds.Name bytes) p n e = refl
expression_family in_loop (kinds.Number v) p n e = refl
expression_family in_loop (kinds.Sign signs.True) p n e = refl
expression_family in_loop (kinds.Sign signs.False) p n e = refl
expression_family in_loop (kinds.Sign signs.Argument) p n e = refl
expression_family in_loop (kinds.Sign signs.LeftParenthesis) p n e = refl
expression_family in_loop (kinds.Sign signs.Exclamation) p n e = refl
expression_family in_loop (kinds.Sign signs.Declassify) p n e = refl
expression_family in_loop (kinds.Sign signs.Publish) p n e = refl
expression_family in_loop k p n e = absurd (none-some n e)

-- the first token of a phrase is that of its first part
pub front : {P Q : Phrase} (s m m2 : List Token) (x : Token) (v : (P then Q) s) → s ++ m ≡ x ∷ m2 → v.0 ++ (v.1 ++ m) ≡ x ∷ m2
front s m m2 x v eq = sym (append_assoc v.0 v.1 m) ∙ ap (λ l. l ++ m) (sym v.2) ∙ eq

pub led_kind : (p : Span) (k : Sign) (Q : Phrase) (s m m2 : List Token) (x : Token) → (sign_at p k then Q) s → s ++ m ≡ x ∷ m2 → kinds.Sign k ≡ x.kind
led_kind p k Q s m m2 x v eq = head_kind s v.1 m m2 p (kinds.Sign k) x (v.2 ∙ ap (λ l. l ++ v.1) v.3) eq

pub family_is : (in_loop : Bool) (c : StatementTree) (s m m2 : List Token) (x : Token) → IsStatement in_loop c s → s ++ m ≡ x ∷ m2
    → family (leader_of in_loop x) ≡ family_of c
family_is in_loop (block p ss) s m m2 x v eq = family_at in_loop x (kinds.Sign signs.LeftBrace) 0 (led_kind p signs.LeftBrace _ s m m2 x v eq) refl
family_is in_loop (empty p) s m m2 x v eq = family_at in_loop x (kinds.Sign signs.Semicolon) 1 (head_kind s [] m m2 p (kinds.Sign signs.Semicolon) x v eq) refl
family_is in_loop (branch p e b) s m m2 x v eq = family_at in_loop x (kinds.Sign signs.If) 2 (led_kind p signs.If _ s m m2 x v eq) refl
family_is in_loop (choice p e b t) s m m2 x v eq = family_at in_loop x (kinds.Sign signs.If) 2 (led_kind p signs.If _ s m m2 x v.1 eq) refl
family_is in_loop (while_loop p e b) s m m2 x v eq = family_at in_loop x (kinds.Sign signs.While) 3 (led_kind p signs.While _ s m m2 x v eq) refl
family_is in_loop (do_loop p b e) s m m2 x v eq = family_at in_loop x (kinds.Sign signs.Do) 4 (led_kind p signs.Do _ s m m2 x v eq) refl
family_is in_loop (for_loop p a e b t) s m m2 x v eq = family_at in_loop x (kinds.Sign signs.For) 5 (led_kind p signs.For _ s m m2 x v eq) refl
family_is in_loop (breaks p) s m m2 x v eq =
    family_at in_loop x (kinds.Sign signs.Break) 6 (led_kind p signs.Break _ s m m2 x v.1 eq)
    (subst (λ b. family (leader_of b (token x.place (kinds.Sign signs.Break))) ≡ 6) (sym v.0) refl)
family_is in_loop (continues p) s m m2 x v eq =
    family_at in_loop x (kinds.Sign signs.Continue) 7 (led_kind p signs.Continue _ s m m2 x v.1 eq)
    (subst (λ b. family (leader_of b (token x.place (kinds.Sign signs.Continue))) ≡ 7) (sym v.0) refl)
family_is in_loop (returns p e) s m m2 x v eq = family_at in_loop x (kinds.Sign signs.Return) 8 (led_kind p signs.Return _ s m m2 x v eq) refl
family_is in_loop (assertion p e) s m m2 x v eq = family_at in_loop x (kinds.Sign signs.Assert) 9 (led_kind p signs.Assert _ s m m2 x v eq) refl
family_is in_loop (declaration d) s m m2 x v eq =
    let u = v.3 in
    let eq1 : v.0 ++ (v.1 ++ m) ≡ x ∷ m2 = front s m m2 x v eq in
    type_family in_loop x.kind x.place
    (declared_kind d.declared u.0 (u.1 ++ (v.1 ++ m)) m2 x u.3 (sym (append_assoc u.0 u.1 (v.1 ++ m)) ∙ ap (λ l. l ++ (v.1 ++ m)) (sym u.2) ∙ eq1))
family_is in_loop (assignment a) s m m2 x v eq =
    let u = v.3 in
    let w = u.3 in
    let y = a.target.variable in
    let at : s ≡ token y.place (kinds.Name y.text) ∷ ((w.1 ++ u.1) ++ v.1) =
    v.2 ∙ ap (λ l. l ++ v.1) (u.2 ∙ ap (λ l. l ++ u.1) (w.2 ∙ ap (λ l. l ++ w.1) w.3)) in
    family_at in_loop x (kinds.Name y.text) 10 (head_kind s ((w.1 ++ u.1) ++ v.1) m m2 y.place (kinds.Name y.text) x at eq) refl
family_is in_loop (evaluation e) s m m2 x v eq =
    let b = begins loosest e v.0 v.3 in
    let at : s ≡ token b.place b.kind ∷ (b.behind ++ v.1) = v.2 ∙ ap (λ l. l ++ v.1) b.split in
    family_at in_loop x b.kind 10 (head_kind s (b.behind ++ v.1) m m2 b.place b.kind x at eq) (expression_family in_loop b.kind x.place b.n b.low)

-- a statement is as high as its first token tells at least
pub statement_tall : (c : StatementTree) → 1 ≤ statement_height c
statement_tall (block p ss) = omega arith
statement_tall (empty p) = omega arith
statement_tall (branch p e s) = omega arith
statement_tall (choice p e s t) = omega arith
statement_tall (while_loop p e s) = omega arith
statement_tall (do_loop p s e) = omega arith
statement_tall (for_loop p a e b s) = omega arith
statement_tall (breaks p) = omega arith
statement_tall (continues p) = omega arith
statement_tall (returns p e) = omega arith
statement_tall (assertion p e) = omega arith
statement_tall (declaration d) = omega arith
statement_tall (assignment a) = omega arith
statement_tall (evaluation e) = omega arith

-- the least height by family
abbrev least_of : ℕ → ℕ
least_of zero = 1
least_of (suc zero) = 1
least_of (suc (suc zero)) = 2
least_of (suc (suc (suc zero))) = 2
least_of (suc (suc (suc (suc zero)))) = 2
least_of (suc (suc (suc (suc (suc zero))))) = 2
least_of (suc (suc (suc (suc (suc (suc zero)))))) = 1
least_of (suc (suc (suc (suc (suc (suc (suc zero))))))) = 1
least_of (suc (suc (suc (suc (suc (suc (suc (suc zero)))))))) = 1
least_of (suc (suc (suc (suc (suc (suc (suc (suc (suc zero))))))))) = 2
least_of (suc (suc (suc (suc (suc (suc (suc (suc (suc (suc n)))))))))) = 1

least_family : (l : Leader) → least l ≤ least_of (family l)
least_family leaders.Block = omega arith
least_family leaders.Empty = omega arith
least_family leaders.If = omega arith
least_family leaders.While = omega arith
least_family leaders.DoWhile = omega arith
least_family leaders.For = omega arith
least_family leaders.Break = omega arith
least_family leaders.Continue = omega arith
least_family leaders.Return = omega arith
least_family leaders.Assert = omega arith
least_family leaders.Declaration = omega arith
least_family leaders.Name = omega arith
least_family leaders.Expression = omega arith

high : (c : StatementTree) → least_of (family_of c) ≤ statement_height c
high (block p ss) = omega arith
high (empty p) = omega arith
high (branch p e s) = let t = tall e in omega arith
high (choice p e s t) = let u = tall e in omega arith
high (while_loop p e s) = let t = tall e in omega arith
high (do_loop p s e) = let t = tall e in omega arith
high (for_loop p a e b s) = let t = statement_tall s in omega arith
high (breaks p) = omega arith
high (continues p) = omega arith
high (returns p e) = omega arith
high (assertion p e) = let t = tall e in omega arith
high (declaration d) = omega arith
high (assignment a) = omega arith
high (evaluation e) = omega arith

pub least_high : (in_loop : Bool) (c : StatementTree) (s m m2 : List Token) (x : Token) → IsStatement in_loop c s → s ++ m ≡ x ∷ m2
    → least (leader_of in_loop x) ≤ statement_height c
least_high in_loop c s m m2 x v eq =
    let f = least_family (leader_of in_loop x) in
    let g = ap least_of (family_is in_loop c s m m2 x v eq) in
    let k = high c in
    omega (arith, f, g, k)

-- The token that leads

abbrev pub keyword : Leader → Option Sign
keyword leaders.Block = Some signs.LeftBrace
keyword leaders.Empty = Some signs.Semicolon
keyword leaders.If = Some signs.If
keyword leaders.While = Some signs.While
keyword leaders.DoWhile = Some signs.Do
keyword leaders.For = Some signs.For
keyword leaders.Break = Some signs.Break
keyword leaders.Continue = Some signs.Continue
keyword leaders.Return = Some signs.Return
keyword leaders.Assert = Some signs.Assert
keyword leaders.Declaration = None
keyword leaders.Name = None
keyword leaders.Expression = None

same_sign : (a b : Sign) → Some a ≡ Some b → kinds.Sign a ≡ kinds.Sign b
same_sign a b e = cc

keyword_kind : (in_loop : Bool) (k : TokenKind) (p : Span) (s : Sign) → keyword (leader_of in_loop (token p k)) ≡ Some s → k ≡ kinds.Sign s
keyword_kind in_loop (kinds.Sign signs.LeftBrace) p s e = same_sign signs.LeftBrace s e
keyword_kind in_loop (kinds.Sign signs.Semicolon) p s e = same_sign signs.Semicolon s e
keyword_kind in_loop (kinds.Sign signs.If) p s e = same_sign signs.If s e
keyword_kind in_loop (kinds.Sign signs.While) p s e = same_sign signs.While s e
keyword_kind in_loop (kinds.Sign signs.Do) p s e = same_sign signs.Do s e
keyword_kind in_loop (kinds.Sign signs.For) p s e = same_sign signs.For s e
keyword_kind true (kinds.Sign signs.Break) p s e = same_sign signs.Break s e
keyword_kind true (kinds.Sign signs.Continue) p s e = same_sign signs.Continue s e
keyword_kind in_loop (kinds.Sign signs.Return) p s e = same_sign signs.Return s e
keyword_kind in_loop (kinds.Sign signs.Assert) p s e = same_sign signs.Assert s e
keyword_kind in_loop k p s e = absurd (none-some s e)

-- the sign of a leader
pub leads : (in_loop : Bool) (x : Token) (l : Leader) (s : Sign) → leader_of in_loop x ≡ l → keyword l ≡ Some s → x.kind ≡ kinds.Sign s
leads in_loop x l s e f = keyword_kind in_loop x.kind x.place s (ap keyword e ∙ f)

-- `break` and `continue` lead inside a loop alone
pub leads_inside : (in_loop : Bool) (x : Token) (s : Sign) (l : Leader) → x.kind ≡ kinds.Sign s → leader_of in_loop x ≡ l
    → (leader_of false (token x.place (kinds.Sign s)) ≡ l → ⊥) → in_loop ≡ true
leads_inside true x s l k e other = refl
leads_inside false x s l k e other = absurd (other (sym (leader_at false x (kinds.Sign s) (sym k)) ∙ e))
