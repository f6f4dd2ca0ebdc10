-- The second token of what begins with a name.
use Rattle.std.proofs.Common.{◌≡◌, ℕ, List, [], ◌∷◌, ◌++◌, ◌⊎◌, inl, inr, refl, sym, ap, ◌∙◌, true, false, Option, Some, None}
use Rattle.std.proofs.lemmas.Option.{none-some}
use Rattle.sc_text.specs.declared.span.Span.{Span}
use Rattle.secrec_lexer.specs.declared.sign.Sign.{Sign}
use Rattle.secrec_lexer.specs.declared.sign.Sign.TheVariants as signs
use Rattle.secrec_lexer.specs.declared.token.TokenKind.{TokenKind}
use Rattle.secrec_lexer.specs.declared.token.TokenKind.TheVariants as kinds
use Rattle.secrec_lexer.specs.declared.token.Token.{Token}
use Rattle.program_trees.specs.declared.expression.DataType.{DataType}
use Rattle.program_trees.specs.declared.expression.DataType.TheVariants as types
use Rattle.program_trees.specs.declared.expression.Operator.{Operator}
use Rattle.program_trees.specs.declared.expression.Operator.TheVariants as operators
use Rattle.program_trees.specs.declared.statement.Domain.{Domain}
use Rattle.program_trees.specs.declared.statement.Domain.TheVariants as domains
use Rattle.program_trees.specs.declared.statement.DeclaredType.{DeclaredType}
use Rattle.program_trees.specs.Tree.{Tree, number, truth, variable, call, index, parentheses, negation, cast, binary, declassify, argument, publish}
use Rattle.program_trees.specs.Statements.{DeclarationTree, AssignmentTree}
use Rattle.expression_parser.specs.declared.problem.ParseProblem.{ParseProblem}
use Rattle.expression_parser.specs.Phrases.{Phrase, token, sign, ◌then◌}
use Rattle.expression_parser.specs.Grammar.{IsDataType, IsExpression, level, sign_of, loosest, unary}
use Rattle.expression_parser.specs.Follow.{goes_on}
use Rattle.expression_parser.proofs.Reading.{Bad, Stops, Allowed, Begun, cons_head, cons_tail}
use Rattle.expression_parser.proofs.Tokens.{head_kind}
use Rattle.secrec_parser.specs.declared.assignment.Update.{Update}
use Rattle.secrec_parser.specs.Grammar.{bracketed, optional, IsDomain, IsDimension, IsType, IsDeclaration, IsAssignment}
use Rattle.secrec_parser.specs.inner.Steps.{is_type, update_of, follows_name, ActionTree, assigns, evaluates}
use Rattle.secrec_parser.proofs.Clashes.{false_true}
use Rattle.secrec_parser.proofs.Declarations.{clash, sign_head}
use Rattle.secrec_parser.proofs.Assignments.{by_down, IsAction}
use Rattle.secrec_parser.proofs.Leaders.{front}

-- what stands after one token
behind_one : {P Q : Phrase} (z : Token) (s m m2 : List Token) (x y : Token) (v : (P then Q) s) → v.0 ≡ z ∷ [] → s ++ m ≡ x ∷ y ∷ m2 → v.1 ++ m ≡ y ∷ m2
behind_one z s m m2 x y v e eq = cons_tail (sym (ap (λ l. l ++ (v.1 ++ m)) e) ∙ front s m (y ∷ m2) x v eq)

no_name : (s : Sign) (k : TokenKind) (text : List ℕ) → kinds.Sign s ≡ k → k ≡ kinds.Name text → ⊥
no_name s k text e f = let g = e ∙ f in cc

operator_goes_on : (op : Operator) → goes_on loosest (kinds.Sign (sign_of op)) ≡ true
operator_goes_on operators.Add = refl
operator_goes_on operators.Subtract = refl
operator_goes_on operators.Multiply = refl
operator_goes_on operators.Divide = refl
operator_goes_on operators.Remainder = refl
operator_goes_on operators.Equal = refl
operator_goes_on operators.NotEqual = refl
operator_goes_on operators.Less = refl
operator_goes_on operators.LessOrEqual = refl
operator_goes_on operators.Greater = refl
operator_goes_on operators.GreaterOrEqual = refl
operator_goes_on operators.And = refl
operator_goes_on operators.Or = refl
operator_goes_on operators.Xor = refl
operator_goes_on operators.AndAlso = refl
operator_goes_on operators.OrElse = refl

-- an expression that begins with a name is that name, or goes on with the next token
name_second : (k : ℕ) (e : Tree) (s m m2 : List Token) (x y : Token) (text : List ℕ) → IsExpression k e s → s ++ m ≡ x ∷ y ∷ m2
    → x.kind ≡ kinds.Name text → (s ≡ x ∷ []) ⊎ (goes_on loosest y.kind ≡ true)
name_second k (number p n) s m m2 x y text v eq is =
    let f = head_kind s [] m (y ∷ m2) p (kinds.Number n) x v eq in
    let g : kinds.Number n ≡ kinds.Name text = f ∙ is in cc
name_second k (truth p true) s m m2 x y text v eq is = absurd (no_name signs.True x.kind text (head_kind s [] m (y ∷ m2) p (kinds.Sign signs.True) x v eq) is)
name_second k (truth p false) s m m2 x y text v eq is =
    absurd (no_name signs.False x.kind text (head_kind s [] m (y ∷ m2) p (kinds.Sign signs.False) x v eq) is)
name_second k (variable p z) s m m2 x y text v eq is =
    let hd = cons_head (sym (ap (λ l. l ++ m) v) ∙ eq) in inl (v ∙ ap (λ t. t ∷ []) hd)
name_second k (call p z es) s m m2 x y text v eq is =
    let b = behind_one (token p (kinds.Name z)) s m m2 x y v v.3 eq in
    inr (ap (goes_on loosest) (sign_head signs.LeftParenthesis _ v.1 m m2 y v.4 b))
name_second k (index p a i) s m m2 x y text v eq is =
    let w = v.2 in
    split w.0 w.1 w.4 (front s m (y ∷ m2) x w eq) (name_second unary a w.0 (w.1 ++ m) m2 x y text w.3 (front s m (y ∷ m2) x w eq) is)
  where
    split : (t u : List Token) → (sign signs.LeftBracket then (IsExpression loosest i then sign signs.RightBracket)) u → t ++ (u ++ m) ≡ x ∷ y ∷ m2
        → (t ≡ x ∷ []) ⊎ (goes_on loosest y.kind ≡ true) → (s ≡ x ∷ []) ⊎ (goes_on loosest y.kind ≡ true)
    split t u q e (inl f) =
        let b : u ++ m ≡ y ∷ m2 = cons_tail (sym (ap (λ l. l ++ (u ++ m)) f) ∙ e) in
        inr (ap (goes_on loosest) (sign_head signs.LeftBracket _ u m m2 y q b))
    split t u q e (inr f) = inr f
name_second k (parentheses p e) s m m2 x y text v eq is =
    absurd (no_name signs.LeftParenthesis x.kind text (head_kind s v.1 m (y ∷ m2) p (kinds.Sign signs.LeftParenthesis) x (v.2 ∙ ap (λ l. l ++ v.1) v.3) eq) is)
name_second k (negation p e) s m m2 x y text v eq is =
    absurd (no_name signs.Exclamation x.kind text (head_kind s v.1 m (y ∷ m2) p (kinds.Sign signs.Exclamation) x (v.2 ∙ ap (λ l. l ++ v.1) v.3) eq) is)
name_second k (cast p t e) s m m2 x y text v eq is =
    absurd (no_name signs.LeftParenthesis x.kind text (head_kind s v.1 m (y ∷ m2) p (kinds.Sign signs.LeftParenthesis) x (v.2 ∙ ap (λ l. l ++ v.1) v.3) eq) is)
name_second k (binary p op a b) s m m2 x y text v eq is =
    let w = v.2 in
    split w.0 w.1 w.4 (front s m (y ∷ m2) x w eq) (name_second (level op) a w.0 (w.1 ++ m) m2 x y text w.3 (front s m (y ∷ m2) x w eq) is)
  where
    split : {Q : Phrase} (t u : List Token) → (sign (sign_of op) then Q) u → t ++ (u ++ m) ≡ x ∷ y ∷ m2
        → (t ≡ x ∷ []) ⊎ (goes_on loosest y.kind ≡ true) → (s ≡ x ∷ []) ⊎ (goes_on loosest y.kind ≡ true)
    split t u q e (inl f) =
        let b : u ++ m ≡ y ∷ m2 = cons_tail (sym (ap (λ l. l ++ (u ++ m)) f) ∙ e) in
        inr (ap (goes_on loosest) (sign_head (sign_of op) _ u m m2 y q b) ∙ operator_goes_on op)
    split t u q e (inr f) = inr f
name_second k (declassify p e) s m m2 x y text v eq is =
    absurd (no_name signs.Declassify x.kind text (head_kind s v.1 m (y ∷ m2) p (kinds.Sign signs.Declassify) x (v.2 ∙ ap (λ l. l ++ v.1) v.3) eq) is)
name_second k (argument p z) s m m2 x y text v eq is =
    absurd (no_name signs.Argument x.kind text (head_kind s v.1 m (y ∷ m2) p (kinds.Sign signs.Argument) x (v.2 ∙ ap (λ l. l ++ v.1) v.3) eq) is)
name_second k (publish p z e) s m m2 x y text v eq is =
    absurd (no_name signs.Publish x.kind text (head_kind s v.1 m (y ∷ m2) p (kinds.Sign signs.Publish) x (v.2 ∙ ap (λ l. l ++ v.1) v.3) eq) is)

-- Types after a name

is_type_at : (x : Token) (k : TokenKind) → k ≡ x.kind → is_type x ≡ is_type (token x.place k)
is_type_at x k e = ap (λ z. is_type (token x.place z)) (sym e)

pub data_type_head : (e : DataType) (s m m2 : List Token) (x : Token) → IsDataType e s → s ++ m ≡ x ∷ m2 → is_type x ≡ true
data_type_head types.Uint64 s m m2 x (inl v) eq = is_type_at x (kinds.Sign signs.Uint64) (head_kind s [] m m2 v.0 (kinds.Sign signs.Uint64) x v.1 eq)
data_type_head types.Uint64 s m m2 x (inr v) eq = is_type_at x (kinds.Sign signs.Uint) (head_kind s [] m m2 v.0 (kinds.Sign signs.Uint) x v.1 eq)
data_type_head types.Int64 s m m2 x (inl v) eq = is_type_at x (kinds.Sign signs.Int64) (head_kind s [] m m2 v.0 (kinds.Sign signs.Int64) x v.1 eq)
data_type_head types.Int64 s m m2 x (inr v) eq = is_type_at x (kinds.Sign signs.Int) (head_kind s [] m m2 v.0 (kinds.Sign signs.Int) x v.1 eq)
data_type_head types.Bool s m m2 x v eq = is_type_at x (kinds.Sign signs.Bool) (head_kind s [] m m2 v.0 (kinds.Sign signs.Bool) x v.1 eq)

pub type_second : (t : DeclaredType) (s m m2 : List Token) (x y : Token) (text : List ℕ) → IsType t s → s ++ m ≡ x ∷ y ∷ m2 → x.kind ≡ kinds.Name text
    → is_type y ≡ true
type_second t s m m2 x y text v eq is = go t.domain v.1.3
  where
    w : (IsDomain t.domain then (IsDataType t.element then IsDimension t.array)) s
    w = v.1

    eq2 : w.0 ++ (w.1 ++ m) ≡ x ∷ y ∷ m2
    eq2 = front s m (y ∷ m2) x w eq

    go : (d : Domain) → IsDomain d w.0 → is_type y ≡ true
    go domains.Public (inl n) =
        let u = w.4 in
        let e : u.0 ++ (u.1 ++ m) ≡ x ∷ y ∷ m2 = front w.1 m (y ∷ m2) x u (ap (λ l. l ++ (w.1 ++ m)) (sym n) ∙ eq2) in
        absurd (clash (is_type x) (data_type_head t.element u.0 (u.1 ++ m) (y ∷ m2) x u.3 e) (is_type_at x (kinds.Name text) (sym is)))
    go domains.Public (inr q) = absurd (no_name signs.Public x.kind text (head_kind w.0 [] (w.1 ++ m) (y ∷ m2) q.0 (kinds.Sign signs.Public) x q.1 eq2) is)
    go (domains.Named z) q =
        let b : w.1 ++ m ≡ y ∷ m2 = cons_tail (sym (ap (λ l. l ++ (w.1 ++ m)) q) ∙ eq2) in
        let u = w.4 in
        data_type_head t.element u.0 (u.1 ++ m) m2 y u.3 (front w.1 m m2 y u b)

pub declaration_second : (d : DeclarationTree) (s m m2 : List Token) (x y : Token) (text : List ℕ) → IsDeclaration d s → s ++ m ≡ x ∷ y ∷ m2
    → x.kind ≡ kinds.Name text → is_type y ≡ true
declaration_second d s m m2 x y text v eq is = type_second d.declared v.0 (v.1 ++ m) m2 x y text v.3 (front s m (y ∷ m2) x v eq) is

-- What goes on after a name is told by `follows_name`

type_stops : (k : TokenKind) (p : Span) → is_type (token p k) ≡ true → follows_name (token p k) ≡ false
type_stops (kinds.Sign signs.Uint64) p e = refl
type_stops (kinds.Sign signs.Uint) p e = refl
type_stops (kinds.Sign signs.Int64) p e = refl
type_stops (kinds.Sign signs.Int) p e = refl
type_stops (kinds.Sign signs.Bool) p e = refl
type_stops k p e = absurd (false_true e)

pub type_follows_not : (y : Token) → is_type y ≡ true → follows_name y ≡ true → ⊥
type_follows_not y e f = clash (follows_name y) f (type_stops y.kind y.place e)

follows : (k : TokenKind) (p : Span) → goes_on loosest k ≡ true → follows_name (token p k) ≡ true
follows (kinds.Sign signs.LeftParenthesis) p e = refl
follows (kinds.Sign signs.LeftBracket) p e = refl
follows (kinds.Sign signs.Plus) p e = refl
follows (kinds.Sign signs.Minus) p e = refl
follows (kinds.Sign signs.Star) p e = refl
follows (kinds.Sign signs.Slash) p e = refl
follows (kinds.Sign signs.Percent) p e = refl
follows (kinds.Sign signs.Equal) p e = refl
follows (kinds.Sign signs.NotEqual) p e = refl
follows (kinds.Sign signs.Less) p e = refl
follows (kinds.Sign signs.LessOrEqual) p e = refl
follows (kinds.Sign signs.Greater) p e = refl
follows (kinds.Sign signs.GreaterOrEqual) p e = refl
follows (kinds.Sign signs.Ampersand) p e = refl
follows (kinds.Sign signs.Bar) p e = refl
follows (kinds.Sign signs.Caret) p e = refl
follows (kinds.Sign signs.DoubleAmpersand) p e = refl
follows (kinds.Sign signs.DoubleBar) p e = refl
follows k p e = absurd (false_true e)

update_follows : (k : TokenKind) (p : Span) (u : Update) → update_of (token p k) ≡ Some u → follows_name (token p k) ≡ true
update_follows (kinds.Sign signs.Assign) p u e = refl
update_follows (kinds.Sign signs.PlusAssign) p u e = refl
update_follows (kinds.Sign signs.MinusAssign) p u e = refl
update_follows (kinds.Sign signs.StarAssign) p u e = refl
update_follows (kinds.Sign signs.AmpersandAssign) p u e = refl
update_follows (kinds.Sign signs.BarAssign) p u e = refl
update_follows (kinds.Sign signs.CaretAssign) p u e = refl
update_follows (kinds.Sign signs.Increment) p u e = refl
update_follows (kinds.Sign signs.Decrement) p u e = refl
update_follows k p u e = absurd (none-some u e)

-- an assignment goes on with a bracket or an update
pub assignment_second : (a : AssignmentTree) (s m m2 : List Token) (x y : Token) → IsAssignment a s → s ++ m ≡ x ∷ y ∷ m2
    → (y.kind ≡ kinds.Sign signs.LeftBracket) ⊎ ((u : Update) × (update_of y ≡ Some u))
assignment_second a s m m2 x y v eq = go a.target.index v.3.4
  where
    eq2 : v.0 ++ (v.1 ++ m) ≡ x ∷ y ∷ m2
    eq2 = front s m (y ∷ m2) x v eq

    b : v.3.1 ++ (v.1 ++ m) ≡ y ∷ m2
    b = behind_one (token a.target.variable.place (kinds.Name a.target.variable.text)) v.0 (v.1 ++ m) m2 x y v.3 v.3.3 eq2

    go : (i : Option Tree) → optional bracketed i v.3.1 → (y.kind ≡ kinds.Sign signs.LeftBracket) ⊎ ((u : Update) × (update_of y ≡ Some u))
    go None n =
        let d = by_down a.target a.value v.1 m m2 y v.4 (ap (λ l. l ++ (v.1 ++ m)) (sym n) ∙ b) in inr (d.0, d.1)
    go (Some e) q = inl (sign_head signs.LeftBracket _ v.3.1 (v.1 ++ m) m2 y q b)

pub action_second : (c : ActionTree) (s m m2 : List Token) (x y : Token) (text : List ℕ) → IsAction c s → s ++ m ≡ x ∷ y ∷ m2
    → x.kind ≡ kinds.Name text → (s ≡ x ∷ []) ⊎ (follows_name y ≡ true)
action_second (evaluates e) s m m2 x y text v eq is = go (name_second loosest e s m m2 x y text v eq is)
  where
    go : (s ≡ x ∷ []) ⊎ (goes_on loosest y.kind ≡ true) → (s ≡ x ∷ []) ⊎ (follows_name y ≡ true)
    go (inl f) = inl f
    go (inr f) = inr (follows y.kind y.place f)
action_second (assigns a) s m m2 x y text v eq is = go (assignment_second a s m m2 x y v eq)
  where
    go : (y.kind ≡ kinds.Sign signs.LeftBracket) ⊎ ((u : Update) × (update_of y ≡ Some u)) → (s ≡ x ∷ []) ⊎ (follows_name y ≡ true)
    go (inl f) = inr (ap (λ z. follows_name (token y.place z)) f)
    go (inr f) = inr (update_follows y.kind y.place f.0 f.1)

-- an assignment or an expression, and its semicolon
pub action_follows : (c : ActionTree) (s m m2 : List Token) (x y : Token) (text : List ℕ) → (IsAction c then sign signs.Semicolon) s
    → s ++ m ≡ x ∷ y ∷ m2 → x.kind ≡ kinds.Name text → follows_name y ≡ true
action_follows c s m m2 x y text v eq is = go (action_second c v.0 (v.1 ++ m) m2 x y text v.3 (front s m (y ∷ m2) x v eq) is)
  where
    go : (v.0 ≡ x ∷ []) ⊎ (follows_name y ≡ true) → follows_name y ≡ true
    go (inr f) = f
    go (inl f) =
        let b : v.1 ++ m ≡ y ∷ m2 = behind_one x s m m2 x y v f eq in
        ap (λ z. follows_name (token y.place z)) (sym (head_kind v.1 [] m m2 v.4.0 (kinds.Sign signs.Semicolon) y v.4.1 b))

-- where the second token is at fault
pub second_fault : {C : Type 0} (W : C → Phrase) (Fits : C → Type 0) (F : C → Token → Type 0) (x y : Token) (m : List Token) (p : ParseProblem)
    → ((b : C) × (t : List Token) × W b (x ∷ t) × Fits b)
    → ((b : C) (s m' m2 : List Token) → W b s → Allowed p (Fits b) → Stops (F b) m' → s ++ m' ≡ x ∷ y ∷ m2 → ⊥)
    → Begun p ((b : C) × (t : List Token) × W b (x ∷ y ∷ t)) → Bad W Fits F (x ∷ y ∷ m) p (y ∷ m)
second_fault W Fits F x y m p before never begun = record {
  s = x ∷ [];
  x = y;
  m = m;
  split = refl;
  rest = refl;
  before = inr before;
  never = λ b s' m' m2 v al st eq. never b s' m' m2 v al st eq;
  begun = begun;
}
