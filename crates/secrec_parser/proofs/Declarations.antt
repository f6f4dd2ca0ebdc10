-- Readings of expressions in their places, and of declarations.
use Rattle.std.proofs.Common.{◌≡◌, ℕ, suc, ◌<◌, ◌≤◌, List, [], ◌∷◌, ◌++◌, refl, sym, ap, ◌∙◌, subst, Ok, Err, Bool, true, false, cond, Option, Some}
use Rattle.std.proofs.Common.{None, arith}
use Rattle.std.specs.Prelude.{nat_eq}
use Rattle.std.proofs.lemmas.Bool.{eqb-true, eqb-false}
use Rattle.sc_text.specs.declared.span.Span.{Span}
use Rattle.secrec_lexer.specs.declared.sign.Sign.{Sign}
use Rattle.secrec_lexer.specs.declared.sign.Sign.TheVariants as signs
use Rattle.secrec_lexer.specs.declared.token.TokenKind.{TokenKind}
use Rattle.secrec_lexer.specs.declared.token.TokenKind.TheVariants as kinds
use Rattle.secrec_lexer.specs.declared.token.Token.{Token}
use Rattle.secrec_lexer.specs.Tokens.{is_sign, IsEnded}
use Rattle.program_trees.specs.declared.statement.Identifier.{Identifier}
use Rattle.program_trees.specs.declared.statement.DeclaredType.{DeclaredType}
use Rattle.program_trees.specs.Tree.{Tree}
use Rattle.program_trees.specs.Statements.{DeclarationTree}
use Rattle.program_trees.specs.Heights.{height, optional_height, declaration_height}
use Rattle.expression_parser.specs.declared.problem.ParseProblem.TheVariants.{TooHigh}
use Rattle.expression_parser.specs.Phrases.{Phrase, token, sign, ◌then◌}
use Rattle.expression_parser.specs.Grammar.{IsExpression, loosest}
use Rattle.expression_parser.specs.Follow.{goes_on, Free}
use Rattle.expression_parser.specs.Steps.{Outcome, ◌>>=◌, expect}
use Rattle.expression_parser.specs.Steps as expressions
use Rattle.expression_parser.proofs.Reading.{Reads, Stops}
use Rattle.expression_parser.proofs.Tokens.{Any, All, origin, any_stops, good_ended, head_kind, is_sign-true, is_sign-false}
use Rattle.expression_parser.proofs.Nodes.{Low, tall, leaf, leaf_token}
use Rattle.expression_parser.proofs.Levels.{at_most_reads}
use Rattle.secrec_parser.specs.Grammar.{identifier, parenthesised, bracketed, initialiser, optional, IsType, IsDeclaration}
use Rattle.secrec_parser.specs.inner.Steps.{operand, at_sign, size, optional_operand, declared_type, declaration_step}
use Rattle.secrec_parser.specs.inner.Steps as steps
use Rattle.secrec_parser.proofs.Made.{Made, Both, reads_same, seq, made, sign_seq, sign_end}
use Rattle.secrec_parser.proofs.Heads.{some_reads, none_reads, optional_high}
use Rattle.secrec_parser.proofs.TypeReadings.{is_one, NoBracket, lone, type_reads, identifier_reads}

pub bind_bind : {A B C : Type 0} (o : Outcome A) (f : A × List Token → Outcome B) (g : B × List Token → Outcome C) → ((o >>= f) >>= g) ≡ (o >>= λ a. f a >>= g)
bind_bind (Ok o) f g = refl
bind_bind (Err e) f g = refl

pub operand_reads : (h : ℕ) (w : List Token) → IsEnded w → Reads (IsExpression loosest) (Low h) (Free loosest) w (operand h w)
operand_reads h w en = at_most_reads h loosest w en

-- the next token is this sign
abbrev pub Before : {C : Type 0} → Sign → C → Token → Type 0
Before s c x = x.kind ≡ kinds.Sign s

-- what begins with a sign may stand where that sign may
pub sign_first : (F : Token → Type 0) (s : Sign) (P : Phrase) (t m : List Token) → ((q : Span) → F (token q (kinds.Sign s))) → (sign s then P) t
    → Stops F (t ++ m)
sign_first F s P t m f v =
    let q = v.3 in
    subst (λ l. Stops F (l ++ m)) (sym (v.2 ∙ ap (λ l. l ++ v.1) q.1)) (f q.0)

pub last_sign_first : (F : Token → Type 0) (s : Sign) (t m : List Token) → ((q : Span) → F (token q (kinds.Sign s))) → sign s t → Stops F (t ++ m)
last_sign_first F s t m f v = subst (λ l. Stops F (l ++ m)) (sym v.1) (f v.0)

-- a sign that a phrase begins with is the next token
pub sign_head : (s : Sign) (P : Phrase) (t m m2 : List Token) (x : Token) → (sign s then P) t → t ++ m ≡ x ∷ m2 → x.kind ≡ kinds.Sign s
sign_head s P t m m2 x v eq =
    let q = v.3 in sym (head_kind t v.1 m m2 q.0 (kinds.Sign s) x (v.2 ∙ ap (λ l. l ++ v.1) q.1) eq)

pub leaf_is : IsExpression loosest leaf (leaf_token ∷ [])
leaf_is = refl

-- an expression between two signs
module _ (first last : Sign) (free : (e : Tree) (q : Span) → Free loosest e (token q (kinds.Sign last))) (h : ℕ) where
  abbrev pub Between : Tree → Phrase
  Between e ts = (sign first then IsExpression loosest e then sign last) ts

  pub between_leaf : Between leaf (token origin (kinds.Sign first) ∷ leaf_token ∷ lone last)
  between_leaf = (token origin (kinds.Sign first) ∷ [], leaf_token ∷ lone last, refl, (origin, refl), (leaf_token ∷ [], lone last, refl, refl, (origin, refl)))

  Closed : Tree × Unit {0} → Phrase
  Closed = Both (IsExpression loosest) (λ e (u : Unit {0}). sign last)

  pub between_reads : 0 < h → (w : List Token) → IsEnded w
      → Reads Between (Low h) Any w (expect first w >>= λ a. operand h a.1 >>= λ e. expect last e.1 >>= λ b. Ok (e.0, b.1))
  unfolding Closed
  between_reads max_height w en =
      reads_same (Made (λ (v : Tree × Unit {0}). v.0) (λ v. sign first then Closed v)) Between (Low h) Any Any
      (λ c s v. subst (λ z. Between z s) (sym v.1) v.2)
      (λ c s v. ((c, tt), refl, v))
      (λ c m st. st) w _
      (sign_seq first Closed (λ (v : Tree × Unit {0}). v.0) (Low h) Any
      ((leaf, tt), leaf_token ∷ lone last, (leaf_token ∷ [], lone last, refl, refl, (origin, refl)), omega arith)
      w _ en (λ p r en2.
      seq (IsExpression loosest) (Low h) (Free loosest) (λ e (u : Unit {0}). sign last) (λ e u. e) (Low h) Any
      (λ e u t v f. f)
      (λ e u t m v st. last_sign_first (Free loosest e) last t m (free e) v)
      (λ e s v. (tt, lone last, (origin, refl), λ f. f))
      r (operand h r) _ (operand_reads h r en2) (λ e r2 is g. sign_end last e (Low h) g.fits r2 (good_ended g en2))))

pub parenthesised_reads : (h : ℕ) → 0 < h → (w : List Token) → IsEnded w → Reads parenthesised (Low h) Any w (steps.parenthesised h w)
parenthesised_reads h = between_reads signs.LeftParenthesis signs.RightParenthesis (λ e q. refl) h

pub bracketed_reads : (h : ℕ) → 0 < h → (w : List Token) → IsEnded w → Reads bracketed (Low h) Any w (steps.bracketed h w)
bracketed_reads h = between_reads signs.LeftBracket signs.RightBracket (λ e q. refl) h

abbrev pub LowOption : ℕ → Option Tree → Type 0
LowOption h c = optional_height c ≤ h

abbrev pub NoParenthesis : {C : Type 0} → C → Token → Type 0
NoParenthesis c x = is_sign signs.LeftParenthesis x ≡ false

abbrev pub NoAssign : {C : Type 0} → C → Token → Type 0
NoAssign c x = is_sign signs.Assign x ≡ false

pub clash : (b : Bool) → b ≡ true → b ≡ false → ⊥
clash b t f = cc

pub no_height : (e : Tree) → height e ≤ 0 → ⊥
no_height e l = let t = tall e in omega arith

pub known_kind : (x : Token) (s : Sign) → x.kind ≡ kinds.Sign s → x ≡ token x.place (kinds.Sign s)
known_kind x s k = ap (λ z. token x.place z) k

pub size_reads : (h : ℕ) (w : List Token) → IsEnded w → Reads (optional parenthesised) (LowOption h) NoParenthesis w (size h w)
size_reads h [] en = cc
size_reads h (x ∷ m) en = go (is_sign signs.LeftParenthesis x) refl
  where
    some : is_sign signs.LeftParenthesis x ≡ true → (b : Bool) → nat_eq h 0 ≡ b
        → Reads (optional parenthesised) (LowOption h) NoParenthesis (x ∷ m)
        (cond b (Err (TooHigh, x ∷ m)) (steps.parenthesised h (x ∷ m) >>= λ e. Ok (Some e.0, e.1)))
    some t true z =
        let n = eqb-true h 0 z in
        optional_high parenthesised (LowOption h) NoParenthesis x m (clash (is_sign signs.LeftParenthesis x) t)
        (λ e l. no_height e (omega arith)) (
          leaf,
          leaf_token ∷ lone signs.RightParenthesis,
          (
            x ∷ [],
            leaf_token ∷ lone signs.RightParenthesis,
            refl,
            is_one (kinds.Sign signs.LeftParenthesis) x (is_sign-true signs.LeftParenthesis x t),
            (leaf_token ∷ [], lone signs.RightParenthesis, refl, refl, (origin, refl)),
          ),
        )
    some t false z =
        let n = eqb-false h 0 z in
        some_reads parenthesised (Low h) Any (LowOption h) NoParenthesis (λ e l. l) (λ e l. l)
        (λ e m' st. any_stops (λ y. is_sign signs.LeftParenthesis y ≡ false) [] m' st) x m (steps.parenthesised h (x ∷ m))
        (clash (is_sign signs.LeftParenthesis x) t) (parenthesised_reads h (omega arith) (x ∷ m) en)

    go : (b : Bool) → is_sign signs.LeftParenthesis x ≡ b
        → Reads (optional parenthesised) (LowOption h) NoParenthesis (x ∷ m)
        (cond b (cond (nat_eq h 0) (Err (TooHigh, x ∷ m)) (steps.parenthesised h (x ∷ m) >>= λ e. Ok (Some e.0, e.1))) (Ok (None, x ∷ m)))
    go true t = some t (nat_eq h 0) refl
    go false t =
        none_reads parenthesised (LowOption h) NoParenthesis x m (omega arith)
        (λ e s m' m2 v eq. is_sign-false signs.LeftParenthesis x t
        (sign_head signs.LeftParenthesis (IsExpression loosest e then sign signs.RightParenthesis) s m' m2 x v eq))

-- the value after `=`, in front of this sign
module _ (h : ℕ) (end : Sign) (free : (e : Tree) (x : Token) → x.kind ≡ kinds.Sign end → Free loosest e x)
    (no_assign : (x : Token) → x.kind ≡ kinds.Sign end → is_sign signs.Assign x ≡ false) where
  free_stop : (e : Tree) (m : List Token) → Stops (Before end e) m → Stops (Free loosest e) m
  free_stop e [] st = st
  free_stop e (y ∷ m) st = free e y st

  equals_reads : 0 < h → (w : List Token) → IsEnded w → Reads initialiser (Low h) (Before end) w (expect signs.Assign w >>= λ a. operand h a.1)
  equals_reads max_height w en =
      reads_same (Made (λ (e : Tree). e) (λ e. sign signs.Assign then IsExpression loosest e)) initialiser (Low h) (Before end) (Before end)
      (λ c s v. subst (λ z. initialiser z s) (sym v.1) v.2)
      (λ c s v. (c, refl, v))
      (λ c m st. st) w _
      (sign_seq signs.Assign (IsExpression loosest) (λ (e : Tree). e) (Low h) (Before end)
      (leaf, leaf_token ∷ [], refl, omega arith)
      w (λ a. operand h a.1) en (λ p r en2.
      reads_same (IsExpression loosest) (Made (λ (e : Tree). e) (IsExpression loosest)) (Low h) (Free loosest) (Before end)
      (λ c s v. (c, refl, v)) (λ c s v. subst (λ z. IsExpression loosest z s) (sym v.1) v.2) free_stop r (operand h r) (operand_reads h r en2)))

  no_sign : (c : Option Tree) (x : Token) → is_sign signs.Assign x ≡ true → Before end c x → ⊥
  no_sign c x t k = clash (is_sign signs.Assign x) t (no_assign x k)

  pub initialiser_reads : (w : List Token) → IsEnded w → Reads (optional initialiser) (LowOption h) (Before end) w (steps.initialiser h w)
  initialiser_reads [] en = cc
  initialiser_reads (x ∷ m) en = go (is_sign signs.Assign x) refl
    where
      some : is_sign signs.Assign x ≡ true → (b : Bool) → nat_eq h 0 ≡ b
          → Reads (optional initialiser) (LowOption h) (Before end) (x ∷ m)
          (cond b (Err (TooHigh, x ∷ m)) (expect signs.Assign (x ∷ m) >>= λ a. operand h a.1 >>= λ e. Ok (Some e.0, e.1)))
      some t true z =
          let n = eqb-true h 0 z in
          optional_high initialiser (LowOption h) (Before end) x m (no_sign None x t)
          (λ e l. no_height e (omega arith))
          (leaf, leaf_token ∷ [], (x ∷ [], leaf_token ∷ [], refl, is_one (kinds.Sign signs.Assign) x (is_sign-true signs.Assign x t), refl))
      some t false z =
          let n = eqb-false h 0 z in
          subst (Reads (optional initialiser) (LowOption h) (Before end) (x ∷ m))
          (bind_bind (expect signs.Assign (x ∷ m)) (λ a. operand h a.1) (λ e. Ok (Some e.0, e.1)))
          (some_reads initialiser (Low h) (Before end) (LowOption h) (Before end) (λ e l. l) (λ e l. l) (λ e m' st. same e m' st) x m
          (expect signs.Assign (x ∷ m) >>= λ a. operand h a.1)
          (no_sign None x t) (equals_reads (omega arith) (x ∷ m) en))
        where
          same : (e : Tree) (m : List Token) → Stops (λ y. y.kind ≡ kinds.Sign end) m → Stops (Before end e) m
          same e [] st = st
          same e (y ∷ m) st = st

      go : (b : Bool) → is_sign signs.Assign x ≡ b
          → Reads (optional initialiser) (LowOption h) (Before end) (x ∷ m)
          (cond b (cond (nat_eq h 0) (Err (TooHigh, x ∷ m)) (expect signs.Assign (x ∷ m) >>= λ a. operand h a.1 >>= λ e. Ok (Some e.0, e.1)))
          (Ok (None, x ∷ m)))
      go true t = some t (nat_eq h 0) refl
      go false t =
          none_reads initialiser (LowOption h) (Before end) x m (omega arith)
          (λ e s m' m2 v eq. is_sign-false signs.Assign x t (sign_head signs.Assign (IsExpression loosest e) s m' m2 x v eq))

-- Declarations, each in front of a semicolon

abbrev pub LowDeclaration : ℕ → DeclarationTree → Type 0
LowDeclaration h d = declaration_height d ≤ h

abbrev pub Semicolon : {C : Type 0} → C → Token → Type 0
Semicolon c x = x.kind ≡ kinds.Sign signs.Semicolon

pub kind_free : (e : Tree) (k : TokenKind) (x : Token) → goes_on loosest k ≡ false → x.kind ≡ k → Free loosest e x
kind_free e k x f is = ap (goes_on loosest) is ∙ f

pub semicolon_free : (e : Tree) (x : Token) → x.kind ≡ kinds.Sign signs.Semicolon → Free loosest e x
semicolon_free e x k = kind_free e (kinds.Sign signs.Semicolon) x refl k

pub parenthesis_free : (e : Tree) (x : Token) → x.kind ≡ kinds.Sign signs.RightParenthesis → Free loosest e x
parenthesis_free e x k = kind_free e (kinds.Sign signs.RightParenthesis) x refl k

other_sign : (s : Sign) (x : Token) (k : TokenKind) → x.kind ≡ k → is_sign s (token x.place k) ≡ false → is_sign s x ≡ false
other_sign s x k e f = ap (λ z. is_sign s (token x.place z)) e ∙ f

pub semicolon_assign : (x : Token) → x.kind ≡ kinds.Sign signs.Semicolon → is_sign signs.Assign x ≡ false
semicolon_assign x k = other_sign signs.Assign x (kinds.Sign signs.Semicolon) k refl

abbrev Rest : Identifier × (Option Tree × Option Tree) → Phrase
Rest = Both identifier (λ x. Both (optional parenthesised) (λ s. optional initialiser))

abbrev declared_as : DeclaredType × (Identifier × (Option Tree × Option Tree)) → DeclarationTree
declared_as v = record { declared = v.0; variable = v.1.0; size = v.1.1.0; value = v.1.1.1 }

abbrev pub some_name : Identifier
some_name = record { place = origin; text = [] }

abbrev pub name_token : Token
name_token = token origin (kinds.Name [])

size_first : (s v : Option Tree) (t m : List Token) → optional initialiser v t → Stops (λ x. x.kind ≡ kinds.Sign signs.Semicolon) m
    → Stops (NoParenthesis s) (t ++ m)
size_first s None t [] v st = absurd st
size_first s None t (y ∷ m) v st =
    subst (λ l. Stops (NoParenthesis s) (l ++ y ∷ m)) (sym v) (other_sign signs.LeftParenthesis y (kinds.Sign signs.Semicolon) st refl)
size_first s (Some e) t m v st = sign_first (NoParenthesis s) signs.Assign (IsExpression loosest e) t m (λ q. refl) v

name_first : {C : Type 0} (c : C) (v : Identifier × (Option Tree × Option Tree)) (t m : List Token) → Rest v t → Stops (NoBracket c) (t ++ m)
name_first c v t m w = subst (λ l. Stops (NoBracket c) (l ++ m)) (sym (w.2 ∙ ap (λ l. l ++ w.1) w.3)) refl

pub declaration_reads : (h : ℕ) (w : List Token) → IsEnded w → Reads IsDeclaration (LowDeclaration (suc h)) Semicolon w (declaration_step h w)
unfolding declaration_step
declaration_reads h w en =
    reads_same (Made declared_as (Both IsType (λ t. Rest))) IsDeclaration (LowDeclaration (suc h)) Semicolon Semicolon
    (λ c s v. subst (λ z. IsDeclaration z s) (sym v.1) v.2)
    (λ c s v. ((c.declared, (c.variable, (c.size, c.value))), refl, v))
    (λ c m st. st) w _
    (seq IsType All NoBracket (λ t. Rest) (λ t v. declared_as (t, v)) (LowDeclaration (suc h)) Semicolon
    (λ t v s u f. tt)
    (λ t v s m u st. name_first t v s m u)
    (λ t s u. ((some_name, (None, None)), name_token ∷ [], (name_token ∷ [], [], refl, refl, ([], [], refl, refl, refl)), λ f. omega arith))
    w (declared_type w) _ (type_reads w en) (λ t r is g.
    seq identifier All Any (λ x. Both (optional parenthesised) (λ s. optional initialiser)) (λ x v. declared_as (t, (x, v))) (LowDeclaration (suc h)) Semicolon
    (λ x v s u f. tt)
    (λ x v s m u st. any_stops (λ y. y.kind ≡ kinds.Sign signs.Semicolon) s m st)
    (λ x s u. ((None, None), [], ([], [], refl, refl, refl), λ f. omega arith))
    r (expressions.identifier r) _ (identifier_reads r (good_ended g en)) (λ x r2 is2 g2.
    seq (optional parenthesised) (LowOption h) NoParenthesis (λ s. optional initialiser) (λ s v. declared_as (t, (x, (s, v))))
    (LowDeclaration (suc h)) Semicolon
    (λ s v ts u f. omega (arith, f))
    (λ s v ts m u st. size_first s v ts m u st)
    (λ s ts u. (None, [], refl, λ f. omega (arith, f)))
    r2 (size h r2) _ (size_reads h r2 (good_ended g2 (good_ended g en))) (λ s r3 is3 g3.
    let fits = g3.fits in
    made (optional initialiser) (LowOption h) (Before signs.Semicolon) (λ v. declared_as (t, (x, (s, v)))) (LowDeclaration (suc h)) Semicolon
    (λ v f. omega (arith, f)) (λ v f. omega (arith, f, fits)) (λ v m st. same v m st)
    r3 (steps.initialiser h r3) (initialiser_reads h signs.Semicolon semicolon_free semicolon_assign r3 (good_ended g3 (good_ended g2 (good_ended g en))))))))
  where
    same : (v : Option Tree) (m : List Token) → Stops (λ y. y.kind ≡ kinds.Sign signs.Semicolon) m → Stops (Before signs.Semicolon v) m
    same v [] st = st
    same v (y ∷ m) st = st
