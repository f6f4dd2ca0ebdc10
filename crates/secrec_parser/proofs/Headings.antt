-- Readings of the parentheses of a `for`, and of what may be left out before a semicolon.
use Rattle.std.proofs.Common.{◌≡◌, ℕ, suc, ◌-◌, ◌≤◌, List, [], ◌∷◌, ◌++◌, ◌⊎◌, inl, inr, refl, sym, ap, ◌∙◌, subst, append_assoc, Ok, Err, Bool, true}
use Rattle.std.proofs.Common.{false, cond, Option, Some, None, arith}
use Rattle.std.specs.Prelude.{nat_lt, max}
use Rattle.std.proofs.lemmas.Bool.{ltb-true, ltb-false}
use Rattle.sc_text.specs.declared.span.Span.{Span}
use Rattle.secrec_lexer.specs.declared.sign.Sign.{Sign}
use Rattle.secrec_lexer.specs.declared.sign.Sign.TheVariants as signs
use Rattle.secrec_lexer.specs.declared.token.TokenKind.{TokenKind}
use Rattle.secrec_lexer.specs.declared.token.TokenKind.TheVariants as kinds
use Rattle.secrec_lexer.specs.declared.token.Token.{Token}
use Rattle.secrec_lexer.specs.Tokens.{is_sign, IsEnded}
use Rattle.program_trees.specs.declared.expression.DataType.TheVariants as types
use Rattle.program_trees.specs.declared.statement.Identifier.{Identifier}
use Rattle.program_trees.specs.declared.statement.Domain.TheVariants as domains
use Rattle.program_trees.specs.declared.statement.DeclaredType.{DeclaredType}
use Rattle.program_trees.specs.Tree.{Tree}
use Rattle.program_trees.specs.Statements.{DeclarationTree, TargetTree, AssignmentTree, StartTree, starts_with_nothing, starts_with_declaration}
use Rattle.program_trees.specs.Statements.{starts_with_assignment, StepTree, steps_by_nothing, steps_by_assignment, steps_by_expression}
use Rattle.program_trees.specs.Heights.{optional_height, assignment_height, start_height, step_height}
use Rattle.expression_parser.specs.declared.problem.ParseProblem.TheVariants.{Unexpected, TooHigh}
use Rattle.expression_parser.specs.Phrases.{Phrase, token, one, sign, ◌then◌}
use Rattle.expression_parser.specs.Grammar.{IsExpression, loosest}
use Rattle.expression_parser.specs.Follow.{Free}
use Rattle.expression_parser.specs.Steps.{Outcome, ◌>>=◌, expect}
use Rattle.expression_parser.specs.Steps as expressions
use Rattle.expression_parser.proofs.Reading.{Bad, Reads, Stops, reads_as}
use Rattle.expression_parser.proofs.Peek.{reads_peek}
use Rattle.expression_parser.proofs.Tokens.{Any, origin, any_stops, good_ended, after_kind, head_kind, is_sign-true, is_sign-false}
use Rattle.expression_parser.proofs.Nodes.{Low, tall, leaf, leaf_token, first_token}
use Rattle.secrec_parser.specs.declared.assignment.Update.{Update}
use Rattle.secrec_parser.specs.declared.assignment.Update.TheVariants as updates
use Rattle.secrec_parser.specs.Grammar.{identifier, optional, IsDeclaration, IsAssignment, IsStart, IsStep, heading}
use Rattle.secrec_parser.specs.inner.Steps.{operand, optional_operand, is_type, is_named_type, declares, update_of, declaration_step, assignment_step}
use Rattle.secrec_parser.specs.inner.Steps.{target_index, assigned, assigned_by, ActionTree, assigns, evaluates, action, start_step, step_of}
use Rattle.secrec_parser.specs.inner.Steps.{last_step, start_part, test_part, last_part}
use Rattle.secrec_parser.specs.inner.Steps as steps
use Rattle.secrec_parser.proofs.Clashes.{false_true}
use Rattle.secrec_parser.proofs.Made.{Made, Both, reads_same, seq, made, sign_seq, sign_end}
use Rattle.secrec_parser.proofs.Heads.{nothing_reads, unexpected, some_reads, none_reads}
use Rattle.secrec_parser.proofs.TypeReadings.{is_one, lone}
use Rattle.secrec_parser.proofs.Declarations.{operand_reads, Before, last_sign_first, clash, LowOption, LowDeclaration, Semicolon, semicolon_free}
use Rattle.secrec_parser.proofs.Declarations.{parenthesis_free, declaration_reads, some_name, name_token}
use Rattle.secrec_parser.proofs.Assignments.{alive_by, gets_leaf, equals_token, LowAssignment, assignment_reads, IsAction, LowAction, action_reads}
use Rattle.secrec_parser.proofs.Leaders.{begins_type, declared_kind, front}
use Rattle.secrec_parser.proofs.Names.{declaration_second, assignment_second, second_fault}

-- An expression, or nothing, in front of a semicolon

pub optional_reads : (h : ℕ) (w : List Token) → IsEnded w → Reads (optional (IsExpression loosest)) (LowOption h) Semicolon w (optional_operand h w)
optional_reads h [] en = cc
optional_reads h (x ∷ m) en = go (is_sign signs.Semicolon x) refl
  where
    stop : (e : Tree) (m : List Token) → Stops (λ y. y.kind ≡ kinds.Sign signs.Semicolon) m → Stops (Free loosest e) m
    stop e [] st = st
    stop e (y ∷ m) st = semicolon_free e y st

    go : (b : Bool) → is_sign signs.Semicolon x ≡ b
        → Reads (optional (IsExpression loosest)) (LowOption h) Semicolon (x ∷ m) (cond b (Ok (None, x ∷ m)) (operand h (x ∷ m) >>= λ e. Ok (Some e.0, e.1)))
    go true t =
        none_reads (IsExpression loosest) (LowOption h) Semicolon x m (omega arith)
        (λ e s m' m2 v eq.
        let f = first_token loosest e s m' m2 x v eq in
        let g : expressions.least (kinds.Sign signs.Semicolon) ≡ Some f.0 = ap expressions.least (sym (is_sign-true signs.Semicolon x t)) ∙ f.1 in
        cc)
    go false t =
        some_reads (IsExpression loosest) (Low h) (Free loosest) (LowOption h) Semicolon (λ e l. l) (λ e l. l) stop x m (operand h (x ∷ m))
        (is_sign-false signs.Semicolon x t) (operand_reads h (x ∷ m) en)

abbrev pub TestPart : Option Tree → Phrase
TestPart e ts = (optional (IsExpression loosest) e then sign signs.Semicolon) ts

optional_low : (h : ℕ) → LowOption h None
optional_low h = omega arith

pub test_reads : (h : ℕ) (w : List Token) → IsEnded w → Reads TestPart (LowOption h) Any w (test_part h w)
unfolding test_part
test_reads h w en =
    reads_same (Made (λ (v : Option Tree × Unit {0}). v.0) (Both (optional (IsExpression loosest)) (λ e (u : Unit {0}). sign signs.Semicolon)))
    TestPart (LowOption h) Any Any
    (λ c s v. subst (λ z. TestPart z s) (sym v.1) v.2)
    (λ c s v. ((c, tt), refl, v))
    (λ c m st. st) w _
    (seq (optional (IsExpression loosest)) (LowOption h) Semicolon (λ e (u : Unit {0}). sign signs.Semicolon) (λ e u. e) (LowOption h) Any
    (λ e u t v f. f)
    (λ e u t m v st. last_sign_first (λ y. y.kind ≡ kinds.Sign signs.Semicolon) signs.Semicolon t m (λ q. refl) v)
    (λ e s v. (tt, lone signs.Semicolon, (origin, refl), λ f. f))
    w (optional_operand h w) _ (optional_reads h w en) (λ e r is g. sign_end signs.Semicolon e (LowOption h) g.fits r (good_ended g en)))

-- The first part

update_no_type : (k : TokenKind) (p : Span) (u : Update) → update_of (token p k) ≡ Some u → is_type (token p k) ≡ false
update_no_type (kinds.Sign signs.Uint64) p u e = cc
update_no_type (kinds.Sign signs.Uint) p u e = cc
update_no_type (kinds.Sign signs.Int64) p u e = cc
update_no_type (kinds.Sign signs.Int) p u e = cc
update_no_type (kinds.Sign signs.Bool) p u e = cc
update_no_type k p u e = refl

abbrev pub LowStart : ℕ → StartTree → Type 0
LowStart h a = start_height a ≤ h

no_start : (x : Token) (s : Sign) (text : List ℕ) → kinds.Name text ≡ x.kind → x.kind ≡ kinds.Sign s → ⊥
no_start x s text e f = let g = e ∙ f in cc

pub no_declaration : (d : DeclarationTree) (s m m2 : List Token) (x : Token) → IsDeclaration d s → s ++ m ≡ x ∷ m2 → begins_type x.kind ≡ true
no_declaration d s m m2 x v eq = declared_kind d.declared v.0 (v.1 ++ m) m2 x v.3 (front s m m2 x v eq)

pub assignment_head : (a : AssignmentTree) (s m m2 : List Token) (x : Token) → IsAssignment a s → s ++ m ≡ x ∷ m2 → kinds.Name a.target.variable.text ≡ x.kind
assignment_head a s m m2 x v eq =
    let u = v.3 in
    head_kind v.0 u.1 (v.1 ++ m) m2 a.target.variable.place (kinds.Name a.target.variable.text) x (u.2 ∙ ap (λ l. l ++ u.1) u.3) (front s m m2 x v eq)

pub declaration_some : (d : DeclarationTree) → IsDeclaration d [] → ⊥
declaration_some d v = let f : false ≡ true = no_declaration d [] (leaf_token ∷ []) [] leaf_token v refl in cc

pub assignment_some : (a : AssignmentTree) → IsAssignment a [] → ⊥
assignment_some a v = let f = assignment_head a [] (leaf_token ∷ []) [] leaf_token v refl in cc

-- `x uint64 a`, which is as low as a declaration can be
abbrev pub typed_by : Token → List ℕ → DeclaredType
typed_by x text = record { place = x.place; domain = domains.Named (record { place = x.place; text = text }); element = types.Uint64; array = false }

abbrev pub declared_by : Token → List ℕ → DeclarationTree
declared_by x text = record { declared = typed_by x text; variable = some_name; size = None; value = None }

abbrev pub uint_token : Token
uint_token = token origin (kinds.Sign signs.Uint64)

pub is_declared_by : (x : Token) (text : List ℕ) → x.kind ≡ kinds.Name text → IsDeclaration (declared_by x text) (x ∷ uint_token ∷ name_token ∷ [])
is_declared_by x text k = (
  x ∷ uint_token ∷ [],
  name_token ∷ [],
  refl,
  (refl, (x ∷ [], uint_token ∷ [], refl, ap (λ z. token x.place z ∷ []) k, (uint_token ∷ [], [], refl, inl (origin, refl), inl refl))),
  (name_token ∷ [], [], refl, refl, ([], [], refl, refl, refl)),
)

abbrev pub semicolon_token : Token
semicolon_token = token origin (kinds.Sign signs.Semicolon)

-- `x = 0`
abbrev set_by : Token → List ℕ → AssignmentTree
set_by x text = record { target = record { variable = record { place = x.place; text = text }; index = None }; value = leaf }

is_set_by : (x : Token) (text : List ℕ) → x.kind ≡ kinds.Name text → IsAssignment (set_by x text) (x ∷ equals_token ∷ leaf_token ∷ [])
is_set_by x text k = (
  x ∷ [],
  equals_token ∷ leaf_token ∷ [],
  refl,
  (x ∷ [], [], refl, ap (λ z. token x.place z ∷ []) k, refl),
  (gets_leaf (record { variable = record { place = x.place; text = text }; index = None })).1,
)

module _ (h : ℕ) (one : 1 ≤ h) where
  declared_reads : (w : List Token) → IsEnded w
      → Reads (Made starts_with_declaration IsDeclaration) (LowStart h) Semicolon w (declaration_step (h - 1) w >>= λ d. Ok (starts_with_declaration d.0, d.1))
  declared_reads w en =
      made IsDeclaration (LowDeclaration (suc (h - 1))) Semicolon starts_with_declaration (LowStart h) Semicolon
      (λ d l. omega (arith, l)) (λ d l. omega (arith, l, one)) same w (declaration_step (h - 1) w) (declaration_reads (h - 1) w en)
    where
      same : (d : DeclarationTree) (m : List Token) → Stops (λ y. y.kind ≡ kinds.Sign signs.Semicolon) m → Stops (Semicolon d) m
      same d [] st = st
      same d (y ∷ m) st = st

  set_reads : 2 ≤ h → (w : List Token) → IsEnded w
      → Reads (Made starts_with_assignment IsAssignment) (LowStart h) Semicolon w (assignment_step h w >>= λ a. Ok (starts_with_assignment a.0, a.1))
  set_reads two w en =
      made IsAssignment (LowAssignment h) (Before signs.Semicolon) starts_with_assignment (LowStart h) Semicolon
      (λ a l. l) (λ a l. l) same w (assignment_step h w) (assignment_reads signs.Semicolon semicolon_free (λ p. refl) h two w en)
    where
      same : (a : AssignmentTree) (m : List Token) → Stops (λ y. y.kind ≡ kinds.Sign signs.Semicolon) m → Stops (Before signs.Semicolon a) m
      same a [] st = st
      same a (y ∷ m) st = st

  declared_up : (c : StartTree) (s : List Token) → Made starts_with_declaration IsDeclaration c s → IsStart c s
  declared_up c s v = subst (λ z. IsStart z s) (sym v.1) v.2

  set_up : (c : StartTree) (s : List Token) → Made starts_with_assignment IsAssignment c s → IsStart c s
  set_up c s v = subst (λ z. IsStart z s) (sym v.1) v.2

  at_end : (c : StartTree) (s m m2 : List Token) (x : Token) → s ≡ [] → Stops (Semicolon c) m → s ++ m ≡ x ∷ m2 → x.kind ≡ kinds.Sign signs.Semicolon
  at_end c s m m2 x n st eq = subst (Stops (Semicolon c)) (ap (λ l. l ++ m) (sym n) ∙ eq) st

  -- a declaration that begins with a sign
  signed_reads : (x : Token) (m : List Token) (s : Sign) → x.kind ≡ kinds.Sign s → is_sign signs.Semicolon x ≡ false → IsEnded (x ∷ m)
      → Reads IsStart (LowStart h) Semicolon (x ∷ m) (declaration_step (h - 1) (x ∷ m) >>= λ d. Ok (starts_with_declaration d.0, d.1))
  signed_reads x m k is other en =
      reads_as (Made starts_with_declaration IsDeclaration) IsStart (LowStart h) Semicolon Semicolon x declared_up down (λ c m' st. st)
      (x ∷ m) m _ refl (declared_reads (x ∷ m) en)
    where
      down : (c : StartTree) (s m' m2 : List Token) → IsStart c s → Stops (Semicolon c) m' → s ++ m' ≡ x ∷ m2 → Made starts_with_declaration IsDeclaration c s
      down starts_with_nothing s m' m2 v st eq = absurd (is_sign-false signs.Semicolon x other (at_end starts_with_nothing s m' m2 x v st eq))
      down (starts_with_declaration d) s m' m2 v st eq = (d, refl, v)
      down (starts_with_assignment a) s m' m2 v st eq = absurd (no_start x k a.target.variable.text (assignment_head a s m' m2 x v eq) is)

  -- nothing that begins a first part
  no_start_reads : (x : Token) (m : List Token) → is_sign signs.Semicolon x ≡ false → (begins_type x.kind ≡ true → ⊥)
      → ((text : List ℕ) → x.kind ≡ kinds.Name text → ⊥) → Bad IsStart (LowStart h) Semicolon (x ∷ m) Unexpected (x ∷ m)
  no_start_reads x m other no_type no_name = unexpected IsStart (LowStart h) Semicolon x m never
    where
      never : (c : StartTree) (s m' m2 : List Token) → IsStart c s → Stops (Semicolon c) m' → s ++ m' ≡ x ∷ m2 → ⊥
      never starts_with_nothing s m' m2 v st eq = is_sign-false signs.Semicolon x other (at_end starts_with_nothing s m' m2 x v st eq)
      never (starts_with_declaration d) s m' m2 v st eq = no_type (no_declaration d s m' m2 x v eq)
      never (starts_with_assignment a) s m' m2 v st eq = no_name a.target.variable.text (sym (assignment_head a s m' m2 x v eq))

  named_end : (x : Token) (text : List ℕ) → x.kind ≡ kinds.Name text → x.kind ≡ kinds.Sign signs.Semicolon → ⊥
  named_end x text k f = let g : kinds.Name text ≡ kinds.Sign signs.Semicolon = sym k ∙ f in cc

  -- a declaration that begins with a name
  named_declared : (x y : Token) (n : List Token) (text : List ℕ) → x.kind ≡ kinds.Name text → is_type y ≡ true → IsEnded (x ∷ y ∷ n)
      → Reads IsStart (LowStart h) Semicolon (x ∷ y ∷ n) (declaration_step (h - 1) (x ∷ y ∷ n) >>= λ d. Ok (starts_with_declaration d.0, d.1))
  named_declared x y n text k t en =
      reads_peek (Made starts_with_declaration IsDeclaration) IsStart (LowStart h) Semicolon Semicolon x y declared_up down (λ c m' st. st) (
        starts_with_declaration (declared_by x text),
        uint_token ∷ name_token ∷ [],
        semicolon_token,
        (declared_by x text, refl, is_declared_by x text k),
        one,
        refl,
      )
      (λ c v. declaration_some v.0 v.2)
      (x ∷ y ∷ n) n _ refl (declared_reads (x ∷ y ∷ n) en)
    where
      down : (c : StartTree) (s m' m2 : List Token) → IsStart c s → Stops (Semicolon c) m' → s ++ m' ≡ x ∷ y ∷ m2
          → Made starts_with_declaration IsDeclaration c s
      down starts_with_nothing s m' m2 v st eq = absurd (named_end x text k (at_end starts_with_nothing s m' (y ∷ m2) x v st eq))
      down (starts_with_declaration d) s m' m2 v st eq = (d, refl, v)
      down (starts_with_assignment a) s m' m2 v st eq = absurd (no_second (assignment_second a s m' m2 x y v eq))
        where
          no_second : (y.kind ≡ kinds.Sign signs.LeftBracket) ⊎ ((u : Update) × (update_of y ≡ Some u)) → ⊥
          no_second (inl f) = let g : is_type y ≡ false = ap (λ z. is_type (token y.place z)) f in cc
          no_second (inr f) = let g = update_no_type y.kind y.place f.0 f.1 in cc

  -- an assignment
  named_set : 2 ≤ h → (x y : Token) (n : List Token) (text : List ℕ) → x.kind ≡ kinds.Name text → is_type y ≡ false → IsEnded (x ∷ y ∷ n)
      → Reads IsStart (LowStart h) Semicolon (x ∷ y ∷ n) (assignment_step h (x ∷ y ∷ n) >>= λ a. Ok (starts_with_assignment a.0, a.1))
  named_set two x y n text k t en =
      reads_peek (Made starts_with_assignment IsAssignment) IsStart (LowStart h) Semicolon Semicolon x y set_up down (λ c m' st. st)
      (starts_with_assignment (set_by x text), equals_token ∷ leaf_token ∷ [], semicolon_token, (set_by x text, refl, is_set_by x text k), two, refl)
      (λ c v. assignment_some v.0 v.2)
      (x ∷ y ∷ n) n _ refl (set_reads two (x ∷ y ∷ n) en)
    where
      down : (c : StartTree) (s m' m2 : List Token) → IsStart c s → Stops (Semicolon c) m' → s ++ m' ≡ x ∷ y ∷ m2 → Made starts_with_assignment IsAssignment c s
      down starts_with_nothing s m' m2 v st eq = absurd (named_end x text k (at_end starts_with_nothing s m' (y ∷ m2) x v st eq))
      down (starts_with_declaration d) s m' m2 v st eq = absurd (clash (is_type y) (declaration_second d s m' m2 x y text v eq k) t)
      down (starts_with_assignment a) s m' m2 v st eq = (a, refl, v)

-- where a declaration alone has room, and none stands after the name
module _ (x y : Token) (n : List Token) (text : List ℕ) (k : x.kind ≡ kinds.Name text) (t : is_type y ≡ false) where
  abbrev plain : TargetTree
  plain = record { variable = record { place = x.place; text = text }; index = None }

  tall_assignment : (a : AssignmentTree) → assignment_height a ≤ 1 → ⊥
  tall_assignment a l = let h = tall a.value in omega (arith, h, l)

  plain_is : (c : StartTree) (s m m2 : List Token) → IsStart c s → LowStart 1 c → Stops (Semicolon c) m → s ++ m ≡ x ∷ y ∷ m2 → ⊥
  plain_is starts_with_nothing s m m2 v l st eq =
      let f = subst (Stops (Semicolon starts_with_nothing)) (ap (λ l. l ++ m) (sym v) ∙ eq) st in
      let g : kinds.Name text ≡ kinds.Sign signs.Semicolon = sym k ∙ f in cc
  plain_is (starts_with_declaration d) s m m2 v l st eq = clash (is_type y) (declaration_second d s m m2 x y text v eq k) t
  plain_is (starts_with_assignment a) s m m2 v l st eq = tall_assignment a l

  plain_never : (y.kind ≡ kinds.Sign signs.LeftBracket → ⊥) → update_of y ≡ None → (c : StartTree) (s m m2 : List Token) → IsStart c s
      → Stops (Semicolon c) m → s ++ m ≡ x ∷ y ∷ m2 → ⊥
  plain_never no_index no_update starts_with_nothing s m m2 v st eq =
      let f = subst (Stops (Semicolon starts_with_nothing)) (ap (λ l. l ++ m) (sym v) ∙ eq) st in
      let g : kinds.Name text ≡ kinds.Sign signs.Semicolon = sym k ∙ f in cc
  plain_never no_index no_update (starts_with_declaration d) s m m2 v st eq = clash (is_type y) (declaration_second d s m m2 x y text v eq k) t
  plain_never no_index no_update (starts_with_assignment a) s m m2 v st eq = go (assignment_second a s m m2 x y v eq)
    where
      go : (y.kind ≡ kinds.Sign signs.LeftBracket) ⊎ ((u : Update) × (update_of y ≡ Some u)) → ⊥
      go (inl f) = no_index f
      go (inr f) = let g : Some f.0 ≡ None = sym f.1 ∙ no_update in cc

  plain_before : (b : StartTree) × (s : List Token) × IsStart b (x ∷ s) × LowStart 1 b
  plain_before = (starts_with_declaration (declared_by x text), uint_token ∷ name_token ∷ [], is_declared_by x text k, omega arith)

  name_here : identifier (record { place = x.place; text = text }) (x ∷ [])
  name_here = ap (λ z. token x.place z ∷ []) k

  -- `x[0] = 0`
  indexed : AssignmentTree
  indexed = record { target = record { variable = record { place = x.place; text = text }; index = Some leaf }; value = leaf }

  index_begun : y.kind ≡ kinds.Sign signs.LeftBracket → (b : StartTree) × (s : List Token) × IsStart b (x ∷ y ∷ s)
  unfolding indexed
  index_begun f = (
    starts_with_assignment indexed,
    leaf_token ∷ lone signs.RightBracket ++ (equals_token ∷ leaf_token ∷ []),
    (
      x ∷ y ∷ leaf_token ∷ lone signs.RightBracket,
      equals_token ∷ leaf_token ∷ [],
      refl,
      (
        x ∷ [],
        y ∷ leaf_token ∷ lone signs.RightBracket,
        refl,
        name_here,
        (
          y ∷ [],
          leaf_token ∷ lone signs.RightBracket,
          refl,
          is_one (kinds.Sign signs.LeftBracket) y f,
          (leaf_token ∷ [], lone signs.RightBracket, refl, refl, (origin, refl)),
        ),
      ),
      inl (equals_token ∷ [], leaf_token ∷ [], refl, (origin, refl), refl),
    ),
  )

  update_begun : (u : Update) → update_of y ≡ Some u → (b : StartTree) × (s : List Token) × IsStart b (x ∷ y ∷ s)
  update_begun u f =
      let a = alive_by plain y u f in
      (starts_with_assignment (record { target = plain; value = a.0 }), a.1, (x ∷ [], y ∷ a.1, refl, (x ∷ [], [], refl, name_here, refl), a.2))

  plain_assigned : (u : Update) → update_of y ≡ Some u → Bad IsStart (LowStart 1) Semicolon (x ∷ y ∷ n) TooHigh (y ∷ n)
  plain_assigned u f = second_fault IsStart (LowStart 1) Semicolon x y n TooHigh plain_before plain_is (update_begun u f)

  plain_by : (o : Option Update) → update_of y ≡ o → (y.kind ≡ kinds.Sign signs.LeftBracket → ⊥)
      → Reads IsStart (LowStart 1) Semicolon (x ∷ y ∷ n) (assigned_by 1 plain o y n >>= λ a. Ok (starts_with_assignment a.0, a.1))
  plain_by None f no_index =
      second_fault IsStart (LowStart 1) Semicolon x y n Unexpected plain_before (λ c s m m2 v al st eq. plain_never no_index f c s m m2 v st eq) tt
  plain_by (Some updates.Plain) f no_index = plain_assigned updates.Plain f
  plain_by (Some (updates.Compound op)) f no_index = plain_assigned (updates.Compound op) f
  plain_by (Some (updates.Step op)) f no_index = plain_assigned (updates.Step op) f

  plain_reads : Reads IsStart (LowStart 1) Semicolon (x ∷ y ∷ n)
      (target_index 1 (y ∷ n) >>= λ i. assigned 1 (record { variable = record { place = x.place; text = text }; index = i.0 }) i.1 >>= λ a. Ok
      (starts_with_assignment a.0, a.1))
  plain_reads = go (is_sign signs.LeftBracket y) refl
    where
      go : (b : Bool) → is_sign signs.LeftBracket y ≡ b
          → Reads IsStart (LowStart 1) Semicolon (x ∷ y ∷ n)
          (cond b (cond (nat_lt 1 3) (Err (TooHigh, y ∷ n)) (steps.bracketed (1 - 2) (y ∷ n) >>= λ e. Ok (Some e.0, e.1)))
          (Ok (None, y ∷ n)) >>= λ i. assigned 1 (record { variable = record { place = x.place; text = text }; index = i.0 }) i.1 >>= λ a. Ok
          (starts_with_assignment a.0, a.1))
      go true f = second_fault IsStart (LowStart 1) Semicolon x y n TooHigh plain_before plain_is (index_begun (is_sign-true signs.LeftBracket y f))
      go false f = plain_by (update_of y) refl (is_sign-false signs.LeftBracket y f)

type_declares : (s : Sign) (p : Span) (m : List Token) → begins_type (kinds.Sign s) ≡ true → declares (token p (kinds.Sign s) ∷ m) ≡ true
type_declares signs.Public p m e = refl
type_declares signs.Uint64 p m e = refl
type_declares signs.Uint p m e = refl
type_declares signs.Int64 p m e = refl
type_declares signs.Int p m e = refl
type_declares signs.Bool p m e = refl
type_declares s p m e = absurd (false_true e)

module _ (h : ℕ) (one : 1 ≤ h) where
  Choice : Bool → List Token → Outcome StartTree
  Choice b w = cond b (declaration_step (h - 1) w >>= λ d. Ok (starts_with_declaration d.0, d.1))
      (assignment_step h w >>= λ a. Ok (starts_with_assignment a.0, a.1))

  named_start : (x y : Token) (n : List Token) (text : List ℕ) → x.kind ≡ kinds.Name text → IsEnded (x ∷ y ∷ n) → (b : Bool) → is_type y ≡ b
      → Reads IsStart (LowStart h) Semicolon (x ∷ y ∷ n) (Choice b (x ∷ y ∷ n))
  unfolding Choice assignment_step
  named_start x y n text k en true t = named_declared h one x y n text k t en
  named_start x y n text k en false t = go (nat_lt h 2) refl
    where
      identified : expressions.identifier (x ∷ y ∷ n) ≡ Ok (record { place = x.place; text = text }, y ∷ n)
      identified = ap (λ z. expressions.identifier_of z x (y ∷ n)) k

      at_one : Reads IsStart (LowStart 1) Semicolon (x ∷ y ∷ n)
          (expressions.identifier (x ∷ y ∷ n) >>= λ i. target_index 1 i.1 >>= λ j. assigned 1 (record { variable = i.0; index = j.0 }) j.1 >>= λ a. Ok
          (starts_with_assignment a.0, a.1))
      at_one =
          subst (λ o. Reads IsStart (LowStart 1) Semicolon (x ∷ y ∷ n)
          (o >>= λ i. target_index 1 i.1 >>= λ j. assigned 1 (record { variable = i.0; index = j.0 }) j.1 >>= λ a. Ok
          (starts_with_assignment a.0, a.1))) (sym identified)
          (plain_reads x y n text k t)

      whole : (h : ℕ) → h ≡ 1 → Reads IsStart (LowStart h) Semicolon (x ∷ y ∷ n) (assignment_step h (x ∷ y ∷ n) >>= λ a. Ok (starts_with_assignment a.0, a.1))
      whole h e =
          subst (λ r. Reads IsStart (LowStart r) Semicolon (x ∷ y ∷ n) (assignment_step r (x ∷ y ∷ n) >>= λ a. Ok (starts_with_assignment a.0, a.1))) (sym e)
          (subst (Reads IsStart (LowStart 1) Semicolon (x ∷ y ∷ n)) (sym joined) at_one)
        where
          bound : (o : Outcome Identifier)
              → ((o >>= λ i. target_index 1 i.1 >>= λ j. assigned 1 (record { variable = i.0; index = j.0 }) j.1) >>= λ a. Ok
              (starts_with_assignment a.0, a.1))
              ≡ (o >>= λ i. target_index 1 i.1 >>= λ j. assigned 1 (record { variable = i.0; index = j.0 }) j.1 >>= λ a. Ok (starts_with_assignment a.0, a.1))
          bound (Err e) = refl
          bound (Ok i) = inner (target_index 1 i.1)
            where
              inner : (o : Outcome (Option Tree))
                  → ((o >>= λ j. assigned 1 (record { variable = i.0; index = j.0 }) j.1) >>= λ a. Ok (starts_with_assignment a.0, a.1))
                  ≡ (o >>= λ j. assigned 1 (record { variable = i.0; index = j.0 }) j.1 >>= λ a. Ok (starts_with_assignment a.0, a.1))
              inner (Err e) = refl
              inner (Ok j) = refl

          joined : (assignment_step 1 (x ∷ y ∷ n) >>= λ a. Ok (starts_with_assignment a.0, a.1))
              ≡ (expressions.identifier (x ∷ y ∷ n) >>= λ i. target_index 1 i.1 >>= λ j. assigned 1
              (record { variable = i.0; index = j.0 }) j.1 >>= λ a. Ok (starts_with_assignment a.0, a.1))
          joined = bound (expressions.identifier (x ∷ y ∷ n))

      go : (b : Bool) → nat_lt h 2 ≡ b
          → Reads IsStart (LowStart h) Semicolon (x ∷ y ∷ n) (assignment_step h (x ∷ y ∷ n) >>= λ a. Ok (starts_with_assignment a.0, a.1))
      go true z = let l = ltb-true h 2 z in whole h (omega (arith, l, one))
      go false z = let l = ltb-false h 2 z in named_set h one (omega (arith, l)) x y n text k t en

  -- what no first part begins with, which is no name
  no_choice : (x : Token) (m : List Token) (k : TokenKind) → x.kind ≡ k → is_sign signs.Semicolon x ≡ false
      → expressions.identifier_of k x m ≡ Err (Unexpected, x ∷ m) → (begins_type k ≡ true → ⊥) → ((text : List ℕ) → k ≡ kinds.Name text → ⊥)
      → Reads IsStart (LowStart h) Semicolon (x ∷ m) (Choice false (x ∷ m))
  unfolding Choice assignment_step
  no_choice x m k is other fails no_type no_name =
      let f : expressions.identifier (x ∷ m) ≡ Err (Unexpected, x ∷ m) = ap (λ z. expressions.identifier_of z x m) is ∙ fails in
      subst (λ o. Reads IsStart (LowStart h) Semicolon (x ∷ m)
      ((o >>= λ i. target_index h i.1 >>= λ j. assigned h (record { variable = i.0; index = j.0 }) j.1) >>= λ a. Ok
      (starts_with_assignment a.0, a.1))) (sym f)
      (no_start_reads h one x m other (λ b. no_type (ap begins_type (sym is) ∙ b)) (λ text b. no_name text (sym is ∙ b)))

  choice_reads : (x : Token) (m : List Token) → is_sign signs.Semicolon x ≡ false → IsEnded (x ∷ m) → (k : TokenKind) → x.kind ≡ k
      → Reads IsStart (LowStart h) Semicolon (x ∷ m) (Choice (declares (token x.place k ∷ m)) (x ∷ m))
  unfolding Choice
  choice_reads x [] other en (kinds.Name text) k = let f = after_kind x [] (kinds.Name text) en k refl in absurd (false_true f)
  choice_reads x (y ∷ n) other en (kinds.Name text) k = named_start x y n text k en (is_type y) refl
  choice_reads x m other en (kinds.Number n) k = no_choice x m (kinds.Number n) k other refl false_true (λ text (b : kinds.Number n ≡ kinds.Name text). cc)
  choice_reads x m other en (kinds.Text t) k = no_choice x m (kinds.Text t) k other refl false_true (λ text (b : kinds.Text t ≡ kinds.Name text). cc)
  choice_reads x m other en kinds.End k = no_choice x m kinds.End k other refl false_true (λ text (b : kinds.End ≡ kinds.Name text). cc)
  choice_reads x m other en (kinds.Sign s) k = go (declares (token x.place (kinds.Sign s) ∷ m)) refl
    where
      go : (b : Bool) → declares (token x.place (kinds.Sign s) ∷ m) ≡ b → Reads IsStart (LowStart h) Semicolon (x ∷ m) (Choice b (x ∷ m))
      go true t = signed_reads h one x m s k other en
      go false t =
          no_choice x m (kinds.Sign s) k other refl (λ b. clash (declares (token x.place (kinds.Sign s) ∷ m)) (type_declares s x.place m b) t)
          (λ text (b : kinds.Sign s ≡ kinds.Name text). cc)

  pub start_reads : (w : List Token) → IsEnded w → Reads IsStart (LowStart h) Semicolon w (start_step h w)
  unfolding start_step Choice
  start_reads [] en = cc
  start_reads (x ∷ m) en = go (is_sign signs.Semicolon x) refl
    where
      go : (b : Bool) → is_sign signs.Semicolon x ≡ b
          → Reads IsStart (LowStart h) Semicolon (x ∷ m) (cond b (Ok (starts_with_nothing, x ∷ m)) (Choice (declares (x ∷ m)) (x ∷ m)))
      go true t = nothing_reads IsStart (LowStart h) Semicolon x m starts_with_nothing refl (omega arith) only
        where
          only : (c : StartTree) (s m' m2 : List Token) → IsStart c s → Stops (Semicolon c) m' → s ++ m' ≡ x ∷ m2 → (c ≡ starts_with_nothing) × (s ≡ [])
          only starts_with_nothing s m' m2 v st eq = (refl, v)
          only (starts_with_declaration d) s m' m2 v st eq =
              let f : begins_type (kinds.Sign signs.Semicolon) ≡ true =
              ap begins_type (sym (is_sign-true signs.Semicolon x t)) ∙ no_declaration d s m' m2 x v eq in cc
          only (starts_with_assignment a) s m' m2 v st eq =
              absurd (no_start x signs.Semicolon a.target.variable.text (assignment_head a s m' m2 x v eq) (is_sign-true signs.Semicolon x t))
      go false t = choice_reads x m t en x.kind refl

-- The third part

abbrev pub LowStep : ℕ → StepTree → Type 0
LowStep h b = step_height b ≤ h

abbrev pub Closing : {C : Type 0} → C → Token → Type 0
Closing c x = x.kind ≡ kinds.Sign signs.RightParenthesis

pub last_reads : (h : ℕ) (w : List Token) → IsEnded w → Reads IsStep (LowStep h) Closing w (last_step h w)
unfolding last_step
last_reads h [] en = cc
last_reads h (x ∷ m) en = go (is_sign signs.RightParenthesis x) refl
  where
    up_of : (c : ActionTree) (s : List Token) → IsAction c s → IsStep (step_of c) s
    up_of (assigns a) s v = v
    up_of (evaluates e) s v = v

    up : (c : StepTree) (s : List Token) → Made step_of IsAction c s → IsStep c s
    up c s v = subst (λ z. IsStep z s) (sym v.1) (up_of v.0 s v.2)

    same_low : (a : ActionTree) → LowStep h (step_of a) → LowAction h h a
    same_low (assigns a) l = l
    same_low (evaluates e) l = l

    low_same : (a : ActionTree) → LowAction h h a → LowStep h (step_of a)
    low_same (assigns a) l = l
    low_same (evaluates e) l = l

    same : (a : ActionTree) (m : List Token) → Stops (λ y. y.kind ≡ kinds.Sign signs.RightParenthesis) m → Stops (Before signs.RightParenthesis a) m
    same a [] st = st
    same a (y ∷ m) st = st

    down : is_sign signs.RightParenthesis x ≡ false → (c : StepTree) (s m' m2 : List Token) → IsStep c s → Stops (Closing c) m' → s ++ m' ≡ x ∷ m2
        → Made step_of IsAction c s
    down t steps_by_nothing s m' m2 v st eq =
        absurd (is_sign-false signs.RightParenthesis x t (subst (Stops (Closing steps_by_nothing)) (ap (λ l. l ++ m') (sym v) ∙ eq) st))
    down t (steps_by_assignment a) s m' m2 v st eq = (assigns a, refl, v)
    down t (steps_by_expression e) s m' m2 v st eq = (evaluates e, refl, v)

    only : x.kind ≡ kinds.Sign signs.RightParenthesis → (c : StepTree) (s m' m2 : List Token) → IsStep c s → Stops (Closing c) m' → s ++ m' ≡ x ∷ m2
        → (c ≡ steps_by_nothing) × (s ≡ [])
    only k steps_by_nothing s m' m2 v st eq = (refl, v)
    only k (steps_by_assignment a) s m' m2 v st eq = absurd (no_start x signs.RightParenthesis a.target.variable.text (assignment_head a s m' m2 x v eq) k)
    only k (steps_by_expression e) s m' m2 v st eq =
        let f = first_token loosest e s m' m2 x v eq in
        let g : expressions.least (kinds.Sign signs.RightParenthesis) ≡ Some f.0 = ap expressions.least (sym k) ∙ f.1 in
        cc

    go : (b : Bool) → is_sign signs.RightParenthesis x ≡ b
        → Reads IsStep (LowStep h) Closing (x ∷ m) (cond b (Ok (steps_by_nothing, x ∷ m)) (action h h (x ∷ m) >>= λ a. Ok (step_of a.0, a.1)))
    go true t = nothing_reads IsStep (LowStep h) Closing x m steps_by_nothing refl (omega arith) (only (is_sign-true signs.RightParenthesis x t))
    go false t =
        reads_as (Made step_of IsAction) IsStep (LowStep h) Closing Closing x up (down t) (λ c m' st. st) (x ∷ m) m _ refl
        (made IsAction (LowAction h h) (Before signs.RightParenthesis) step_of (LowStep h) Closing same_low low_same same (x ∷ m) (action h h (x ∷ m))
        (action_reads signs.RightParenthesis parenthesis_free (λ p. refl) h h (omega arith) (x ∷ m) en))

-- The three parts together

abbrev pub StartPart : StartTree → Phrase
StartPart a ts = (sign signs.LeftParenthesis then (IsStart a then sign signs.Semicolon)) ts

abbrev pub LastPart : StepTree → Phrase
LastPart b ts = (IsStep b then sign signs.RightParenthesis) ts

start_part_reads : (h : ℕ) → 1 ≤ h → (w : List Token) → IsEnded w → Reads StartPart (LowStart h) Any w (start_part h w)
unfolding start_part
start_part_reads h one w en =
    reads_same (Made (λ (v : StartTree × Unit {0}). v.0)
    (λ v. sign signs.LeftParenthesis then Both IsStart (λ a (u : Unit {0}). sign signs.Semicolon) v)) StartPart (LowStart h) Any Any
    (λ c s v. subst (λ z. StartPart z s) (sym v.1) v.2)
    (λ c s v. ((c, tt), refl, v))
    (λ c m st. st) w _
    (sign_seq signs.LeftParenthesis (Both IsStart (λ a (u : Unit {0}). sign signs.Semicolon)) (λ (v : StartTree × Unit {0}). v.0) (LowStart h) Any
    ((starts_with_nothing, tt), lone signs.Semicolon, ([], lone signs.Semicolon, refl, refl, (origin, refl)), omega arith)
    w _ en (λ p r en2.
    seq IsStart (LowStart h) Semicolon (λ a (u : Unit {0}). sign signs.Semicolon) (λ a u. a) (LowStart h) Any
    (λ a u t v f. f)
    (λ a u t m v st. last_sign_first (λ y. y.kind ≡ kinds.Sign signs.Semicolon) signs.Semicolon t m (λ q. refl) v)
    (λ a s v. (tt, lone signs.Semicolon, (origin, refl), λ f. f))
    r (start_step h r) _ (start_reads h one r en2) (λ a r2 is g. sign_end signs.Semicolon a (LowStart h) g.fits r2 (good_ended g en2))))

last_part_reads : (h : ℕ) (w : List Token) → IsEnded w → Reads LastPart (LowStep h) Any w (last_part h w)
unfolding last_part
last_part_reads h w en =
    reads_same (Made (λ (v : StepTree × Unit {0}). v.0) (Both IsStep (λ b (u : Unit {0}). sign signs.RightParenthesis))) LastPart (LowStep h) Any Any
    (λ c s v. subst (λ z. LastPart z s) (sym v.1) v.2)
    (λ c s v. ((c, tt), refl, v))
    (λ c m st. st) w _
    (seq IsStep (LowStep h) Closing (λ b (u : Unit {0}). sign signs.RightParenthesis) (λ b u. b) (LowStep h) Any
    (λ b u t v f. f)
    (λ b u t m v st. last_sign_first (λ y. y.kind ≡ kinds.Sign signs.RightParenthesis) signs.RightParenthesis t m (λ q. refl) v)
    (λ b s v. (tt, lone signs.RightParenthesis, (origin, refl), λ f. f))
    w (last_step h w) _ (last_reads h w en) (λ b r is g. sign_end signs.RightParenthesis b (LowStep h) g.fits r (good_ended g en)))

pub then_left : {P Q R : Phrase} (s : List Token) → (P then (Q then R)) s → ((P then Q) then R) s
then_left s v =
    let w = v.4 in
    (v.0 ++ w.0, w.1, v.2 ∙ ap (λ l. v.0 ++ l) w.2 ∙ sym (append_assoc v.0 w.0 w.1), (v.0, w.0, refl, v.3, w.3), w.4)

pub then_right : {P Q R : Phrase} (s : List Token) → ((P then Q) then R) s → (P then (Q then R)) s
then_right s v =
    let w = v.3 in
    (w.0, w.1 ++ v.1, v.2 ∙ ap (λ l. l ++ v.1) w.2 ∙ append_assoc w.0 w.1 v.1, w.3, (w.1, v.1, refl, w.4, v.4))

pub then_map : {P Q R : Phrase} (s : List Token) → ((t : List Token) → Q t → R t) → (P then Q) s → (P then R) s
then_map s f v = (v.0, v.1, v.2, v.3, f v.1 v.4)

abbrev pub HeadingParts : Type 0
HeadingParts = StartTree × Option Tree × StepTree

abbrev pub IsHeading : HeadingParts → Phrase
IsHeading v ts = heading v.0 v.1 v.2 ts

abbrev pub LowHeading : ℕ → HeadingParts → Type 0
LowHeading h v = max (max (start_height v.0) (optional_height v.1)) (step_height v.2) ≤ h

abbrev InParts : StartTree × (Option Tree × StepTree) → Phrase
InParts = Both StartPart (λ a. Both TestPart (λ e. LastPart))

parts_up : (a : StartTree) (e : Option Tree) (b : StepTree) (s : List Token) → InParts (a, (e, b)) s → heading a e b s
parts_up a e b s v =
    then_map s (λ t u. then_map t (λ t2 u2. then_map t2 (λ t3 u3. then_right t3 u3) u2) (then_right t u)) (then_right s v)

parts_down : (a : StartTree) (e : Option Tree) (b : StepTree) (s : List Token) → heading a e b s → InParts (a, (e, b)) s
parts_down a e b s v =
    then_left s (then_map s (λ t u. then_left t (then_map t (λ t2 u2. then_map t2 (λ t3 u3. then_left t3 u3) u2) u)) v)

pub heading_reads : (h : ℕ) → 1 ≤ h → (w : List Token) → IsEnded w → Reads IsHeading (LowHeading h) Any w (steps.heading h w)
unfolding steps.heading
heading_reads h one w en =
    reads_same (Made (λ (v : StartTree × (Option Tree × StepTree)). (v.0, v.1.0, v.1.1)) InParts) IsHeading (LowHeading h) Any Any
    (λ c s v. subst (λ z. IsHeading z s) (sym v.1) (parts_up v.0.0 v.0.1.0 v.0.1.1 s v.2))
    (λ c s v. ((c.0, (c.1, c.2)), refl, parts_down c.0 c.1 c.2 s v))
    (λ c m st. st) w _
    (seq StartPart (LowStart h) Any (λ a. Both TestPart (λ e. LastPart)) (λ a v. (a, v.0, v.1)) (LowHeading h) Any
    (λ a v s u f. omega (arith, f))
    (λ a v s m u st. any_stops (λ y. Unit {0}) s m st)
    (λ a s u. (
      (None, steps_by_nothing),
      lone signs.Semicolon ++ lone signs.RightParenthesis,
      (
        lone signs.Semicolon,
        lone signs.RightParenthesis,
        refl,
        ([], lone signs.Semicolon, refl, refl, (origin, refl)),
        ([], lone signs.RightParenthesis, refl, refl, (origin, refl)),
      ),
      λ f. omega (arith, f),
    ))
    w (start_part h w) _ (start_part_reads h one w en) (λ a r is g.
    let fits = g.fits in
    seq TestPart (LowOption h) Any (λ e. LastPart) (λ e b. (a, e, b)) (LowHeading h) Any
    (λ e b s u f. omega (arith, f))
    (λ e b s m u st. any_stops (λ y. Unit {0}) s m st)
    (λ e s u. (steps_by_nothing, lone signs.RightParenthesis, ([], lone signs.RightParenthesis, refl, refl, (origin, refl)), λ f. omega (arith, f, fits)))
    r (test_part h r) _ (test_reads h r (good_ended g en)) (λ e r2 is2 g2.
    let fits2 = g2.fits in
    made LastPart (LowStep h) Any (λ b. (a, e, b)) (LowHeading h) Any
    (λ b f. omega (arith, f)) (λ b f. omega (arith, f, fits, fits2)) (λ b m st. any_stops (λ y. Unit {0}) [] m st)
    r2 (last_part h r2) (last_part_reads h r2 (good_ended g2 (good_ended g en))))))
