-- Readings of statements that begin with a type, a name or an expression.
use Rattle.std.proofs.Common.{◌≡◌, ℕ, ◌-◌, ◌≤◌, List, [], ◌∷◌, ◌++◌, refl, sym, ap, ◌∙◌, subst, Err, Bool, true, false, cond, Option, Some, None, arith}
use Rattle.std.specs.Prelude.{nat_eq, ◌||◌}
use Rattle.std.proofs.lemmas.Bool.{eqb-true, eqb-false}
use Rattle.secrec_lexer.specs.declared.sign.Sign.TheVariants as signs
use Rattle.secrec_lexer.specs.declared.token.TokenKind.{TokenKind}
use Rattle.secrec_lexer.specs.declared.token.TokenKind.TheVariants as kinds
use Rattle.secrec_lexer.specs.declared.token.Token.{Token}
use Rattle.secrec_lexer.specs.Tokens.{is_sign, IsEnded}
use Rattle.program_trees.specs.declared.expression.Operator.{Operator}
use Rattle.program_trees.specs.declared.expression.Operator.TheVariants as operators
use Rattle.program_trees.specs.Tree.{Tree, variable, call, index, binary}
use Rattle.program_trees.specs.Tree as trees
use Rattle.program_trees.specs.Statements.{TargetTree, StatementTree, declaration, assignment, evaluation}
use Rattle.expression_parser.specs.declared.problem.ParseProblem.TheVariants.{Unexpected, TooHigh}
use Rattle.expression_parser.specs.Phrases.{token, one, sign, ◌then◌}
use Rattle.expression_parser.specs.Grammar.{IsExpression, loosest, level, sign_of}
use Rattle.expression_parser.specs.Steps.{operator_at}
use Rattle.expression_parser.proofs.Reading.{Reads, reads_as}
use Rattle.expression_parser.proofs.Peek.{reads_peek}
use Rattle.expression_parser.proofs.Tokens.{Any, origin, is_sign-true}
use Rattle.expression_parser.proofs.Nodes.{tall, leaf, leaf_token, first_token}
use Rattle.expression_parser.proofs.Operators.{operator_of-some}
use Rattle.secrec_parser.specs.declared.leader.Leader.TheVariants as leaders
use Rattle.secrec_parser.specs.declared.assignment.Update.{Update}
use Rattle.secrec_parser.specs.Grammar.{IsStatement}
use Rattle.secrec_parser.specs.inner.Steps.{leader_of, is_type, declares, update_of, updates_by, is_operator, follows_name, only_declares}
use Rattle.secrec_parser.specs.inner.Steps.{name_statement, declaration_statement, ActionTree, assigns, evaluates, action_statement}
use Rattle.secrec_parser.proofs.Clashes.{false_true}
use Rattle.secrec_parser.proofs.TypeReadings.{is_one, lone}
use Rattle.secrec_parser.proofs.Declarations.{clash, name_token}
use Rattle.secrec_parser.proofs.Assignments.{alive_by, IsAction}
use Rattle.secrec_parser.proofs.Leaders.{family, family_of, family_is, leader_at, front}
use Rattle.secrec_parser.proofs.Names.{declaration_second, action_follows, type_follows_not, second_fault}
use Rattle.secrec_parser.proofs.Headings.{declared_by, is_declared_by, uint_token, no_declaration, assignment_head}
use Rattle.secrec_parser.proofs.Starts.{else_token, declared_leader, expression_leader}
use Rattle.secrec_parser.proofs.Statements.{LowStatement, Follow, follow_any, Declared, declared_statement_reads, Acted, acted_up, action_statement_reads}

declared_up : (in_loop : Bool) (c : StatementTree) (s : List Token) → Declared c s → IsStatement in_loop c s
declared_up in_loop c s v = subst (λ z. IsStatement in_loop z s) (sym v.1) v.2

declared_some : (c : StatementTree) → Declared c [] → ⊥
declared_some c v =
    let w = v.2 in
    let f : false ≡ true = no_declaration v.0.0 w.0 (w.1 ++ leaf_token ∷ []) [] leaf_token w.3 (front [] (leaf_token ∷ []) [] leaf_token w refl) in
    cc

acted_some : (c : StatementTree) → Acted c [] → ⊥
acted_some c v = go v.0.0 w.3
  where
    w : (IsAction v.0.0 then sign signs.Semicolon) []
    w = v.2

    eq : w.0 ++ (w.1 ++ else_token ∷ []) ≡ else_token ∷ []
    eq = front [] (else_token ∷ []) [] else_token w refl

    go : (a : ActionTree) → IsAction a w.0 → ⊥
    go (assigns a) u = let f : kinds.Name a.target.variable.text ≡ kinds.Sign signs.Else =
        assignment_head a w.0 (w.1 ++ else_token ∷ []) [] else_token u eq in cc
    go (evaluates e) u = let f = first_token loosest e w.0 (w.1 ++ else_token ∷ []) [] else_token u eq in let g : None ≡ Some f.0 = f.1 in cc

-- Led by a type

module _ (max_height : ℕ) (one : 1 ≤ max_height) (in_loop : Bool) (x : Token) (m : List Token) (is : leader_of in_loop x ≡ leaders.Declaration)
    (en : IsEnded (x ∷ m)) where
  typed_down : (c : StatementTree) (s m' m2 : List Token) → family_of c ≡ 10 → IsStatement in_loop c s → s ++ m' ≡ x ∷ m2 → Declared c s
  typed_down (declaration d) s m' m2 f v eq = ((d, tt), refl, v)
  typed_down (assignment a) s m' m2 f v eq =
      let k = assignment_head a v.0 (v.1 ++ m') m2 x v.3 (front s m' m2 x v eq) in
      let l : leaders.Name ≡ leaders.Declaration = sym (leader_at in_loop x (kinds.Name a.target.variable.text) k) ∙ is in
      cc
  typed_down (evaluation e) s m' m2 f v eq =
      let k = first_token loosest e v.0 (v.1 ++ m') m2 x v.3 (front s m' m2 x v eq) in
      absurd (expression_leader in_loop x.kind x.place k.0 k.1 is)
  typed_down c s m' m2 f v eq = absurd (omega (arith, f))

  pub typed_reads : Reads (IsStatement in_loop) (LowStatement max_height) Follow (x ∷ m) (declaration_statement (max_height - 1) (x ∷ m))
  typed_reads =
      reads_as Declared (IsStatement in_loop) (LowStatement max_height) Any Follow x (declared_up in_loop)
      (λ c s m' m2 v st eq. typed_down c s m' m2 (sym (family_is in_loop c s m' m2 x v eq) ∙ ap family is) v eq)
      follow_any (x ∷ m) m _ refl (declared_statement_reads max_height one (x ∷ m) en)

-- Led by an expression that begins with no name

module _ (max_height : ℕ) (in_loop : Bool) (x : Token) (m : List Token) (is : leader_of in_loop x ≡ leaders.Expression) (en : IsEnded (x ∷ m)) where
  acted_down : (c : StatementTree) (s m' m2 : List Token) → family_of c ≡ 10 → IsStatement in_loop c s → s ++ m' ≡ x ∷ m2 → Acted c s
  acted_down (declaration d) s m' m2 f v eq =
      absurd (declared_leader in_loop x.kind x.place (no_declaration d v.0 (v.1 ++ m') m2 x v.3 (front s m' m2 x v eq)) is)
  acted_down (assignment a) s m' m2 f v eq = ((assigns a, tt), refl, v)
  acted_down (evaluation e) s m' m2 f v eq = ((evaluates e, tt), refl, v)
  acted_down c s m' m2 f v eq = absurd (omega (arith, f))

  pub expression_reads : Reads (IsStatement in_loop) (LowStatement max_height) Follow (x ∷ m) (action_statement max_height (x ∷ m))
  expression_reads =
      reads_as Acted (IsStatement in_loop) (LowStatement max_height) Any Follow x (acted_up in_loop)
      (λ c s m' m2 v st eq. acted_down c s m' m2 (sym (family_is in_loop c s m' m2 x v eq) ∙ ap family is) v eq)
      follow_any (x ∷ m) m _ refl (action_statement_reads max_height (x ∷ m) en)

-- Led by a name

low_level : (op : Operator) → level op ≤ loosest
low_level operators.Add = omega arith
low_level operators.Subtract = omega arith
low_level operators.Multiply = omega arith
low_level operators.Divide = omega arith
low_level operators.Remainder = omega arith
low_level operators.Equal = omega arith
low_level operators.NotEqual = omega arith
low_level operators.Less = omega arith
low_level operators.LessOrEqual = omega arith
low_level operators.Greater = omega arith
low_level operators.GreaterOrEqual = omega arith
low_level operators.And = omega arith
low_level operators.Or = omega arith
low_level operators.Xor = omega arith
low_level operators.AndAlso = omega arith
low_level operators.OrElse = omega arith

operator_kind : (k : TokenKind) (op : Operator) → operator_at k ≡ Some op → k ≡ kinds.Sign (sign_of op)
operator_kind (kinds.Sign s) op e = ap kinds.Sign (operator_of-some s op e)
operator_kind (kinds.Name b) op e = cc
operator_kind (kinds.Number n) op e = cc
operator_kind (kinds.Text b) op e = cc
operator_kind kinds.End op e = cc

module _ (in_loop : Bool) (x y : Token) (n : List Token) (text : List ℕ) (k : x.kind ≡ kinds.Name text) (fam : family (leader_of in_loop x) ≡ 10)
    (en : IsEnded (x ∷ y ∷ n)) where
  abbrev self : Tree
  self = variable x.place text

  is_self : (l : ℕ) → IsExpression l self (x ∷ [])
  is_self l = ap (λ z. token x.place z ∷ []) k

  family_known : (c : StatementTree) (s m m2 : List Token) → IsStatement in_loop c s → s ++ m ≡ x ∷ m2 → family_of c ≡ 10
  family_known c s m m2 v eq = sym (family_is in_loop c s m m2 x v eq) ∙ fam

  -- a declaration
  declared_down : is_type y ≡ true → (c : StatementTree) (s m m2 : List Token) → family_of c ≡ 10 → IsStatement in_loop c s → s ++ m ≡ x ∷ y ∷ m2 → Declared c s
  declared_down t (declaration d) s m m2 f v eq = ((d, tt), refl, v)
  declared_down t (assignment a) s m m2 f v eq = absurd (type_follows_not y t (action_follows (assigns a) s m m2 x y text v eq k))
  declared_down t (evaluation e) s m m2 f v eq = absurd (type_follows_not y t (action_follows (evaluates e) s m m2 x y text v eq k))
  declared_down t c s m m2 f v eq = absurd (omega (arith, f))

  named_declared : (max_height : ℕ) → 1 ≤ max_height → is_type y ≡ true
      → Reads (IsStatement in_loop) (LowStatement max_height) Follow (x ∷ y ∷ n) (declaration_statement (max_height - 1) (x ∷ y ∷ n))
  named_declared max_height one t =
      reads_peek Declared (IsStatement in_loop) (LowStatement max_height) Any Follow x y (declared_up in_loop)
      (λ c s m m2 v st eq. declared_down t c s m m2 (family_known c s m (y ∷ m2) v eq) v eq)
      follow_any (
        declaration (declared_by x text),
        uint_token ∷ name_token ∷ lone signs.Semicolon,
        leaf_token,
        ((declared_by x text, tt), refl, (x ∷ uint_token ∷ name_token ∷ [], lone signs.Semicolon, refl, is_declared_by x text k, (origin, refl))),
        one,
        tt,
      )
      declared_some (x ∷ y ∷ n) n _ refl (declared_statement_reads max_height one (x ∷ y ∷ n) en)

  -- an assignment or an expression
  acted_named : is_type y ≡ false → (c : StatementTree) (s m m2 : List Token) → family_of c ≡ 10 → IsStatement in_loop c s → s ++ m ≡ x ∷ y ∷ m2 → Acted c s
  acted_named t (declaration d) s m m2 f v eq =
      absurd (clash (is_type y) (declaration_second d v.0 (v.1 ++ m) m2 x y text v.3 (front s m (y ∷ m2) x v eq) k) t)
  acted_named t (assignment a) s m m2 f v eq = ((assigns a, tt), refl, v)
  acted_named t (evaluation e) s m m2 f v eq = ((evaluates e, tt), refl, v)
  acted_named t c s m m2 f v eq = absurd (omega (arith, f))

  named_acted : (max_height : ℕ) → 2 ≤ max_height → is_type y ≡ false
      → Reads (IsStatement in_loop) (LowStatement max_height) Follow (x ∷ y ∷ n) (action_statement max_height (x ∷ y ∷ n))
  named_acted max_height two t =
      reads_peek Acted (IsStatement in_loop) (LowStatement max_height) Any Follow x y (acted_up in_loop)
      (λ c s m m2 v st eq. acted_named t c s m m2 (family_known c s m (y ∷ m2) v eq) v eq)
      follow_any (
        evaluation self,
        lone signs.Semicolon,
        leaf_token,
        ((evaluates self, tt), refl, (x ∷ [], lone signs.Semicolon, refl, is_self loosest, (origin, refl))),
        two,
        tt,
      )
      acted_some (x ∷ y ∷ n) n _ refl (action_statement_reads max_height (x ∷ y ∷ n) en)

  -- where a declaration alone has room
  before_fault : (b : StatementTree) × (s : List Token) × IsStatement in_loop b (x ∷ s) × LowStatement 1 b
  before_fault = (
    declaration (declared_by x text),
    uint_token ∷ name_token ∷ lone signs.Semicolon,
    (x ∷ uint_token ∷ name_token ∷ [], lone signs.Semicolon, refl, is_declared_by x text k, (origin, refl)),
    omega arith,
  )

  nothing_fits : is_type y ≡ false → (c : StatementTree) (s m m2 : List Token) → family_of c ≡ 10 → IsStatement in_loop c s → LowStatement 1 c
      → s ++ m ≡ x ∷ y ∷ m2 → ⊥
  nothing_fits t (declaration d) s m m2 f v l eq = clash (is_type y) (declaration_second d v.0 (v.1 ++ m) m2 x y text v.3 (front s m (y ∷ m2) x v eq) k) t
  nothing_fits t (assignment a) s m m2 f v l eq = let h = tall a.value in omega (arith, h, l)
  nothing_fits t (evaluation e) s m m2 f v l eq = let h = tall e in omega (arith, h, l)
  nothing_fits t c s m m2 f v l eq = omega (arith, f)

  no_way : is_type y ≡ false → follows_name y ≡ false → (c : StatementTree) (s m m2 : List Token) → family_of c ≡ 10 → IsStatement in_loop c s
      → s ++ m ≡ x ∷ y ∷ m2 → ⊥
  no_way t u (declaration d) s m m2 f v eq = clash (is_type y) (declaration_second d v.0 (v.1 ++ m) m2 x y text v.3 (front s m (y ∷ m2) x v eq) k) t
  no_way t u (assignment a) s m m2 f v eq = clash (follows_name y) (action_follows (assigns a) s m m2 x y text v eq k) u
  no_way t u (evaluation e) s m m2 f v eq = clash (follows_name y) (action_follows (evaluates e) s m m2 x y text v eq k) u
  no_way t u c s m m2 f v eq = omega (arith, f)

  abbrev Begun : Type 0
  Begun = (b : StatementTree) × (s : List Token) × IsStatement in_loop b (x ∷ y ∷ s)

  call_begun : y.kind ≡ kinds.Sign signs.LeftParenthesis → Begun
  call_begun f = (
    evaluation (call x.place text trees.none),
    lone signs.RightParenthesis ++ lone signs.Semicolon,
    (
      x ∷ y ∷ lone signs.RightParenthesis,
      lone signs.Semicolon,
      refl,
      (
        x ∷ [],
        y ∷ lone signs.RightParenthesis,
        refl,
        is_self loosest,
        (
          y ∷ [],
          lone signs.RightParenthesis,
          refl,
          is_one (kinds.Sign signs.LeftParenthesis) y f,
          ([], lone signs.RightParenthesis, refl, refl, (origin, refl)),
        ),
      ),
      (origin, refl),
    ),
  )

  index_begun : y.kind ≡ kinds.Sign signs.LeftBracket → Begun
  index_begun f = (
    evaluation (index x.place self leaf),
    leaf_token ∷ lone signs.RightBracket ++ lone signs.Semicolon,
    (
      x ∷ y ∷ leaf_token ∷ lone signs.RightBracket,
      lone signs.Semicolon,
      refl,
      (
        tt,
        refl,
        (
          x ∷ [],
          y ∷ leaf_token ∷ lone signs.RightBracket,
          refl,
          is_self 0,
          (
            y ∷ [],
            leaf_token ∷ lone signs.RightBracket,
            refl,
            is_one (kinds.Sign signs.LeftBracket) y f,
            (leaf_token ∷ [], lone signs.RightBracket, refl, refl, (origin, refl)),
          ),
        ),
      ),
      (origin, refl),
    ),
  )

  end_begun : y.kind ≡ kinds.Sign signs.Semicolon → Begun
  end_begun f = (evaluation self, [], (x ∷ [], y ∷ [], refl, is_self loosest, is_one (kinds.Sign signs.Semicolon) y f))

  abbrev plain : TargetTree
  plain = record { variable = record { place = x.place; text = text }; index = None }

  update_begun : (u : Update) → update_of y ≡ Some u → Begun
  update_begun u f =
      let a = alive_by plain y u f in (
        assignment (record { target = plain; value = a.0 }),
        a.1 ++ lone signs.Semicolon,
        (x ∷ y ∷ a.1, lone signs.Semicolon, refl, (x ∷ [], y ∷ a.1, refl, (x ∷ [], [], refl, is_self loosest, refl), a.2), (origin, refl)),
      )

  operator_begun : (op : Operator) → operator_at y.kind ≡ Some op → Begun
  operator_begun op f = (
    evaluation (binary x.place op self leaf),
    leaf_token ∷ lone signs.Semicolon,
    (
      x ∷ y ∷ leaf_token ∷ [],
      lone signs.Semicolon,
      refl,
      (
        low_level op,
        refl,
        (
          x ∷ [],
          y ∷ leaf_token ∷ [],
          refl,
          is_self (level op),
          (y ∷ [], leaf_token ∷ [], refl, is_one (kinds.Sign (sign_of op)) y (operator_kind y.kind op f), refl),
        ),
      ),
      (origin, refl),
    ),
  )

  follows_begun : follows_name y ≡ true → Begun
  follows_begun f = go (is_sign signs.LeftParenthesis y) (is_sign signs.LeftBracket y) (is_sign signs.Semicolon y) (update_of y)
      (operator_at y.kind) refl refl refl refl refl f
    where
      go : (a b c : Bool) (u : Option Update) (o : Option Operator) → is_sign signs.LeftParenthesis y ≡ a → is_sign signs.LeftBracket y ≡ b
          → is_sign signs.Semicolon y ≡ c → update_of y ≡ u → operator_at y.kind ≡ o → (a || b || c || updates_by u || is_operator o) ≡ true → Begun
      go true b c u o ae be ce ue oe f = call_begun (is_sign-true signs.LeftParenthesis y ae)
      go false true c u o ae be ce ue oe f = index_begun (is_sign-true signs.LeftBracket y be)
      go false false true u o ae be ce ue oe f = end_begun (is_sign-true signs.Semicolon y ce)
      go false false false (Some u) o ae be ce ue oe f = update_begun u ue
      go false false false None (Some op) ae be ce ue oe f = operator_begun op oe
      go false false false None None ae be ce ue oe f = absurd (false_true f)

  named_fault : is_type y ≡ false → Reads (IsStatement in_loop) (LowStatement 1) Follow (x ∷ y ∷ n) (only_declares (y ∷ n))
  named_fault t = go (follows_name y) refl
    where
      go : (b : Bool) → follows_name y ≡ b
          → Reads (IsStatement in_loop) (LowStatement 1) Follow (x ∷ y ∷ n) (cond b (Err (TooHigh, y ∷ n)) (Err (Unexpected, y ∷ n)))
      go true f =
          second_fault (IsStatement in_loop) (LowStatement 1) Follow x y n TooHigh before_fault
          (λ c s m m2 v l st eq. nothing_fits t c s m m2 (family_known c s m (y ∷ m2) v eq) v l eq) (follows_begun f)
      go false f =
          second_fault (IsStatement in_loop) (LowStatement 1) Follow x y n Unexpected before_fault
          (λ c s m m2 v al st eq. no_way t f c s m m2 (family_known c s m (y ∷ m2) v eq) v eq) tt

  declares_is : declares (x ∷ y ∷ n) ≡ is_type y
  declares_is = ap (λ z. declares (token x.place z ∷ y ∷ n)) k

  pub named_reads : (max_height : ℕ) → 1 ≤ max_height
      → Reads (IsStatement in_loop) (LowStatement max_height) Follow (x ∷ y ∷ n) (name_statement max_height (x ∷ y ∷ n) (y ∷ n))
  unfolding name_statement
  named_reads max_height one =
      subst (λ b. Reads (IsStatement in_loop) (LowStatement max_height) Follow (x ∷ y ∷ n)
      (cond b (declaration_statement (max_height - 1) (x ∷ y ∷ n))
      (cond (nat_eq max_height 1) (only_declares (y ∷ n)) (action_statement max_height (x ∷ y ∷ n))))) (sym declares_is)
      (go (is_type y) refl)
    where
      go2 : is_type y ≡ false → (b : Bool) → nat_eq max_height 1 ≡ b
          → Reads (IsStatement in_loop) (LowStatement max_height) Follow (x ∷ y ∷ n) (cond b (only_declares (y ∷ n)) (action_statement max_height (x ∷ y ∷ n)))
      go2 t true e = subst (λ r. Reads (IsStatement in_loop) (LowStatement r) Follow (x ∷ y ∷ n) (only_declares (y ∷ n)))
          (sym (eqb-true max_height 1 e)) (named_fault t)
      go2 t false e = let f = eqb-false max_height 1 e in named_acted max_height (omega (arith, f, one)) t

      go : (b : Bool) → is_type y ≡ b
          → Reads (IsStatement in_loop) (LowStatement max_height) Follow (x ∷ y ∷ n)
          (cond b (declaration_statement (max_height - 1) (x ∷ y ∷ n))
          (cond (nat_eq max_height 1) (only_declares (y ∷ n)) (action_statement max_height (x ∷ y ∷ n))))
      go true t = named_declared max_height one t
      go false t = go2 t (nat_eq max_height 1) refl
