-- Readings of assignments, and of what may be one or an expression.
use Rattle.std.proofs.Common.{◌≡◌, ℕ, suc, ◌+◌, ◌-◌, ◌≤◌, List, [], ◌∷◌, ◌++◌, inl, inr, refl, sym, ap, ◌∙◌, subst, append_assoc, append-nil, Ok, Err}
use Rattle.std.proofs.Common.{Bool, true, false, cond, Option, Some, None, arith}
use Rattle.std.specs.Prelude.{nat_lt, max}
use Rattle.std.proofs.lemmas.Bool.{ltb-true, ltb-false}
use Rattle.std.proofs.lemmas.Option.{none-some}
use Rattle.sc_text.specs.declared.span.Span.{Span}
use Rattle.secrec_lexer.specs.declared.sign.Sign.{Sign}
use Rattle.secrec_lexer.specs.declared.sign.Sign.TheVariants as signs
use Rattle.secrec_lexer.specs.declared.token.TokenKind.{TokenKind}
use Rattle.secrec_lexer.specs.declared.token.TokenKind.TheVariants as kinds
use Rattle.secrec_lexer.specs.declared.token.Token.{Token}
use Rattle.secrec_lexer.specs.Tokens.{is_sign, IsEnded}
use Rattle.program_trees.specs.declared.expression.Operator.{Operator}
use Rattle.program_trees.specs.declared.expression.Operator.TheVariants as operators
use Rattle.program_trees.specs.declared.statement.Identifier.{Identifier}
use Rattle.program_trees.specs.Tree.{Tree, number, variable, index}
use Rattle.program_trees.specs.Statements.{TargetTree, AssignmentTree, target_of}
use Rattle.program_trees.specs.Heights.{height, optional_height, target_height, assignment_height}
use Rattle.expression_parser.specs.declared.problem.ParseProblem.TheVariants.{TooHigh}
use Rattle.expression_parser.specs.Phrases.{Phrase, token, nothing, one_at, sign, ◌then◌}
use Rattle.expression_parser.specs.Grammar.{IsExpression, loosest}
use Rattle.expression_parser.specs.Follow.{goes_on, Free}
use Rattle.expression_parser.specs.Steps.{Outcome, ◌>>=◌, expect}
use Rattle.expression_parser.specs.Steps as expressions
use Rattle.expression_parser.proofs.Reading.{Good, Reads, Stops, Then, cons_head, reads_as, bind_reads}
use Rattle.expression_parser.proofs.Tokens.{Any, All, origin, any_stops, good_ended, after_kind, is_sign-true, is_sign-false}
use Rattle.expression_parser.proofs.Nodes.{Low, tall, leaf, leaf_token}
use Rattle.secrec_parser.specs.declared.assignment.Update.{Update}
use Rattle.secrec_parser.specs.declared.assignment.Update.TheVariants as updates
use Rattle.secrec_parser.specs.Sugar.{held_in, held, updated}
use Rattle.secrec_parser.specs.Grammar.{identifier, bracketed, optional, compound, stepping, IsTarget, IsAssigned, IsAssignment}
use Rattle.secrec_parser.specs.inner.Steps.{operand, update_of, updates_by, is_update, least_height, value_by, assigned_by, assigned, target_index}
use Rattle.secrec_parser.specs.inner.Steps.{assignment_step, ActionTree, assigns, evaluates, assigns_to, action}
use Rattle.secrec_parser.specs.inner.Steps as steps
use Rattle.secrec_parser.proofs.Targets.{target_of_height}
use Rattle.secrec_parser.proofs.Made.{Made, Both, reads_same, seq, made, known}
use Rattle.secrec_parser.proofs.Heads.{nothing_reads, one_reads, unexpected, too_high, some_reads, none_reads, optional_high}
use Rattle.secrec_parser.proofs.TypeReadings.{is_one, NoBracket, lone, identifier_reads}
use Rattle.secrec_parser.proofs.Declarations.{bind_bind, operand_reads, Before, sign_head, bracketed_reads, clash, no_height}

-- Which token does what to a target

-- the sign of an update
abbrev IsUpdate : Update → Sign → Type 0
IsUpdate updates.Plain s = s ≡ signs.Assign
IsUpdate (updates.Compound op) s = (p : Span) → compound op (token p (kinds.Sign s) ∷ [])
IsUpdate (updates.Step op) s = (p : Span) → stepping op (token p (kinds.Sign s) ∷ [])

some_is : {A : Type 0} (a b : A) → Some a ≡ Some b → a ≡ b
some_is a b e = cc

update_sign : (x : Token) (u : Update) → update_of x ≡ Some u → (s : Sign) × (x.kind ≡ kinds.Sign s) × IsUpdate u s
update_sign x u e = go x.kind refl e
  where
    at : (s : Sign) (v : Update) → x.kind ≡ kinds.Sign s → IsUpdate v s → Some v ≡ Some u → (s : Sign) × (x.kind ≡ kinds.Sign s) × IsUpdate u s
    at s v k i f = (s, k, subst (λ z. IsUpdate z s) (some_is v u f) i)

    go : (k : TokenKind) → x.kind ≡ k → update_of (token x.place k) ≡ Some u → (s : Sign) × (x.kind ≡ kinds.Sign s) × IsUpdate u s
    go (kinds.Sign signs.Assign) k f = at signs.Assign updates.Plain k refl f
    go (kinds.Sign signs.PlusAssign) k f = at signs.PlusAssign (updates.Compound operators.Add) k (λ p. (p, refl)) f
    go (kinds.Sign signs.MinusAssign) k f = at signs.MinusAssign (updates.Compound operators.Subtract) k (λ p. (p, refl)) f
    go (kinds.Sign signs.StarAssign) k f = at signs.StarAssign (updates.Compound operators.Multiply) k (λ p. (p, refl)) f
    go (kinds.Sign signs.AmpersandAssign) k f = at signs.AmpersandAssign (updates.Compound operators.And) k (λ p. (p, refl)) f
    go (kinds.Sign signs.BarAssign) k f = at signs.BarAssign (updates.Compound operators.Or) k (λ p. (p, refl)) f
    go (kinds.Sign signs.CaretAssign) k f = at signs.CaretAssign (updates.Compound operators.Xor) k (λ p. (p, refl)) f
    go (kinds.Sign signs.Increment) k f = at signs.Increment (updates.Step operators.Add) k (λ p. (p, refl)) f
    go (kinds.Sign signs.Decrement) k f = at signs.Decrement (updates.Step operators.Subtract) k (λ p. (p, refl)) f
    go k e f = absurd (none-some u f)

compound_is : (op : Operator) (s : List Token) → compound op s → (q : Span) × (k : Sign) × (s ≡ token q (kinds.Sign k) ∷ [])
    × (update_of (token q (kinds.Sign k)) ≡ Some (updates.Compound op))
compound_is operators.Add s v = (v.0, signs.PlusAssign, v.1, refl)
compound_is operators.Subtract s v = (v.0, signs.MinusAssign, v.1, refl)
compound_is operators.Multiply s v = (v.0, signs.StarAssign, v.1, refl)
compound_is operators.And s v = (v.0, signs.AmpersandAssign, v.1, refl)
compound_is operators.Or s v = (v.0, signs.BarAssign, v.1, refl)
compound_is operators.Xor s v = (v.0, signs.CaretAssign, v.1, refl)
compound_is op s v = absurd v

stepping_is : (op : Operator) (s : List Token) → stepping op s → (q : Span) × (k : Sign) × (s ≡ token q (kinds.Sign k) ∷ [])
    × (update_of (token q (kinds.Sign k)) ≡ Some (updates.Step op))
stepping_is operators.Add s v = (v.0, signs.Increment, v.1, refl)
stepping_is operators.Subtract s v = (v.0, signs.Decrement, v.1, refl)
stepping_is op s v = absurd v

-- what a target gets by an update
abbrev By : Update → TargetTree → Tree → Phrase
By updates.Plain t v ts = (sign signs.Assign then IsExpression loosest v) ts
By (updates.Compound op) t v ts = (e : Tree) × (v ≡ updated t op e) × (compound op then IsExpression loosest e) ts
By (updates.Step op) t v ts = (v ≡ updated t op (number t.variable.place 1)) × stepping op ts

by_up : (u : Update) (t : TargetTree) (v : Tree) (ts : List Token) → By u t v ts → IsAssigned t v ts
by_up updates.Plain t v ts b = inl b
by_up (updates.Compound op) t v ts b = inr (inl (op, b.0, b.1, b.2))
by_up (updates.Step op) t v ts b = inr (inr (op, b.0, b.1))

update_at : (x : Token) (q : Span) (k : TokenKind) (u : Option Update) → token q k ≡ x → update_of (token q k) ≡ u → update_of x ≡ u
update_at x q k u e f = ap update_of (sym e) ∙ f

-- the next token says by which
pub by_down : (t : TargetTree) (v : Tree) (s m m2 : List Token) (x : Token) → IsAssigned t v s → s ++ m ≡ x ∷ m2
    → (u : Update) × (update_of x ≡ Some u) × By u t v s
by_down t v s m m2 x (inl b) eq =
    let q = b.3 in
    let e : token q.0 (kinds.Sign signs.Assign) ≡ x = cons_head (sym (ap (λ l. l ++ m) (b.2 ∙ ap (λ l. l ++ b.1) q.1)) ∙ eq) in
    (updates.Plain, update_at x q.0 (kinds.Sign signs.Assign) (Some updates.Plain) e refl, b)
by_down t v s m m2 x (inr (inl b)) eq =
    let w = b.3 in
    let q = compound_is b.0 w.0 w.3 in
    let e : token q.0 (kinds.Sign q.1) ≡ x = cons_head (sym (ap (λ l. l ++ m) (w.2 ∙ ap (λ l. l ++ w.1) q.2)) ∙ eq) in
    (updates.Compound b.0, update_at x q.0 (kinds.Sign q.1) (Some (updates.Compound b.0)) e q.3, (b.1, b.2, b.3))
by_down t v s m m2 x (inr (inr b)) eq =
    let q = stepping_is b.0 s b.2 in
    let e : token q.0 (kinds.Sign q.1) ≡ x = cons_head (sym (ap (λ l. l ++ m) q.2) ∙ eq) in
    (updates.Step b.0, update_at x q.0 (kinds.Sign q.1) (Some (updates.Step b.0)) e q.3, (b.1, b.2))

-- by the update that the next token is
by_this : (u : Update) (t : TargetTree) (v : Tree) (s m m2 : List Token) (x : Token) → update_of x ≡ Some u → IsAssigned t v s → s ++ m ≡ x ∷ m2 → By u t v s
by_this u t v s m m2 x e b eq =
    let d = by_down t v s m m2 x b eq in
    let f : d.0 ≡ u = some_is d.0 u (sym d.1 ∙ e) in
    subst (λ z. By z t v s) f d.2

held_height : (t : TargetTree) → height (held t) ≡ target_height t
held_height t = go t.variable t.index
  where
    go : (x : Identifier) (i : Option Tree) → height (held_in x i) ≡ 1 + optional_height i
    go x None = refl
    go x (Some e) = let h = tall e in omega arith

-- such a tree is as high as that at least
by_height : (u : Update) (t : TargetTree) (v : Tree) (s : List Token) → By u t v s → least_height (target_height t) u ≤ 1 + max (target_height t) (height v)
by_height updates.Plain t v s b = omega arith
by_height (updates.Compound op) t v s b =
    let h = held_height t in
    let e = ap height b.1 in
    omega (arith, h, e)
by_height (updates.Step op) t v s b =
    let h = held_height t in
    let e = ap height b.0 in
    omega (arith, h, e)

-- what would be too high begins so too
by_alive : (t : TargetTree) (x : Token) (u : Update) → update_of x ≡ Some u → (v : Tree) × (s : List Token) × By u t v (x ∷ s)
by_alive t x updates.Plain e =
    let s = update_sign x updates.Plain e in
    (leaf, leaf_token ∷ [], (x ∷ [], leaf_token ∷ [], refl, is_one (kinds.Sign signs.Assign) x (s.1 ∙ ap kinds.Sign s.2), refl))
by_alive t x (updates.Compound op) e =
    let s = update_sign x (updates.Compound op) e in (
      updated t op leaf,
      leaf_token ∷ [],
      (leaf, refl, (x ∷ [], leaf_token ∷ [], refl, subst (λ z. compound op (token x.place z ∷ [])) (sym s.1) (s.2 x.place), refl)),
    )
by_alive t x (updates.Step op) e =
    let s = update_sign x (updates.Step op) e in
    (updated t op (number t.variable.place 1), [], (refl, subst (λ z. stepping op (token x.place z ∷ [])) (sym s.1) (s.2 x.place)))

-- Assignments to a target that was read

abbrev pub LowAssignment : ℕ → AssignmentTree → Type 0
LowAssignment h a = assignment_height a ≤ h

abbrev pub AssignedTo : TargetTree → AssignmentTree → Phrase
AssignedTo t a ts = (a.target ≡ t) × IsAssigned t a.value ts

abbrev assigning : TargetTree → Tree → AssignmentTree
assigning t v = record { target = t; value = v }

-- in front of this sign
module _ (end : Sign) (free : (e : Tree) (x : Token) → x.kind ≡ kinds.Sign end → Free loosest e x)
    (no_update : (p : Span) → update_of (token p (kinds.Sign end)) ≡ None) where
  end_stop : {C : Type 0} (c : C) (e : Tree) (m : List Token) → Stops (Before end c) m → Stops (Free loosest e) m
  end_stop c e [] st = st
  end_stop c e (y ∷ m) st = free e y st

  pub no_update_at : (x : Token) → x.kind ≡ kinds.Sign end → update_of x ≡ None
  no_update_at x k = ap (λ z. update_of (token x.place z)) k ∙ no_update x.place

  module _ (max_height : ℕ) (t : TargetTree) (x : Token) (m : List Token) (en : IsEnded (x ∷ m)) where
    abbrev To : (u : Update) → AssignmentTree → Phrase
    To u a ts = (a.target ≡ t) × By u t a.value ts

    -- `=`
    plain_reads : x.kind ≡ kinds.Sign signs.Assign → least_height (target_height t) updates.Plain ≤ max_height
        → Reads (To updates.Plain) (LowAssignment max_height) (Before end) (x ∷ m) (operand (max_height - 1) m >>= λ v. Ok (assigning t v.0, v.1))
    plain_reads k enough =
        reads_same (Made (λ (v : Span × Tree). assigning t v.1) (Both (λ p. one_at p (kinds.Sign signs.Assign)) (λ p. IsExpression loosest)))
        (To updates.Plain) (LowAssignment max_height) (Before end) (Before end)
        (λ c s v. let w = v.2 in subst (λ z. To updates.Plain z s) (sym v.1) (refl, (w.0, w.1, w.2, (v.0.0, w.3), w.4)))
        (λ c s v. let w = v.1 in ((w.3.0, c.value), ap (λ z. assigning z c.value) v.0, (w.0, w.1, w.2, w.3.1, w.4)))
        (λ c m' st. st) (x ∷ m) _
        (known (kinds.Sign signs.Assign) (λ p. IsExpression loosest) (λ p v. assigning t v) (LowAssignment max_height) (Before end) refl
        (λ p. (leaf, leaf_token ∷ [], refl, omega (arith, enough)))
        x m _ k en (λ en2.
        made (IsExpression loosest) (Low (max_height - 1)) (Free loosest) (λ v. assigning t v) (LowAssignment max_height) (Before end)
        (λ v f. omega (arith, f)) (λ v f. omega (arith, f, enough)) (λ v m' st. end_stop (assigning t v) v m' st)
        m (operand (max_height - 1) m) (operand_reads (max_height - 1) m en2)))

    -- an operator and `=`
    compound_reads : (op : Operator) (k : Sign) → x.kind ≡ kinds.Sign k → ((p : Span) → compound op (token p (kinds.Sign k) ∷ []))
        → least_height (target_height t) (updates.Compound op) ≤ max_height
        → Reads (To (updates.Compound op)) (LowAssignment max_height) (Before end) (x ∷ m)
        (operand (max_height - 2) m >>= λ e. Ok (assigning t (updated t op e.0), e.1))
    compound_reads op k is all enough =
        let h = held_height t in
        reads_as (Made (λ (v : Span × Tree). assigning t (updated t op v.1)) (Both (λ p. one_at p (kinds.Sign k)) (λ p. IsExpression loosest)))
        (To (updates.Compound op)) (LowAssignment max_height) (Before end) (Before end) x
        (λ c s v. let w = v.2 in subst (λ z. To (updates.Compound op) z s) (sym v.1)
        (refl, (v.0.1, refl, (w.0, w.1, w.2, subst (compound op) (sym w.3) (all v.0.0), w.4))))
        (λ c s m' m2 v st eq. down c s m' m2 v eq)
        (λ c m' st. st) (x ∷ m) m _ refl
        (known (kinds.Sign k) (λ p. IsExpression loosest) (λ p v. assigning t (updated t op v)) (LowAssignment max_height) (Before end) refl
        (λ p. (leaf, leaf_token ∷ [], refl, omega (arith, enough, h)))
        x m _ is en (λ en2.
        made (IsExpression loosest) (Low (max_height - 2)) (Free loosest) (λ v. assigning t (updated t op v)) (LowAssignment max_height) (Before end)
        (λ v f. omega (arith, f, h)) (λ v f. omega (arith, f, enough, h)) (λ v m' st. end_stop (assigning t (updated t op v)) v m' st)
        m (operand (max_height - 2) m) (operand_reads (max_height - 2) m en2)))
      where
        down : (c : AssignmentTree) (s m' m2 : List Token) → To (updates.Compound op) c s → s ++ m' ≡ x ∷ m2
            → Made (λ (v : Span × Tree). assigning t (updated t op v.1)) (Both (λ p. one_at p (kinds.Sign k)) (λ p. IsExpression loosest)) c s
        down c s m' m2 v eq =
            let b = v.1 in
            let w = b.2 in
            let q = compound_is op w.0 w.3 in
            let e : token q.0 (kinds.Sign q.1) ≡ x = cons_head (sym (ap (λ l. l ++ m') (w.2 ∙ ap (λ l. l ++ w.1) q.2)) ∙ eq) in
            let same : kinds.Sign q.1 ≡ kinds.Sign k = ap (λ (t : Token). t.kind) e ∙ is in
            let c_is : c ≡ assigning t (updated t op b.0) = ap (λ z. assigning z c.value) v.0 ∙ ap (assigning t) b.1 in
            ((q.0, b.0), c_is, (w.0, w.1, w.2, q.2 ∙ ap (λ z. token q.0 z ∷ []) same, w.4))

    -- `++` and `--`
    step_reads : (op : Operator) (k : Sign) → x.kind ≡ kinds.Sign k → ((p : Span) → stepping op (token p (kinds.Sign k) ∷ []))
        → least_height (target_height t) (updates.Step op) ≤ max_height
        → Good (To (updates.Step op)) (LowAssignment max_height) (Before end) (x ∷ m) (assigning t (updated t op (number t.variable.place 1))) m
    step_reads op k is all enough =
        let h = held_height t in
        one_reads (To (updates.Step op)) (LowAssignment max_height) (Before end) x m (assigning t (updated t op (number t.variable.place 1)))
        (after_kind x m (kinds.Sign k) en is refl)
        (refl, (refl, subst (λ z. stepping op (token x.place z ∷ [])) (sym is) (all x.place)))
        (omega (arith, enough, h)) only
      where
        only : (c : AssignmentTree) (s m' m2 : List Token) → To (updates.Step op) c s → Stops (Before end c) m' → s ++ m' ≡ x ∷ m2
            → (c ≡ assigning t (updated t op (number t.variable.place 1))) × (s ≡ x ∷ [])
        only c s m' m2 v st eq =
            let q = stepping_is op s v.1.1 in
            let e : token q.0 (kinds.Sign q.1) ≡ x = cons_head (sym (ap (λ l. l ++ m') q.2) ∙ eq) in
            (ap (λ z. assigning z c.value) v.0 ∙ ap (assigning t) v.1.0, q.2 ∙ ap (λ z. z ∷ []) e)

    value_reads : (u : Update) → update_of x ≡ Some u → least_height (target_height t) u ≤ max_height
        → Reads (To u) (LowAssignment max_height) (Before end) (x ∷ m) (value_by max_height t u m >>= λ v. Ok (assigning t v.0, v.1))
    value_reads updates.Plain e enough =
        let s = update_sign x updates.Plain e in
        plain_reads (s.1 ∙ ap kinds.Sign s.2) enough
    value_reads (updates.Compound op) e enough =
        let s = update_sign x (updates.Compound op) e in
        subst (Reads (To (updates.Compound op)) (LowAssignment max_height) (Before end) (x ∷ m))
        (sym (bind_bind (operand (max_height - 2) m) (λ e. Ok (updated t op e.0, e.1)) (λ v. Ok (assigning t v.0, v.1))))
        (compound_reads op s.0 s.1 s.2 enough)
    value_reads (updates.Step op) e enough =
        let s = update_sign x (updates.Step op) e in
        step_reads op s.0 s.1 s.2 enough

    updated_reads : (u : Update) → update_of x ≡ Some u → (b : Bool) → nat_lt max_height (least_height (target_height t) u) ≡ b
        → Reads (AssignedTo t) (LowAssignment max_height) (Before end) (x ∷ m)
        (cond b (Err (TooHigh, x ∷ m)) (value_by max_height t u m >>= λ v. Ok (assigning t v.0, v.1)))
    updated_reads u e true lt =
        too_high (AssignedTo t) (LowAssignment max_height) (Before end) x m
        (λ c s m' m2 v fits st eq.
        let b = by_height u t c.value s (by_this u t c.value s m' m2 x e v.1 eq) in
        let l = ltb-true max_height (least_height (target_height t) u) lt in
        let f = ap target_height v.0 in
        omega (arith, b, l, f, fits))
        (let a = by_alive t x u e in (assigning t a.0, a.1, (refl, by_up u t a.0 (x ∷ a.1) a.2)))
    updated_reads u e false lt =
        reads_as (To u) (AssignedTo t) (LowAssignment max_height) (Before end) (Before end) x
        (λ c s v. (v.0, by_up u t c.value s v.1))
        (λ c s m' m2 v st eq. (v.0, by_this u t c.value s m' m2 x e v.1 eq))
        (λ c m' st. st) (x ∷ m) m _ refl (value_reads u e (ltb-false max_height (least_height (target_height t) u) lt))

    assigned_head : Reads (AssignedTo t) (LowAssignment max_height) (Before end) (x ∷ m) (assigned_by max_height t (update_of x) x m)
    assigned_head = go (update_of x) refl
      where
        go : (o : Option Update) → update_of x ≡ o → Reads (AssignedTo t) (LowAssignment max_height) (Before end) (x ∷ m) (assigned_by max_height t o x m)
        go None e =
            unexpected (AssignedTo t) (LowAssignment max_height) (Before end) x m
            (λ c s m' m2 v st eq. let d = by_down t c.value s m' m2 x v.1 eq in let f : Some d.0 ≡ None = sym d.1 ∙ e in cc)
        go (Some u) e = updated_reads u e (nat_lt max_height (least_height (target_height t) u)) refl

  pub assigned_reads : (max_height : ℕ) (t : TargetTree) (w : List Token) → IsEnded w
      → Reads (AssignedTo t) (LowAssignment max_height) (Before end) w (assigned max_height t w)
  assigned_reads max_height t [] en = cc
  assigned_reads max_height t (x ∷ m) en = assigned_head max_height t x m en

  -- an update may stand after an expression and a target
  assigned_first : (t : TargetTree) (v : Tree) (s m : List Token) → IsAssigned t v s
      → (x : Token) × (l : List Token) × (s ++ m ≡ x ∷ l) × (u : Update) × (update_of x ≡ Some u)
  assigned_first t v [] m b = absurd (empty t v b)
    where
      empty : (t : TargetTree) (v : Tree) → IsAssigned t v [] → ⊥
      empty t v b =
          let d = by_down t v [] (leaf_token ∷ []) [] leaf_token b refl in
          let f : None ≡ Some d.0 = d.1 in cc
  assigned_first t v (x ∷ s) m b =
      let d = by_down t v (x ∷ s) m (s ++ m) x b refl in (x, s ++ m, refl, d.0, d.1)

-- an assignment to a target begins with each update
pub alive_by : (t : TargetTree) (x : Token) (u : Update) → update_of x ≡ Some u → (v : Tree) × (s : List Token) × IsAssigned t v (x ∷ s)
alive_by t x u e = let a = by_alive t x u e in (a.0, a.1, by_up u t a.0 (x ∷ a.1) a.2)

-- an update goes on with no expression
update_goes_on : (k : TokenKind) (p : Span) (u : Update) → update_of (token p k) ≡ Some u
    → (goes_on loosest k ≡ false) × (is_sign signs.LeftBracket (token p k) ≡ false)
update_goes_on (kinds.Sign signs.Assign) p u e = (refl, refl)
update_goes_on (kinds.Sign signs.PlusAssign) p u e = (refl, refl)
update_goes_on (kinds.Sign signs.MinusAssign) p u e = (refl, refl)
update_goes_on (kinds.Sign signs.StarAssign) p u e = (refl, refl)
update_goes_on (kinds.Sign signs.AmpersandAssign) p u e = (refl, refl)
update_goes_on (kinds.Sign signs.BarAssign) p u e = (refl, refl)
update_goes_on (kinds.Sign signs.CaretAssign) p u e = (refl, refl)
update_goes_on (kinds.Sign signs.Increment) p u e = (refl, refl)
update_goes_on (kinds.Sign signs.Decrement) p u e = (refl, refl)
update_goes_on k p u e = absurd (none-some u e)

-- Whole assignments

abbrev pub LowIndex : ℕ → Option Tree → Type 0
LowIndex max_height i = 2 + optional_height i ≤ max_height

pub target_index_reads : (max_height : ℕ) → 2 ≤ max_height → (w : List Token) → IsEnded w
    → Reads (optional bracketed) (LowIndex max_height) NoBracket w (target_index max_height w)
target_index_reads max_height two [] en = cc
target_index_reads max_height two (x ∷ m) en = go (is_sign signs.LeftBracket x) refl
  where
    some : is_sign signs.LeftBracket x ≡ true → (b : Bool) → nat_lt max_height 3 ≡ b
        → Reads (optional bracketed) (LowIndex max_height) NoBracket (x ∷ m)
        (cond b (Err (TooHigh, x ∷ m)) (steps.bracketed (max_height - 2) (x ∷ m) >>= λ e. Ok (Some e.0, e.1)))
    some t true z =
        let n = ltb-true max_height 3 z in
        optional_high bracketed (LowIndex max_height) NoBracket x m (clash (is_sign signs.LeftBracket x) t)
        (λ e l. no_height e (omega arith)) (
          leaf,
          leaf_token ∷ lone signs.RightBracket,
          (
            x ∷ [],
            leaf_token ∷ lone signs.RightBracket,
            refl,
            is_one (kinds.Sign signs.LeftBracket) x (is_sign-true signs.LeftBracket x t),
            (leaf_token ∷ [], lone signs.RightBracket, refl, refl, (origin, refl)),
          ),
        )
    some t false z =
        let n = ltb-false max_height 3 z in
        some_reads bracketed (Low (max_height - 2)) Any (LowIndex max_height) NoBracket (λ e l. omega (arith, l)) (λ e l. omega (arith, l, n))
        (λ e m' st. any_stops (λ y. is_sign signs.LeftBracket y ≡ false) [] m' st) x m (steps.bracketed (max_height - 2) (x ∷ m))
        (clash (is_sign signs.LeftBracket x) t) (bracketed_reads (max_height - 2) (omega arith) (x ∷ m) en)

    go : (b : Bool) → is_sign signs.LeftBracket x ≡ b
        → Reads (optional bracketed) (LowIndex max_height) NoBracket (x ∷ m)
        (cond b (cond (nat_lt max_height 3) (Err (TooHigh, x ∷ m)) (steps.bracketed (max_height - 2) (x ∷ m) >>= λ e. Ok (Some e.0, e.1))) (Ok (None, x ∷ m)))
    go true t = some t (nat_lt max_height 3) refl
    go false t =
        none_reads bracketed (LowIndex max_height) NoBracket x m (omega arith)
        (λ e s m' m2 v eq. is_sign-false signs.LeftBracket x t
        (sign_head signs.LeftBracket (IsExpression loosest e then sign signs.RightBracket) s m' m2 x v eq))

abbrev target_at : Identifier → Option Tree → TargetTree
target_at x i = record { variable = x; index = i }

abbrev pub equals_token : Token
equals_token = token origin (kinds.Sign signs.Assign)

pub gets_leaf : (t : TargetTree) → AssignedTo t (record { target = t; value = leaf }) (equals_token ∷ leaf_token ∷ [])
gets_leaf t = (refl, inl (equals_token ∷ [], leaf_token ∷ [], refl, (origin, refl), refl))

abbrev Rest : Identifier → Option Tree × AssignmentTree → Phrase
Rest x = Both (optional bracketed) (λ i. AssignedTo (target_at x i))

abbrev Whole : AssignmentTree → Phrase
Whole = Made (λ (v : Identifier × (Option Tree × AssignmentTree)). v.1.1) (Both identifier Rest)

whole_up : (c : AssignmentTree) (s : List Token) → Whole c s → IsAssignment c s
whole_up c s v =
    let x = v.0.0 in
    let i = v.0.1.0 in
    let a = v.0.1.1 in
    let w = v.2 in
    let r = w.4 in
    let b : (IsTarget (target_at x i) then IsAssigned (target_at x i) a.value) s =
    (w.0 ++ r.0, r.1, w.2 ∙ ap (λ l. w.0 ++ l) r.2 ∙ sym (append_assoc w.0 r.0 r.1), (w.0, r.0, refl, w.3, r.3), r.4.1) in
    subst (λ z. IsAssignment z s) (sym v.1) (subst (λ z. (IsTarget z then IsAssigned z a.value) s) (sym r.4.0) b)

whole_down : (c : AssignmentTree) (s : List Token) → IsAssignment c s → Whole c s
whole_down c s v =
    let u = v.3 in (
      (c.target.variable, (c.target.index, c)),
      refl,
      (u.0, u.1 ++ v.1, v.2 ∙ ap (λ l. l ++ v.1) u.2 ∙ append_assoc u.0 u.1 v.1, u.3, (u.1, v.1, refl, u.4, (refl, v.4))),
    )

-- in front of this sign
module _ (end : Sign) (free : (e : Tree) (x : Token) → x.kind ≡ kinds.Sign end → Free loosest e x)
    (no_update : (p : Span) → update_of (token p (kinds.Sign end)) ≡ None) where
  index_first : (x : Identifier) (i : Option Tree) (a : AssignmentTree) (s m : List Token) → AssignedTo (target_at x i) a s → Stops (NoBracket i) (s ++ m)
  index_first x i a s m v =
      let f = assigned_first end free no_update (target_at x i) a.value s m v.1 in
      subst (Stops (NoBracket i)) (sym f.2) (update_goes_on f.0.kind f.0.place f.3 f.4).1

  pub assignment_reads : (max_height : ℕ) → 2 ≤ max_height → (w : List Token) → IsEnded w
      → Reads IsAssignment (LowAssignment max_height) (Before end) w (assignment_step max_height w)
  unfolding assignment_step
  assignment_reads max_height two w en =
      reads_same Whole IsAssignment (LowAssignment max_height) (Before end) (Before end) whole_up whole_down (λ c m st. st) w _
      (seq identifier All Any Rest (λ x v. v.1) (LowAssignment max_height) (Before end)
      (λ x v s u f. tt)
      (λ x v s m u st. any_stops (λ y. y.kind ≡ kinds.Sign end) s m st)
      (λ x s u. (
        (None, record { target = target_at x None; value = leaf }),
        equals_token ∷ leaf_token ∷ [],
        ([], equals_token ∷ leaf_token ∷ [], refl, refl, gets_leaf (target_at x None)),
        λ f. omega (arith, two),
      ))
      w (expressions.identifier w) _ (identifier_reads w en) (λ x r is g.
      seq (optional bracketed) (LowIndex max_height) NoBracket (λ i. AssignedTo (target_at x i)) (λ i a. a) (LowAssignment max_height) (Before end)
      (λ i a s u f. let e = ap target_height u.0 in omega (arith, e, f))
      (λ i a s m u st. index_first x i a s m u)
      (λ i s u. (record { target = target_at x i; value = leaf }, equals_token ∷ leaf_token ∷ [], gets_leaf (target_at x i), λ f. omega (arith, f)))
      r (target_index max_height r) _ (target_index_reads max_height two r (good_ended g en)) (λ i r2 is2 g2.
      reads_same (AssignedTo (target_at x i)) (Made (λ (a : AssignmentTree). a) (AssignedTo (target_at x i))) (LowAssignment max_height) (Before end)
      (Before end)
      (λ c s v. (c, refl, v)) (λ c s v. subst (λ z. AssignedTo (target_at x i) z s) (sym v.1) v.2) (λ c m st. st) r2 _
      (assigned_reads end free no_update max_height (target_at x i) r2 (good_ended g2 (good_ended g en))))))

-- Assignments and expressions

pub expression_target : (e : Tree) (t : TargetTree) (s : List Token) → target_of e ≡ Some t → IsExpression loosest e s → IsTarget t s
expression_target (variable p x) t s f v =
    subst (λ z. IsTarget z s) (some_is (target_at (record { place = p; text = x }) None) t f) (s, [], sym (append-nil s), v, refl)
expression_target (index p (variable q x) i) t s f v =
    let w = v.2 in
    subst (λ z. IsTarget z s) (some_is (target_at (record { place = q; text = x }) (Some i)) t f) w
expression_target e t s f v = absurd (none-some t f)

pub target_expression : (t : TargetTree) (s : List Token) → IsTarget t s → IsExpression loosest (held t) s
target_expression t s v = go t.variable t.index v
  where
    go : (x : Identifier) (i : Option Tree) → IsTarget (target_at x i) s → IsExpression loosest (held_in x i) s
    go x None v = v.2 ∙ ap (λ l. v.0 ++ l) v.4 ∙ append-nil v.0 ∙ v.3
    go x (Some e) v = (tt, refl, v)

pub target_of-held : (t : TargetTree) → target_of (held t) ≡ Some t
target_of-held t = go t.variable t.index
  where
    go : (x : Identifier) (i : Option Tree) → target_of (held_in x i) ≡ Some (target_at x i)
    go x None = refl
    go x (Some e) = refl

abbrev pub IsAction : ActionTree → Phrase
IsAction (assigns a) ts = IsAssignment a ts
IsAction (evaluates e) ts = IsExpression loosest e ts

abbrev pub LowAction : (h max_height : ℕ) → ActionTree → Type 0
LowAction h max_height (assigns a) = assignment_height a ≤ max_height
LowAction h max_height (evaluates e) = height e ≤ h

-- what stands after the expression that an action begins with
abbrev Tail : Tree → ActionTree → Phrase
Tail e (assigns a) ts = (target_of e ≡ Some a.target) × IsAssigned a.target a.value ts
Tail e (evaluates d) ts = (d ≡ e) × nothing ts

tail_up : (c : ActionTree) (s : List Token) → Then (IsExpression loosest) Tail c s → IsAction c s
tail_up (assigns a) s v = let r = v.5 in (v.1, v.2, v.3, expression_target v.0 a.target v.1 r.0 v.4, r.1)
tail_up (evaluates d) s v =
    let r = v.5 in
    subst (λ z. IsExpression loosest z s) (sym r.0) (subst (IsExpression loosest v.0) (sym (v.3 ∙ ap (λ l. v.1 ++ l) r.1 ∙ append-nil v.1)) v.4)

tail_down : (c : ActionTree) (s : List Token) → IsAction c s → Then (IsExpression loosest) Tail c s
tail_down (assigns a) s v = (held a.target, v.0, v.1, v.2, target_expression a.target v.0 v.3, (target_of-held a.target, v.4))
tail_down (evaluates d) s v = (d, s, [], sym (append-nil s), v, (refl, refl))

-- in front of this sign
module _ (end : Sign) (free : (e : Tree) (x : Token) → x.kind ≡ kinds.Sign end → Free loosest e x)
    (no_update : (p : Span) → update_of (token p (kinds.Sign end)) ≡ None) (h max_height : ℕ) (near : max_height ≤ suc h) where
  tail_low : (e : Tree) (c : ActionTree) (s : List Token) → Tail e c s → LowAction h max_height c → Low h e
  tail_low e (assigns a) s v f = let t = target_of_height e a.target v.0 in omega (arith, t, f, near)
  tail_low e (evaluates d) s v f = let t = ap height v.0 in omega (arith, t, f)

  tail_first : (e : Tree) (c : ActionTree) (s m : List Token) → Tail e c s → Stops (Before end c) m → Stops (Free loosest e) (s ++ m)
  tail_first e (assigns a) s m v st =
      let f = assigned_first end free no_update a.target a.value s m v.1 in
      subst (Stops (Free loosest e)) (sym f.2) (update_goes_on f.0.kind f.0.place f.3 f.4).0
  tail_first e (evaluates d) s [] v st = absurd st
  tail_first e (evaluates d) s (y ∷ m) v st = subst (λ l. Stops (Free loosest e) (l ++ y ∷ m)) (sym v.1) (free e y st)

  -- nothing but the end stands after an expression that is evaluated
  no_end : (e d : Tree) (s m m2 : List Token) (x : Token) (u : Update) → update_of x ≡ Some u → Tail e (evaluates d) s
      → Stops (Before end (evaluates d)) m → s ++ m ≡ x ∷ m2 → ⊥
  no_end e d s m m2 x u f v st eq =
      let k = subst (Stops (Before end (evaluates d))) (ap (λ l. l ++ m) (sym v.1) ∙ eq) st in
      let g : None ≡ Some u = sym (no_update_at end free no_update x k) ∙ f in
      cc

  tail_target : (e : Tree) (x : Token) (m : List Token) (u : Update) → update_of x ≡ Some u → IsEnded (x ∷ m) → (o : Option TargetTree)
      → target_of e ≡ o → Reads (Tail e) (LowAction h max_height) (Before end) (x ∷ m) (assigns_to max_height o (x ∷ m))
  tail_target e x m u f en None t = unexpected (Tail e) (LowAction h max_height) (Before end) x m go
    where
      go : (c : ActionTree) (s m' m2 : List Token) → Tail e c s → Stops (Before end c) m' → s ++ m' ≡ x ∷ m2 → ⊥
      go (assigns a) s m' m2 v st eq = let g : None ≡ Some a.target = sym t ∙ v.0 in cc
      go (evaluates d) s m' m2 v st eq = no_end e d s m' m2 x u f v st eq
  tail_target e x m u f en (Some t) is =
      reads_as (Made assigns (AssignedTo t)) (Tail e) (LowAction h max_height) (Before end) (Before end) x up down (λ c m' st. st) (x ∷ m) m _ refl
      (made (AssignedTo t) (LowAssignment max_height) (Before end) assigns (LowAction h max_height) (Before end) (λ a l. l) (λ a l. l) same (x ∷ m)
      (assigned max_height t (x ∷ m)) (assigned_reads end free no_update max_height t (x ∷ m) en))
    where
      same : (a : AssignmentTree) (m : List Token) → Stops (Before end (assigns a)) m → Stops (Before end a) m
      same a [] st = st
      same a (y ∷ m) st = st

      up : (c : ActionTree) (s : List Token) → Made assigns (AssignedTo t) c s → Tail e c s
      up c s v =
          let a = v.0 in
          let r = v.2 in
          subst (λ z. Tail e z s) (sym v.1) (is ∙ ap Some (sym r.0), subst (λ z. IsAssigned z a.value s) (sym r.0) r.1)

      down : (c : ActionTree) (s m' m2 : List Token) → Tail e c s → Stops (Before end c) m' → s ++ m' ≡ x ∷ m2 → Made assigns (AssignedTo t) c s
      down (assigns a) s m' m2 v st eq =
          let g : a.target ≡ t = some_is a.target t (sym v.0 ∙ is) in
          (a, refl, (g, subst (λ z. IsAssigned z a.value s) g v.1))
      down (evaluates d) s m' m2 v st eq = absurd (no_end e d s m' m2 x u f v st eq)

  tail_reads : (e : Tree) (w : List Token) → Low h e → IsEnded w
      → Reads (Tail e) (LowAction h max_height) (Before end) w (cond (is_update w) (assigns_to max_height (target_of e) w) (Ok (evaluates e, w)))
  tail_reads e [] low en = cc
  tail_reads e (x ∷ m) low en = go (update_of x) refl
    where
      go : (o : Option Update) → update_of x ≡ o
          → Reads (Tail e) (LowAction h max_height) (Before end) (x ∷ m)
          (cond (updates_by o) (assigns_to max_height (target_of e) (x ∷ m)) (Ok (evaluates e, x ∷ m)))
      go (Some u) f = tail_target e x m u f en (target_of e) refl
      go None f = nothing_reads (Tail e) (LowAction h max_height) (Before end) x m (evaluates e) (refl, refl) low only
        where
          only : (c : ActionTree) (s m' m2 : List Token) → Tail e c s → Stops (Before end c) m' → s ++ m' ≡ x ∷ m2 → (c ≡ evaluates e) × (s ≡ [])
          only (assigns a) s m' m2 v st eq =
              let d = by_down a.target a.value s m' m2 x v.1 eq in
              let g : Some d.0 ≡ None = sym d.1 ∙ f in
              cc
          only (evaluates d) s m' m2 v st eq = (ap evaluates v.0, v.1)

  pub action_reads : (w : List Token) → IsEnded w → Reads IsAction (LowAction h max_height) (Before end) w (action h max_height w)
  unfolding action
  action_reads w en =
      reads_same (Then (IsExpression loosest) Tail) IsAction (LowAction h max_height) (Before end) (Before end) tail_up tail_down (λ c m st. st) w _
      (bind_reads (IsExpression loosest) (Low h) (Free loosest) Tail (LowAction h max_height) (Before end) tail_low tail_first
      (λ e s v f. (evaluates e, [], (refl, refl), f))
      (λ e s v. (evaluates e, [], (refl, refl)))
      w (operand h w) _ (operand_reads h w en) (λ e r g. tail_reads e r g.fits (good_ended g en)))
