-- Readings of statements.
use Rattle.std.proofs.Common.{◌≡◌, ℕ, suc, ◌-◌, ◌≤◌, List, [], ◌∷◌, ◌++◌, refl, sym, ap, ◌∙◌, subst, append-nil, Ok, Bool, true, false, cond, Option}
use Rattle.std.proofs.Common.{Some, None, arith}
use Rattle.sc_text.specs.declared.span.Span.{Span}
use Rattle.secrec_lexer.specs.declared.sign.Sign.{Sign}
use Rattle.secrec_lexer.specs.declared.sign.Sign.TheVariants as signs
use Rattle.secrec_lexer.specs.declared.token.TokenKind.TheVariants as kinds
use Rattle.secrec_lexer.specs.declared.token.Token.{Token}
use Rattle.secrec_lexer.specs.Tokens.{is_sign, is_end, IsEnded}
use Rattle.program_trees.specs.Tree.{Tree}
use Rattle.program_trees.specs.Statements.{DeclarationTree, StatementTree, empty, branch, choice, breaks, continues, returns, assertion, declaration}
use Rattle.program_trees.specs.Heights.{statement_height}
use Rattle.expression_parser.specs.Phrases.{Phrase, token, nothing, one_at, one, sign_at, sign, ◌then◌}
use Rattle.expression_parser.specs.Steps.{Outcome, ◌>>=◌, expect}
use Rattle.expression_parser.proofs.Reading.{Good, Reads, Stops, cons_head, reads_as}
use Rattle.expression_parser.proofs.Tokens.{Any, origin, any_stops, good_ended, after_kind, is_sign-true, is_sign-false}
use Rattle.expression_parser.proofs.Nodes.{Low, tall, leaf}
use Rattle.secrec_parser.specs.Grammar.{parenthesised, IsDeclaration, IsStatement, Closed}
use Rattle.secrec_parser.specs.inner.Steps.{Inner, leader_of, least, listed, at_sign, braced, else_step, if_step, while_step, do_step, for_step}
use Rattle.secrec_parser.specs.inner.Steps.{return_step, assert_step, declaration_step, declaration_statement, action, ActionTree, assigns, evaluates}
use Rattle.secrec_parser.specs.inner.Steps.{statement_of, action_statement}
use Rattle.secrec_parser.specs.inner.Steps as steps
use Rattle.secrec_parser.proofs.Made.{Made, Both, Living, seq, made, known, sign_seq, sign_end}
use Rattle.secrec_parser.proofs.Heads.{nothing_reads, one_reads}
use Rattle.secrec_parser.proofs.TypeReadings.{lone}
use Rattle.secrec_parser.proofs.Declarations.{Before, sign_head, last_sign_first, LowOption, LowDeclaration, Semicolon, semicolon_free}
use Rattle.secrec_parser.proofs.Declarations.{declaration_reads, parenthesised_reads}
use Rattle.secrec_parser.proofs.Assignments.{IsAction, LowAction, action_reads}
use Rattle.secrec_parser.proofs.Leaders.{family, family_of, family_is}
use Rattle.secrec_parser.proofs.Headings.{TestPart, test_reads}
use Rattle.secrec_parser.proofs.Starts.{parens, are_parens}

abbrev pub LowStatement : ℕ → StatementTree → Type 0
LowStatement h c = statement_height c ≤ h

-- what may follow a statement: an `else` only where no `if` waits for it
abbrev pub Follow : StatementTree → Token → Type 0
Follow c x = x.kind ≡ kinds.Sign signs.Else → Closed c

-- A statement that a keyword leads

module _ (in_loop : Bool) (max_height : ℕ) {B : Type 0} (k : Sign) (n : ℕ) (W : B → Phrase) (f : Span → B → StatementTree) (G : StatementTree → Token → Type 0)
    (goes_on : is_end (kinds.Sign k) ≡ false)
    (up : (p : Span) (b : B) (s : List Token) → (sign_at p k then W b) s → IsStatement in_loop (f p b) s)
    (down : (c : StatementTree) (s : List Token) → family_of c ≡ n → IsStatement in_loop c s → (p : Span) × (b : B) × (c ≡ f p b) × (sign_at p k then W b) s)
    (stop : (c : StatementTree) (m : List Token) → Stops (Follow c) m → Stops (G c) m)
    (alive : (p : Span) → Living (f p) W (LowStatement max_height))
  where
    abbrev Led : StatementTree → Phrase
    Led = Made (λ (v : Span × B). f v.0 v.1) (Both (λ p. one_at p (kinds.Sign k)) (λ p. W))

    led_up : (c : StatementTree) (s : List Token) → Led c s → IsStatement in_loop c s
    led_up c s v = subst (λ z. IsStatement in_loop z s) (sym v.1) (up v.0.0 v.0.1 s v.2)

    led_down : (c : StatementTree) (s : List Token) → family_of c ≡ n → IsStatement in_loop c s → Led c s
    led_down c s e v = let d = down c s e v in ((d.0, d.1), d.2, d.3)

    pub keyword_reads : (x : Token) (m : List Token) (o : Outcome StatementTree) → x.kind ≡ kinds.Sign k → family (leader_of in_loop x) ≡ n
        → IsEnded (x ∷ m) → (IsEnded m → Reads (Made (f x.place) W) (LowStatement max_height) G m o)
        → Reads (IsStatement in_loop) (LowStatement max_height) Follow (x ∷ m) o
    keyword_reads x m o is fam en r =
        reads_as Led (IsStatement in_loop) (LowStatement max_height) G Follow x led_up
        (λ c s m' m2 v st eq. led_down c s (sym (family_is in_loop c s m' m2 x v eq) ∙ fam) v)
        stop (x ∷ m) m o refl
        (known (kinds.Sign k) (λ p. W) f (LowStatement max_height) G goes_on alive x m o is en r)

pub follow_any : (c : StatementTree) (m : List Token) → Stops (Follow c) m → Stops (Any c) m
follow_any c m st = any_stops (Follow c) [] m st

pub follow_same : (c : StatementTree) (m : List Token) → Stops (Follow c) m → Stops (Follow c) m
follow_same c m st = st

-- a statement whose end decides what may follow it
pub follow_through : (c d : StatementTree) (m : List Token) → (Closed c → Closed d) → Stops (Follow c) m → Stops (Follow d) m
follow_through c d [] f st = st
follow_through c d (y ∷ m) f st = λ e. f (st e)

-- Statements that end with a semicolon, and hold none

pub break_reads : (in_loop : Bool) (max_height : ℕ) → 1 ≤ max_height → (x : Token) (m : List Token) → x.kind ≡ kinds.Sign signs.Break → in_loop ≡ true
    → family (leader_of in_loop x) ≡ 6 → IsEnded (x ∷ m)
    → Reads (IsStatement in_loop) (LowStatement max_height) Follow (x ∷ m) (expect signs.Semicolon m >>= λ b. Ok (breaks x.place, b.1))
break_reads in_loop max_height one x m k within fam en =
    keyword_reads in_loop max_height signs.Break 6 (λ (u : Unit {0}). sign signs.Semicolon) (λ p u. breaks p) Any refl
    (λ p u s v. (within, v)) down follow_any (λ p. (tt, lone signs.Semicolon, (origin, refl), one))
    x m _ k fam en (λ en2. sign_end signs.Semicolon (breaks x.place) (LowStatement max_height) one m en2)
  where
    down : (c : StatementTree) (s : List Token) → family_of c ≡ 6 → IsStatement in_loop c s
        → (p : Span) × (b : Unit {0}) × (c ≡ breaks p) × (sign_at p signs.Break then sign signs.Semicolon) s
    down (breaks p) s e v = (p, tt, refl, v.1)
    down c s e v = absurd (omega (arith, e))

pub continue_reads : (in_loop : Bool) (max_height : ℕ) → 1 ≤ max_height → (x : Token) (m : List Token) → x.kind ≡ kinds.Sign signs.Continue
    → in_loop ≡ true → family (leader_of in_loop x) ≡ 7 → IsEnded (x ∷ m)
    → Reads (IsStatement in_loop) (LowStatement max_height) Follow (x ∷ m) (expect signs.Semicolon m >>= λ b. Ok (continues x.place, b.1))
continue_reads in_loop max_height one x m k within fam en =
    keyword_reads in_loop max_height signs.Continue 7 (λ (u : Unit {0}). sign signs.Semicolon) (λ p u. continues p) Any refl
    (λ p u s v. (within, v)) down follow_any (λ p. (tt, lone signs.Semicolon, (origin, refl), one))
    x m _ k fam en (λ en2. sign_end signs.Semicolon (continues x.place) (LowStatement max_height) one m en2)
  where
    down : (c : StatementTree) (s : List Token) → family_of c ≡ 7 → IsStatement in_loop c s
        → (p : Span) × (b : Unit {0}) × (c ≡ continues p) × (sign_at p signs.Continue then sign signs.Semicolon) s
    down (continues p) s e v = (p, tt, refl, v.1)
    down c s e v = absurd (omega (arith, e))

pub empty_reads : (in_loop : Bool) (max_height : ℕ) → 1 ≤ max_height → (x : Token) (m : List Token) → x.kind ≡ kinds.Sign signs.Semicolon
    → family (leader_of in_loop x) ≡ 1 → IsEnded (x ∷ m) → Good (IsStatement in_loop) (LowStatement max_height) Follow (x ∷ m) (empty x.place) m
empty_reads in_loop max_height one x m k fam en =
    one_reads (IsStatement in_loop) (LowStatement max_height) Follow x m (empty x.place) (after_kind x m (kinds.Sign signs.Semicolon) en k refl)
    (ap (λ z. token x.place z ∷ []) k) one
    (λ c s m' m2 v st eq. only c s m' m2 (sym (family_is in_loop c s m' m2 x v eq) ∙ fam) v eq)
  where
    only : (c : StatementTree) (s m' m2 : List Token) → family_of c ≡ 1 → IsStatement in_loop c s → s ++ m' ≡ x ∷ m2 → (c ≡ empty x.place) × (s ≡ x ∷ [])
    only (empty p) s m' m2 e v eq =
        let hd = cons_head (sym (ap (λ l. l ++ m') v) ∙ eq) in
        (ap (λ (t : Token). empty t.place) hd, v ∙ ap (λ t. t ∷ []) hd)
    only c s m' m2 e v eq = absurd (omega (arith, e))

pub return_reads : (in_loop : Bool) (max_height : ℕ) → 1 ≤ max_height → (x : Token) (m : List Token) → x.kind ≡ kinds.Sign signs.Return
    → family (leader_of in_loop x) ≡ 8 → IsEnded (x ∷ m)
    → Reads (IsStatement in_loop) (LowStatement max_height) Follow (x ∷ m) (return_step (max_height - 1) x.place m)
unfolding return_step
return_reads in_loop max_height one x m k fam en =
    keyword_reads in_loop max_height signs.Return 8 TestPart (λ p e. returns p e) Any refl
    (λ p e s v. v) down follow_any (λ p. (None, lone signs.Semicolon, ([], lone signs.Semicolon, refl, refl, (origin, refl)), omega (arith, one)))
    x m _ k fam en (λ en2.
    made TestPart (LowOption (max_height - 1)) Any (λ e. returns x.place e) (LowStatement max_height) Any
    (λ e f. omega (arith, f)) (λ e f. omega (arith, f, one)) (λ e m st. any_stops (λ y. Unit {0}) [] m st) m (steps.test_part (max_height - 1) m)
    (test_reads (max_height - 1) m en2))
  where
    down : (c : StatementTree) (s : List Token) → family_of c ≡ 8 → IsStatement in_loop c s
        → (p : Span) × (b : Option Tree) × (c ≡ returns p b) × (sign_at p signs.Return then TestPart b) s
    down (returns p e) s f v = (p, e, refl, v)
    down c s e v = absurd (omega (arith, e))

pub assert_reads : (in_loop : Bool) (max_height : ℕ) → 2 ≤ max_height → (x : Token) (m : List Token) → x.kind ≡ kinds.Sign signs.Assert
    → family (leader_of in_loop x) ≡ 9 → IsEnded (x ∷ m)
    → Reads (IsStatement in_loop) (LowStatement max_height) Follow (x ∷ m) (assert_step (max_height - 1) x.place m)
unfolding assert_step
assert_reads in_loop max_height two x m k fam en =
    keyword_reads in_loop max_height signs.Assert 9 (Both parenthesised (λ e (u : Unit {0}). sign signs.Semicolon)) (λ p v. assertion p v.0) Any refl
    (λ p v s u. u) down follow_any
    (λ p. ((leaf, tt), parens ++ lone signs.Semicolon, (parens, lone signs.Semicolon, refl, are_parens, (origin, refl)), omega (arith, two)))
    x m _ k fam en (λ en2.
    seq parenthesised (Low (max_height - 1)) Any (λ e (u : Unit {0}). sign signs.Semicolon) (λ e u. assertion x.place e) (LowStatement max_height) Any
    (λ e u t v f. omega (arith, f))
    (λ e u t m v st. any_stops (λ y. Unit {0}) t m st)
    (λ e s v. (tt, lone signs.Semicolon, (origin, refl), λ f. omega (arith, f, two)))
    m (steps.parenthesised (max_height - 1) m) _ (parenthesised_reads (max_height - 1) (omega (arith, two)) m en2) (λ e r is g.
    let fits = g.fits in
    sign_end signs.Semicolon (assertion x.place e) (LowStatement max_height) (omega (arith, fits, two)) r (good_ended g en2)))
  where
    down : (c : StatementTree) (s : List Token) → family_of c ≡ 9 → IsStatement in_loop c s
        → (p : Span) × (b : Tree × Unit {0}) × (c ≡ assertion p b.0)
        × (sign_at p signs.Assert then Both parenthesised (λ e (u : Unit {0}). sign signs.Semicolon) b) s
    down (assertion p e) s f v = (p, (e, tt), refl, v)
    down c s e v = absurd (omega (arith, e))

-- Declarations, assignments and expressions, each with its semicolon

abbrev pub Declared : StatementTree → Phrase
Declared = Made (λ (v : DeclarationTree × Unit {0}). declaration v.0) (Both IsDeclaration (λ d (u : Unit {0}). sign signs.Semicolon))

pub declared_statement_reads : (max_height : ℕ) → 1 ≤ max_height → (w : List Token) → IsEnded w
    → Reads Declared (LowStatement max_height) Any w (declaration_statement (max_height - 1) w)
unfolding declaration_statement
declared_statement_reads max_height one w en =
    seq IsDeclaration (LowDeclaration (suc (max_height - 1))) Semicolon (λ d (u : Unit {0}). sign signs.Semicolon) (λ d u. declaration d)
    (LowStatement max_height) Any
    (λ d u t v f. omega (arith, f))
    (λ d u t m v st. last_sign_first (λ y. y.kind ≡ kinds.Sign signs.Semicolon) signs.Semicolon t m (λ q. refl) v)
    (λ d s v. (tt, lone signs.Semicolon, (origin, refl), λ f. omega (arith, f, one)))
    w (declaration_step (max_height - 1) w) _ (declaration_reads (max_height - 1) w en) (λ d r is g.
    let fits = g.fits in
    sign_end signs.Semicolon (declaration d) (LowStatement max_height) (omega (arith, fits, one)) r (good_ended g en))

abbrev pub Acted : StatementTree → Phrase
Acted = Made (λ (v : ActionTree × Unit {0}). statement_of v.0) (Both IsAction (λ a (u : Unit {0}). sign signs.Semicolon))

pub acted_up : (in_loop : Bool) (c : StatementTree) (s : List Token) → Acted c s → IsStatement in_loop c s
acted_up in_loop c s v = subst (λ z. IsStatement in_loop z s) (sym v.1) (go v.0.0 v.2)
  where
    go : (a : ActionTree) → (IsAction a then sign signs.Semicolon) s → IsStatement in_loop (statement_of a) s
    go (assigns a) v = v
    go (evaluates e) v = v

pub action_statement_reads : (max_height : ℕ) (w : List Token) → IsEnded w → Reads Acted (LowStatement max_height) Any w (action_statement max_height w)
unfolding action_statement
action_statement_reads max_height w en =
    seq IsAction (LowAction (max_height - 1) max_height) (Before signs.Semicolon) (λ a (u : Unit {0}). sign signs.Semicolon) (λ a u. statement_of a)
    (LowStatement max_height) Any
    (λ a u t v f. low a f)
    (λ a u t m v st. last_sign_first (λ y. y.kind ≡ kinds.Sign signs.Semicolon) signs.Semicolon t m (λ q. refl) v)
    (λ a s v. (tt, lone signs.Semicolon, (origin, refl), λ f. high a f))
    w (action (max_height - 1) max_height w) _
    (action_reads signs.Semicolon semicolon_free (λ p. refl) (max_height - 1) max_height (omega arith) w en) (λ a r is g.
    sign_end signs.Semicolon (statement_of a) (LowStatement max_height) (high a g.fits) r (good_ended g en))
  where
    low : (a : ActionTree) → LowStatement max_height (statement_of a) → LowAction (max_height - 1) max_height a
    low (assigns a) f = f
    low (evaluates e) f = omega (arith, f)

    high : (a : ActionTree) → LowAction (max_height - 1) max_height a → LowStatement max_height (statement_of a)
    high (assigns a) f = f
    high (evaluates e) f = let t = tall e in omega (arith, f, t)

-- Statements that hold statements, where what reads those is given

module _ (max_height : ℕ) (two : 2 ≤ max_height) (in_loop : Bool) (inner : Inner)
    (reads_inner : (w : List Token) → IsEnded w → Reads (IsStatement in_loop) (LowStatement (max_height - 1)) Follow w (inner w))
  where
    -- `else` and its statement, or nothing, after the statement s
    pub ElseTail : StatementTree → Option StatementTree → Phrase
    ElseTail s None ts = nothing ts
    ElseTail s (Some t) ts = Closed s × (sign signs.Else then IsStatement in_loop t) ts

    abbrev pub if_tree : Span → Tree → StatementTree → Option StatementTree → StatementTree
    if_tree p e s None = branch p e s
    if_tree p e s (Some t) = choice p e s t

    module _ (p : Span) (e : Tree) (low : Low (max_height - 1) e) (s : StatementTree) (low_body : LowStatement (max_height - 1) s) (x : Token)
        (m : List Token) (en : IsEnded (x ∷ m)) (free : Follow s x) where
      abbrev Tail : StatementTree → Phrase
      Tail = Made (if_tree p e s) (ElseTail s)

      abbrev Other : StatementTree → Phrase
      Other = Made (λ t. choice p e s t) (λ t. sign signs.Else then IsStatement in_loop t)

      other_reads : is_sign signs.Else x ≡ true
          → Reads Tail (LowStatement max_height) Follow (x ∷ m) (expect signs.Else (x ∷ m) >>= λ a. inner a.1 >>= λ t. Ok (choice p e s t.0, t.1))
      unfolding ElseTail
      other_reads is =
          let k = is_sign-true signs.Else x is in
          reads_as Other Tail (LowStatement max_height) Follow Follow x
          (λ c ts v. (Some v.0, v.1, (free k, v.2)))
          (λ c ts m' m2 v st eq. down k c ts m' m2 v st eq)
          (λ c m' st. st) (x ∷ m) m _ refl
          (sign_seq signs.Else (IsStatement in_loop) (λ t. choice p e s t) (LowStatement max_height) Follow
          (empty origin, lone signs.Semicolon, refl, omega (arith, low, low_body, two))
          (x ∷ m) _ en (λ q r en2.
          made (IsStatement in_loop) (LowStatement (max_height - 1)) Follow (λ t. choice p e s t) (LowStatement max_height) Follow
          (λ t f. omega (arith, f)) (λ t f. omega (arith, f, low, low_body, two)) (λ t m' st. follow_through (choice p e s t) t m' (λ c. c) st)
          r (inner r) (reads_inner r en2)))
        where
          down : x.kind ≡ kinds.Sign signs.Else → (c : StatementTree) (ts m' m2 : List Token) → Tail c ts → Stops (Follow c) m' → ts ++ m' ≡ x ∷ m2 → Other c ts
          down k c ts m' m2 v st eq = at v.0 v.1 v.2
            where
              at : (o : Option StatementTree) → c ≡ if_tree p e s o → ElseTail s o ts → Other c ts
              at None f n =
                  let closed = subst (Stops (Follow c)) (ap (λ l. l ++ m') (sym n) ∙ eq) st k in
                  absurd (subst Closed f closed)
              at (Some t) f u = (t, f, u.1)

      no_other : is_sign signs.Else x ≡ false → Reads Tail (LowStatement max_height) Follow (x ∷ m) (Ok (branch p e s, x ∷ m))
      unfolding ElseTail
      no_other is =
          nothing_reads Tail (LowStatement max_height) Follow x m (branch p e s) (None, refl, refl) (omega (arith, low, low_body, two))
          (λ c ts m' m2 v st eq. only c ts m' m2 v.0 v.1 v.2 eq)
        where
          only : (c : StatementTree) (ts m' m2 : List Token) (o : Option StatementTree) → c ≡ if_tree p e s o → ElseTail s o ts → ts ++ m' ≡ x ∷ m2
              → (c ≡ branch p e s) × (ts ≡ [])
          only c ts m' m2 None f n eq = (f, n)
          only c ts m' m2 (Some t) f u eq = absurd (is_sign-false signs.Else x is (sign_head signs.Else (IsStatement in_loop t) ts m' m2 x u.1 eq))

      else_head : Reads Tail (LowStatement max_height) Follow (x ∷ m) (else_step inner p e s (x ∷ m))
      else_head = go (is_sign signs.Else x) refl
        where
          go : (b : Bool) → is_sign signs.Else x ≡ b
              → Reads Tail (LowStatement max_height) Follow (x ∷ m)
              (cond b (expect signs.Else (x ∷ m) >>= λ a. inner a.1 >>= λ t. Ok (choice p e s t.0, t.1)) (Ok (branch p e s, x ∷ m)))
          go true is = other_reads is
          go false is = no_other is

    else_reads : (p : Span) (e : Tree) → Low (max_height - 1) e → (s : StatementTree) → LowStatement (max_height - 1) s → (w : List Token) → IsEnded w
        → Stops (Follow s) w → Reads (Made (if_tree p e s) (ElseTail s)) (LowStatement max_height) Follow w (else_step inner p e s w)
    else_reads p e low s low_body [] en free = cc
    else_reads p e low s low_body (x ∷ m) en free = else_head p e low s low_body x m en free

    tail_first : (p : Span) (e : Tree) (s : StatementTree) (o : Option StatementTree) (t m : List Token) → ElseTail s o t
        → Stops (Follow (if_tree p e s o)) m → Stops (Follow s) (t ++ m)
    unfolding ElseTail
    tail_first p e s None t [] v st = absurd st
    tail_first p e s None t (y ∷ m) v st = subst (λ l. Stops (Follow s) (l ++ y ∷ m)) (sym v) (λ k. absurd (st k))
    tail_first p e s (Some u) t m v st =
        let w = v.1 in
        subst (λ l. Stops (Follow s) (l ++ m)) (sym (w.2 ∙ ap (λ l. l ++ w.1) w.3.1)) (λ k. v.0)

    low_test : (p : Span) (e : Tree) (s : StatementTree) (o : Option StatementTree) → LowStatement max_height (if_tree p e s o) → Low (max_height - 1) e
    low_test p e s None f = omega (arith, f)
    low_test p e s (Some t) f = omega (arith, f)

    low_first : (p : Span) (e : Tree) (s : StatementTree) (o : Option StatementTree) → LowStatement max_height (if_tree p e s o)
        → LowStatement (max_height - 1) s
    low_first p e s None f = omega (arith, f)
    low_first p e s (Some t) f = omega (arith, f)

    abbrev Branches : Tree × (StatementTree × Option StatementTree) → Phrase
    Branches = Both parenthesised (λ e. Both (IsStatement in_loop) (λ s. ElseTail s))

    then_nothing : {P : Phrase} (s : List Token) → (P then nothing) s → P s
    then_nothing {P = P} s v = subst P (sym (v.2 ∙ ap (λ l. v.0 ++ l) v.4 ∙ append-nil v.0)) v.3

    and_nothing : {P : Phrase} (s : List Token) → P s → (P then nothing) s
    and_nothing s v = (s, [], sym (append-nil s), v, refl)

    if_case : (p : Span) (e : Tree) (b : StatementTree) (o : Option StatementTree) (s : List Token)
        → (sign_at p signs.If then (parenthesised e then (IsStatement in_loop b then ElseTail b o))) s → IsStatement in_loop (if_tree p e b o) s
    unfolding ElseTail
    if_case p e b None s v =
        let u = v.4 in
        (v.0, v.1, v.2, v.3, (u.0, u.1, u.2, u.3, then_nothing {P = IsStatement in_loop b} u.1 u.4))
    if_case p e b (Some t) s v =
        let u = v.4 in
        let w = u.4 in
        (w.4.0, (v.0, v.1, v.2, v.3, (u.0, u.1, u.2, u.3, (w.0, w.1, w.2, w.3, w.4.1))))

    if_up : (p : Span) (b : Tree × (StatementTree × Option StatementTree)) (s : List Token) → (sign_at p signs.If then Branches b) s
        → IsStatement in_loop (if_tree p b.0 b.1.0 b.1.1) s
    if_up p b s v = if_case p b.0 b.1.0 b.1.1 s v

    if_down : (c : StatementTree) (s : List Token) → family_of c ≡ 2 → IsStatement in_loop c s
        → (p : Span) × (b : Tree × (StatementTree × Option StatementTree)) × (c ≡ if_tree p b.0 b.1.0 b.1.1) × (sign_at p signs.If then Branches b) s
    unfolding ElseTail
    if_down (branch p e b) s f v =
        (p, (e, (b, None)), refl, (v.0, v.1, v.2, v.3, (v.4.0, v.4.1, v.4.2, v.4.3, and_nothing {P = IsStatement in_loop b} v.4.1 v.4.4)))
    if_down (choice p e b t) s f v =
        let w = v.1 in
        let u = w.4 in
        let r = u.4 in
        (p, (e, (b, Some t)), refl, (w.0, w.1, w.2, w.3, (u.0, u.1, u.2, u.3, (r.0, r.1, r.2, r.3, (v.0, r.4)))))
    if_down c s f v = absurd (omega (arith, f))

    pub if_reads : (greedy : (w r : List Token) (s : StatementTree) → IsEnded w → IsEnded r → inner w ≡ Ok (s, r) → Stops (Follow s) r)
        → (x : Token) (m : List Token) → x.kind ≡ kinds.Sign signs.If → family (leader_of in_loop x) ≡ 2 → IsEnded (x ∷ m)
        → Reads (IsStatement in_loop) (LowStatement max_height) Follow (x ∷ m) (if_step (max_height - 1) inner x.place m)
    unfolding if_step ElseTail
    if_reads greedy x m k fam en =
        keyword_reads in_loop max_height signs.If 2 Branches (λ p b. if_tree p b.0 b.1.0 b.1.1) Follow refl if_up if_down follow_same
        (λ p. (
          (leaf, (empty origin, None)),
          parens ++ lone signs.Semicolon,
          (parens, lone signs.Semicolon, refl, are_parens, (lone signs.Semicolon, [], refl, refl, refl)),
          omega (arith, two),
        ))
        x m _ k fam en (λ en2.
        seq parenthesised (Low (max_height - 1)) Any (λ e. Both (IsStatement in_loop) (λ s. ElseTail s)) (λ e v. if_tree x.place e v.0 v.1)
        (LowStatement max_height) Follow
        (λ e v t u f. low_test x.place e v.0 v.1 f)
        (λ e v t m u st. any_stops (Follow (if_tree x.place e v.0 v.1)) t m st)
        (λ e s u. ((empty origin, None), lone signs.Semicolon, (lone signs.Semicolon, [], refl, refl, refl), λ f. omega (arith, f, two)))
        m (steps.parenthesised (max_height - 1) m) _ (parenthesised_reads (max_height - 1) (omega (arith, two)) m en2) (λ e r is g.
        let low = g.fits in
        let en3 = good_ended g en2 in
        seq (IsStatement in_loop) (LowStatement (max_height - 1)) Follow (λ s. ElseTail s) (λ s o. if_tree x.place e s o) (LowStatement max_height) Follow
        (λ s o t u f. low_first x.place e s o f)
        (λ s o t m u st. tail_first x.place e s o t m u st)
        (λ s t u. (None, [], refl, λ f. omega (arith, f, low, two)))
        r (inner r) _ (reads_inner r en3) (λ s r2 is2 g2.
        let en4 = good_ended g2 en3 in
        else_reads x.place e low s g2.fits r2 en4 (greedy r r2 s en3 en4 is2))))
