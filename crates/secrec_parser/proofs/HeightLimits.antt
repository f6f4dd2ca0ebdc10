-- Readings of all statements of a height, from those of a smaller one.
use Rattle.std.proofs.Common.{◌≡◌, ℕ, zero, suc, ◌-◌, ◌<◌, ◌≤◌, List, [], ◌∷◌, refl, sym, ap, ◌∙◌, subst, Ok, Err, Bool, true, false, cond, Some, arith}
use Rattle.std.specs.Prelude.{nat_lt}
use Rattle.std.proofs.lemmas.Bool.{ltb-true, ltb-false}
use Rattle.sc_text.specs.declared.span.Span.{Span}
use Rattle.secrec_lexer.specs.declared.sign.Sign.{Sign}
use Rattle.secrec_lexer.specs.declared.sign.Sign.TheVariants as signs
use Rattle.secrec_lexer.specs.declared.token.TokenKind.TheVariants as kinds
use Rattle.secrec_lexer.specs.declared.token.Token.{Token}
use Rattle.secrec_lexer.specs.Tokens.{is_sign, IsEnded}
use Rattle.program_trees.specs.Tree.{Tree}
use Rattle.program_trees.specs.Statements.{StatementTree, branch, choice, while_loop, for_loop}
use Rattle.expression_parser.specs.declared.problem.ParseProblem.TheVariants.{Unexpected, TooHigh}
use Rattle.expression_parser.specs.Phrases.{Phrase}
use Rattle.expression_parser.specs.Steps.{Outcome, ◌>>=◌, expect}
use Rattle.expression_parser.proofs.Reading.{Good, Bad, Reads, Stops}
use Rattle.expression_parser.proofs.Tokens.{Any, good_ended, after_kind, is_sign-true, is_sign-false}
use Rattle.expression_parser.proofs.Nodes.{Low}
use Rattle.secrec_parser.specs.declared.leader.Leader.{Leader}
use Rattle.secrec_parser.specs.declared.leader.Leader.TheVariants as leaders
use Rattle.secrec_parser.specs.Grammar.{parenthesised, IsStatement, Closed}
use Rattle.secrec_parser.specs.inner.Steps.{Inner, leader_of, least, else_step, if_step, while_step, for_step, led, statement_by, statement_step}
use Rattle.secrec_parser.specs.inner.Steps.{statement_at_most}
use Rattle.secrec_parser.specs.inner.Steps as steps
use Rattle.secrec_parser.proofs.Clashes.{false_true, no_break, no_continue}
use Rattle.secrec_parser.proofs.Heads.{too_high}
use Rattle.secrec_parser.proofs.Declarations.{parenthesised_reads}
use Rattle.secrec_parser.proofs.Headings.{IsHeading, LowHeading, heading_reads}
use Rattle.secrec_parser.proofs.Leaders.{family, family_of, family_is, least_high, keyword, leads, leads_inside}
use Rattle.secrec_parser.proofs.Starts.{sample, name_kind}
use Rattle.secrec_parser.proofs.Statements.{LowStatement, Follow, break_reads, continue_reads, empty_reads, return_reads, assert_reads, if_reads}
use Rattle.secrec_parser.proofs.Bodies.{while_reads, do_reads, for_reads, block_reads}
use Rattle.secrec_parser.proofs.Named.{typed_reads, expression_reads, named_reads}

-- a statement is read to an `else` only where no `if` waits for it
abbrev pub Greedy : Outcome StatementTree → Type 0
Greedy o = (c : StatementTree) (r : List Token) → IsEnded r → o ≡ Ok (c, r) → Stops (Follow c) r

value_of : StatementTree → Outcome StatementTree → StatementTree
value_of d (Ok o) = o.0
value_of d (Err e) = d

rest_of : Outcome StatementTree → List Token
rest_of (Ok o) = o.1
rest_of (Err e) = e.1

abbrev pub read : StatementTree → List Token → Outcome StatementTree
read c r = Ok (c, r)

same_value : (a b : StatementTree) (r s : List Token) → read a r ≡ read b s → (a ≡ b) × (r ≡ s)
unfolding value_of rest_of
same_value a b r s e = (ap (value_of a) e, ap rest_of e)

greedy_bind : {A : Type 0} (o : Outcome A) (k : A × List Token → Outcome StatementTree)
    → ((a : A) (r : List Token) → o ≡ Ok (a, r) → Greedy (k (a, r))) → Greedy (o >>= k)
greedy_bind (Ok o) k go = go o.0 o.1 refl
greedy_bind (Err e) k go = λ c r en (f : Err e ≡ Ok (c, r)). cc

greedy_made : (o : Outcome StatementTree) (f : StatementTree → StatementTree) → ((s : StatementTree) → Closed s → Closed (f s)) → Greedy o
    → Greedy (o >>= λ s. Ok (f s.0, s.1))
greedy_made (Err e) f up g = λ c r en (q : Err e ≡ Ok (c, r)). cc
greedy_made (Ok o) f up g = λ c r en q.
    let e = same_value (f o.0) c o.1 r q in
    subst (λ z. Stops (Follow z) r) e.0 (subst (Stops (Follow (f o.0))) e.1 (closed o.1 (g o.0 o.1 (subst IsEnded (sym e.1) en) refl)))
  where
    closed : (m : List Token) → Stops (Follow o.0) m → Stops (Follow (f o.0)) m
    closed [] st = st
    closed (y ∷ m) st = λ k. up o.0 (st k)

-- statements that no `else` can follow wrongly
trivial : (c : StatementTree) → (family_of c ≡ 2 → ⊥) → (family_of c ≡ 3 → ⊥) → (family_of c ≡ 5 → ⊥) → Closed c
trivial (branch p e s) i w f = absurd (i refl)
trivial (choice p e s t) i w f = absurd (i refl)
trivial (while_loop p e s) i w f = absurd (w refl)
trivial (for_loop p a e b s) i w f = absurd (f refl)
trivial c i w f = tt

all_closed : (c : StatementTree) (r : List Token) → IsEnded r → Closed c → Stops (Follow c) r
all_closed c [] en k = cc
all_closed c (y ∷ r) en k = λ e. k

module _ (max_height : ℕ) (in_loop : Bool) (x : Token) (m : List Token) (en : IsEnded (x ∷ m)) (o : Outcome StatementTree)
    (reads : Reads (IsStatement in_loop) (LowStatement max_height) Follow (x ∷ m) o) where
  -- the family of what was read
  read_family : (c : StatementTree) (r : List Token) → o ≡ Ok (c, r) → family (leader_of in_loop x) ≡ family_of c
  read_family c r e =
      let g : Good (IsStatement in_loop) (LowStatement max_height) Follow (x ∷ m) c r =
      subst (Reads (IsStatement in_loop) (LowStatement max_height) Follow (x ∷ m)) e reads in
      family_is in_loop c g.s r m x g.here (sym g.split)

  pub trivial_greedy : (n : ℕ) → family (leader_of in_loop x) ≡ n → (n ≡ 2 → ⊥) → (n ≡ 3 → ⊥) → (n ≡ 5 → ⊥) → Greedy o
  trivial_greedy n f i w t c r enr e =
      let g = sym (read_family c r e) ∙ f in
      all_closed c r enr (trivial c (λ k. i (sym g ∙ k)) (λ k. w (sym g ∙ k)) (λ k. t (sym g ∙ k)))

span_rest : Outcome Span → List Token
span_rest (Ok o) = o.1
span_rest (Err e) = e.1

else_greedy : (inner : Inner) (p : Span) (e : Tree) (s : StatementTree) (w : List Token) → ((w : List Token) → IsEnded w → Greedy (inner w))
    → IsEnded w → Greedy (else_step inner p e s w)
unfolding span_rest
else_greedy inner p e s [] gi en = cc
else_greedy inner p e s (x ∷ m) gi en = go (is_sign signs.Else x) refl
  where
    go : (b : Bool) → is_sign signs.Else x ≡ b
        → Greedy (cond b (expect signs.Else (x ∷ m) >>= λ a. inner a.1 >>= λ t. Ok (choice p e s t.0, t.1)) (Ok (branch p e s, x ∷ m)))
    go true t =
        greedy_bind (expect signs.Else (x ∷ m)) (λ a. inner a.1 >>= λ t. Ok (choice p e s t.0, t.1)) (λ a r f.
        greedy_made (inner r) (λ t. choice p e s t) (λ t c. c) (gi r (behind a r f)))
      where
        behind : (a : Span) (r : List Token) → expect signs.Else (x ∷ m) ≡ Ok (a, r) → IsEnded r
        behind a r f =
            let g : Ok (x.place, m) ≡ Ok (a, r) = sym (ap (λ b. cond b (Ok (x.place, m)) (Err (Unexpected, x ∷ m))) t) ∙ f in
            let h : m ≡ r = ap (λ o. span_rest o) g in
            subst IsEnded h (after_kind x m (kinds.Sign signs.Else) en (is_sign-true signs.Else x t) refl)
    go false t = λ c r enr f.
        let e2 = same_value (branch p e s) c (x ∷ m) r f in
        subst (λ z. Stops (Follow z) r) e2.0 (subst (Stops (Follow (branch p e s))) e2.1 (λ k. absurd (is_sign-false signs.Else x t k)))

module _ (max_height : ℕ) (lower : Bool → Inner)
    (reads_lower : 1 ≤ max_height → (in_loop : Bool) (w : List Token) → IsEnded w
    → Reads (IsStatement in_loop) (LowStatement (max_height - 1)) Follow w (lower in_loop w))
    (greedy_lower : 1 ≤ max_height → (in_loop : Bool) (w : List Token) → IsEnded w → Greedy (lower in_loop w))
    (in_loop : Bool) (x : Token) (m : List Token) (en : IsEnded (x ∷ m))
  where
    by_reads : (l : Leader) → leader_of in_loop x ≡ l → least l ≤ max_height
        → Reads (IsStatement in_loop) (LowStatement max_height) Follow (x ∷ m) (statement_by l max_height lower in_loop x m)
    unfolding led
    by_reads leaders.Block e low =
        block_reads max_height low in_loop (lower in_loop) (reads_lower low in_loop) x m (leads in_loop x leaders.Block signs.LeftBrace e refl) (ap family e) en
    by_reads leaders.Empty e low = empty_reads in_loop max_height low x m (leads in_loop x leaders.Empty signs.Semicolon e refl) (ap family e) en
    by_reads leaders.If e low =
        if_reads max_height low in_loop (lower in_loop) (reads_lower (omega (arith, low)) in_loop)
        (λ w r s enw enr f. greedy_lower (omega (arith, low)) in_loop w enw s r enr f) x m (leads in_loop x leaders.If signs.If e refl) (ap family e) en
    by_reads leaders.While e low =
        while_reads max_height low in_loop (lower true) (reads_lower (omega (arith, low)) true) x m (leads in_loop x leaders.While signs.While e refl)
        (ap family e) en
    by_reads leaders.DoWhile e low =
        do_reads max_height low in_loop (lower true) (reads_lower (omega (arith, low)) true) x m (leads in_loop x leaders.DoWhile signs.Do e refl)
        (ap family e) en
    by_reads leaders.For e low =
        for_reads max_height low in_loop (lower true) (reads_lower (omega (arith, low)) true) x m (leads in_loop x leaders.For signs.For e refl)
        (ap family e) en
    by_reads leaders.Break e low =
        let k = leads in_loop x leaders.Break signs.Break e refl in
        break_reads in_loop max_height low x m k (leads_inside in_loop x signs.Break leaders.Break k e no_break) (ap family e) en
    by_reads leaders.Continue e low =
        let k = leads in_loop x leaders.Continue signs.Continue e refl in
        continue_reads in_loop max_height low x m k (leads_inside in_loop x signs.Continue leaders.Continue k e no_continue) (ap family e) en
    by_reads leaders.Return e low = return_reads in_loop max_height low x m (leads in_loop x leaders.Return signs.Return e refl) (ap family e) en
    by_reads leaders.Assert e low = assert_reads in_loop max_height low x m (leads in_loop x leaders.Assert signs.Assert e refl) (ap family e) en
    by_reads leaders.Declaration e low = typed_reads max_height low in_loop x m e en
    by_reads leaders.Name e low = behind m en
      where
        behind : (m : List Token) → IsEnded (x ∷ m)
            → Reads (IsStatement in_loop) (LowStatement max_height) Follow (x ∷ m) (steps.name_statement max_height (x ∷ m) m)
        behind [] en = let k = name_kind in_loop x.kind x.place e in let f = after_kind x [] (kinds.Name k.0) en k.1 refl in absurd (false_true f)
        behind (y ∷ n) en = let k = name_kind in_loop x.kind x.place e in named_reads in_loop x y n k.0 k.1 (ap family e) en max_height low
    by_reads leaders.Expression e low = expression_reads max_height in_loop x m e en

    high_reads : (l : Leader) → leader_of in_loop x ≡ l → max_height < least l → (l ≡ leaders.Expression → ⊥)
        → Bad (IsStatement in_loop) (LowStatement max_height) Follow (x ∷ m) TooHigh (x ∷ m)
    high_reads l e high other =
        too_high (IsStatement in_loop) (LowStatement max_height) Follow x m
        (λ c s m' m2 v f st eq. let h = least_high in_loop c s m' m2 x v eq in let g = ap least e in omega (arith, f, h, g, high))
        (sample in_loop x l e other)

    no_expression : (l : Leader) → max_height < least l → l ≡ leaders.Expression → ⊥
    no_expression l high e = let f = ap least e in omega (arith, f, high)

    head_reads : Reads (IsStatement in_loop) (LowStatement max_height) Follow (x ∷ m)
        (cond (nat_lt max_height (least (leader_of in_loop x))) (Err (TooHigh, x ∷ m)) (statement_by (leader_of in_loop x) max_height lower in_loop x m))
    head_reads = go (nat_lt max_height (least (leader_of in_loop x))) refl
      where
        go : (b : Bool) → nat_lt max_height (least (leader_of in_loop x)) ≡ b
            → Reads (IsStatement in_loop) (LowStatement max_height) Follow (x ∷ m)
            (cond b (Err (TooHigh, x ∷ m)) (statement_by (leader_of in_loop x) max_height lower in_loop x m))
        go true t = let high = ltb-true max_height (least (leader_of in_loop x)) t in
            high_reads (leader_of in_loop x) refl high (no_expression (leader_of in_loop x) high)
        go false t = by_reads (leader_of in_loop x) refl (ltb-false max_height (least (leader_of in_loop x)) t)

    keeps_end : {A : Type 0} (W : A → Phrase) (Fits : A → Type 0) (F : A → Token → Type 0) (w : List Token) (o : Outcome A) → Reads W Fits F w o
        → IsEnded w → (a : A) (r : List Token) → o ≡ Ok (a, r) → IsEnded r
    keeps_end W Fits F w o reads enw a r e = good_ended {W = W} {Fits = Fits} {F = F} (subst (Reads W Fits F w) e reads) enw

    behind_first : (l : Leader) (s : Sign) → leader_of in_loop x ≡ l → keyword l ≡ Some s → IsEnded m
    behind_first l s e f = let k = leads in_loop x l s e f in after_kind x m (kinds.Sign s) en k refl

    test_ended : 2 ≤ max_height → IsEnded m → (a : Tree) (r : List Token) → steps.parenthesised (max_height - 1) m ≡ Ok (a, r) → IsEnded r
    test_ended two enm a r e = keeps_end parenthesised (Low (max_height - 1)) Any m (steps.parenthesised (max_height - 1) m)
        (parenthesised_reads (max_height - 1) (omega (arith, two)) m enm) enm a r e

    if_greedy : 2 ≤ max_height → IsEnded m → Greedy (if_step (max_height - 1) (lower in_loop) x.place m)
    unfolding if_step
    if_greedy two enm =
        greedy_bind (steps.parenthesised (max_height - 1) m) (λ e. lower in_loop e.1 >>= λ s. else_step (lower in_loop) x.place e.0 s.0 s.1) (λ a r f.
        greedy_bind (lower in_loop r) (λ s. else_step (lower in_loop) x.place a s.0 s.1) (λ s r2 f2.
        let enr = test_ended two enm a r f in
        else_greedy (lower in_loop) x.place a s r2 (greedy_lower (omega (arith, two)) in_loop)
        (keeps_end (IsStatement in_loop) (LowStatement (max_height - 1)) Follow r (lower in_loop r)
        (reads_lower (omega (arith, two)) in_loop r enr) enr s r2 f2)))

    while_greedy : 2 ≤ max_height → IsEnded m → Greedy (while_step (max_height - 1) (lower true) x.place m)
    unfolding while_step
    while_greedy two enm =
        greedy_bind (steps.parenthesised (max_height - 1) m) (λ e. lower true e.1 >>= λ s. Ok (while_loop x.place e.0 s.0, s.1)) (λ a r f.
        greedy_made (lower true r) (λ s. while_loop x.place a s) (λ s c. c) (greedy_lower (omega (arith, two)) true r (test_ended two enm a r f)))

    for_greedy : 2 ≤ max_height → IsEnded m → Greedy (for_step (max_height - 1) (lower true) x.place m)
    unfolding for_step
    for_greedy two enm =
        greedy_bind (steps.heading (max_height - 1) m) (λ f. lower true f.1 >>= λ s. Ok (for_loop x.place f.0.0 f.0.1 f.0.2 s.0, s.1)) (λ a r f.
        greedy_made (lower true r) (λ s. for_loop x.place a.0 a.1 a.2 s) (λ s c. c) (greedy_lower (omega (arith, two)) true r
        (keeps_end IsHeading (LowHeading (max_height - 1)) Any m (steps.heading (max_height - 1) m)
        (heading_reads (max_height - 1) (omega (arith, two)) m enm) enm a r f)))

    plain_greedy : (l : Leader) → leader_of in_loop x ≡ l → least l ≤ max_height → (family l ≡ 2 → ⊥) → (family l ≡ 3 → ⊥) → (family l ≡ 5 → ⊥)
        → Greedy (statement_by l max_height lower in_loop x m)
    plain_greedy l e low i w f =
        trivial_greedy max_height in_loop x m en (statement_by l max_height lower in_loop x m) (by_reads l e low) (family l) (ap family e) i w f

    by_greedy : (l : Leader) → leader_of in_loop x ≡ l → least l ≤ max_height → Greedy (statement_by l max_height lower in_loop x m)
    unfolding led
    by_greedy leaders.If e low = if_greedy low (behind_first leaders.If signs.If e refl)
    by_greedy leaders.While e low = while_greedy low (behind_first leaders.While signs.While e refl)
    by_greedy leaders.For e low = for_greedy low (behind_first leaders.For signs.For e refl)
    by_greedy leaders.Block e low = plain_greedy leaders.Block e low (λ f. omega (arith, f)) (λ f. omega (arith, f)) (λ f. omega (arith, f))
    by_greedy leaders.Empty e low = plain_greedy leaders.Empty e low (λ f. omega (arith, f)) (λ f. omega (arith, f)) (λ f. omega (arith, f))
    by_greedy leaders.DoWhile e low = plain_greedy leaders.DoWhile e low (λ f. omega (arith, f)) (λ f. omega (arith, f)) (λ f. omega (arith, f))
    by_greedy leaders.Break e low = plain_greedy leaders.Break e low (λ f. omega (arith, f)) (λ f. omega (arith, f)) (λ f. omega (arith, f))
    by_greedy leaders.Continue e low = plain_greedy leaders.Continue e low (λ f. omega (arith, f)) (λ f. omega (arith, f)) (λ f. omega (arith, f))
    by_greedy leaders.Return e low = plain_greedy leaders.Return e low (λ f. omega (arith, f)) (λ f. omega (arith, f)) (λ f. omega (arith, f))
    by_greedy leaders.Assert e low = plain_greedy leaders.Assert e low (λ f. omega (arith, f)) (λ f. omega (arith, f)) (λ f. omega (arith, f))
    by_greedy leaders.Declaration e low = plain_greedy leaders.Declaration e low (λ f. omega (arith, f)) (λ f. omega (arith, f)) (λ f. omega (arith, f))
    by_greedy leaders.Name e low = plain_greedy leaders.Name e low (λ f. omega (arith, f)) (λ f. omega (arith, f)) (λ f. omega (arith, f))
    by_greedy leaders.Expression e low = plain_greedy leaders.Expression e low (λ f. omega (arith, f)) (λ f. omega (arith, f)) (λ f. omega (arith, f))

    head_greedy : Greedy (cond (nat_lt max_height (least (leader_of in_loop x))) (Err (TooHigh, x ∷ m))
        (statement_by (leader_of in_loop x) max_height lower in_loop x m))
    head_greedy = go (nat_lt max_height (least (leader_of in_loop x))) refl
      where
        go : (b : Bool) → nat_lt max_height (least (leader_of in_loop x)) ≡ b
            → Greedy (cond b (Err (TooHigh, x ∷ m)) (statement_by (leader_of in_loop x) max_height lower in_loop x m))
        go true t = λ c r enr (f : Err (TooHigh, x ∷ m) ≡ Ok (c, r)). cc
        go false t = by_greedy (leader_of in_loop x) refl (ltb-false max_height (least (leader_of in_loop x)) t)

    pub head_both : Reads (IsStatement in_loop) (LowStatement max_height) Follow (x ∷ m) (statement_step max_height lower in_loop (x ∷ m))
        × Greedy (statement_step max_height lower in_loop (x ∷ m))
    unfolding statement_step
    head_both = (head_reads, head_greedy)

statement_both : (max_height : ℕ) (in_loop : Bool) (w : List Token) → IsEnded w
    → Reads (IsStatement in_loop) (LowStatement max_height) Follow w (statement_at_most max_height in_loop w) × Greedy (statement_at_most max_height in_loop w)
unfolding statement_at_most
statement_both max_height in_loop [] en = cc
statement_both zero in_loop (x ∷ m) en =
    head_both zero (λ i m. Err (TooHigh, m)) (λ one. absurd (omega (arith, one))) (λ one. absurd (omega (arith, one))) in_loop x m en
statement_both (suc h) in_loop (x ∷ m) en =
    let d : h ≡ suc h - 1 = omega arith in
    head_both (suc h) (statement_at_most h)
    (λ one i w enw. subst (λ n. Reads (IsStatement i) (LowStatement n) Follow w (statement_at_most h i w)) d (statement_both h i w enw).0)
    (λ one i w enw. (statement_both h i w enw).1) in_loop x m en

-- a statement of at most this height is read as the grammar spells it
pub statement_reads : (max_height : ℕ) (in_loop : Bool) (w : List Token) → IsEnded w
    → Reads (IsStatement in_loop) (LowStatement max_height) Follow w (statement_at_most max_height in_loop w)
statement_reads max_height in_loop w en = (statement_both max_height in_loop w en).0
