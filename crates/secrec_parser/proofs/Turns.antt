-- The steps, as the code comes to them.
use Rattle.std.proofs.Common.{Bor, ◌≡◌, subst, ℕ, zero, suc, ◌-◌, ◌<◌, ◌≤◌, Bool, true, false, cond, Option, Some, None, List, [], ◌∷◌, ◌++◌, refl}
use Rattle.std.proofs.Common.{sym, ap, ◌∙◌, Result, Ok, Err, length, arith}
use Rattle.std.specs.Prelude.{◌&&◌, not, nat_lt, IfOk}
use Rattle.std.proofs.lemmas.Bool.{ltb-false, lt-ltb, le-ltb}
use Rattle.secrec_lexer.specs.declared.token.Token.{Token}
use Rattle.sc_text.specs.declared.span.Span.{Span}
use Rattle.secrec_lexer.specs.declared.sign.Sign.TheVariants as signs
use Rattle.program_trees.specs.declared.function.DomainVariable.{DomainVariable}
use Rattle.program_trees.specs.Tree.{Tree}
use Rattle.program_trees.specs.Statements.{TargetTree, StatementTree, branch, choice}
use Rattle.program_trees.specs.Heights.{target_height}
use Rattle.expression_parser.specs.declared.stopped.Stopped.{Stopped}
use Rattle.expression_parser.specs.declared.stopped.Stopped.TheVariants.{Memory, At}
use Rattle.expression_parser.specs.Given.{Gives, Closed}
use Rattle.expression_parser.specs.declared.problem.ParseProblem.{ParseProblem}
use Rattle.expression_parser.specs.declared.problem.ParseProblem.TheVariants.{Unexpected, TooHigh}
use Rattle.secrec_parser.specs.declared.assignment.Update.{Update}
use Rattle.secrec_parser.specs.declared.leader.Leader.{Leader}
use Rattle.secrec_parser.specs.declared.leader.Leader.TheVariants as leaders
use Rattle.expression_parser.specs.Steps.{Outcome, ◌>>=◌, expect}
use Rattle.secrec_parser.specs.inner.Given.{Takes}
use Rattle.secrec_parser.specs.inner.Steps.{list_from, at_sign, update_of, least_height, value_by, assigned_by, assigned, comma_then}
use Rattle.secrec_parser.specs.inner.Steps.{no_more_variables, leader_of, least, Inner, led, declaration_statement, name_statement, action_statement}
use Rattle.secrec_parser.specs.inner.Steps.{else_step, if_step, parenthesised, short, statement_by, statement_step, statement_at_most}

module _ {A : Type 0} (stop : List A → List Token → Bool) (inner : List Token → Outcome A) where
  pub list_stops : (n : ℕ) (found : List A) (w : List Token) → stop found w ≡ true → list_from stop inner n found w ≡ Ok (found, w)
  unfolding list_from
  list_stops zero found w e = refl
  list_stops (suc n) found w e =
      ap (λ b. cond b (Ok (found, w)) (inner w >>= λ a. list_from stop inner n (found ++ a.0 ∷ []) a.1)) e

  pub list_goes_on : (n : ℕ) (found : List A) (w r : List Token) (a : A) → 0 < n → stop found w ≡ false → inner w ≡ Ok (a, r)
      → list_from stop inner n found w ≡ list_from stop inner (n - 1) (found ++ a ∷ []) r
  unfolding list_from
  list_goes_on zero found w r a h e f = absurd (omega arith)
  list_goes_on (suc n) found w r a h e f =
      let d : n ≡ suc n - 1 = omega arith in
      ap (λ b. cond b (Ok (found, w)) (inner w >>= λ a. list_from stop inner n (found ++ a.0 ∷ []) a.1)) e
      ∙ ap (λ o. o >>= λ a. list_from stop inner n (found ++ a.0 ∷ []) a.1) f
      ∙ ap (λ m. list_from stop inner m (found ++ a ∷ []) r) d

  pub list_fails : (n : ℕ) (found : List A) (w r : List Token) (p : ParseProblem) → 0 < n → stop found w ≡ false → inner w ≡ Err (p, r)
      → list_from stop inner n found w ≡ Err (p, r)
  unfolding list_from
  list_fails zero found w r p h e f = absurd (omega arith)
  list_fails (suc n) found w r p h e f =
      ap (λ b. cond b (Ok (found, w)) (inner w >>= λ a. list_from stop inner n (found ++ a.0 ∷ []) a.1)) e
      ∙ ap (λ o. o >>= λ a. list_from stop inner n (found ++ a.0 ∷ []) a.1) f

-- a statement that holds none is read without what reads the statements in it
lower_unused : (l : Leader) (max_height : ℕ) (f g : Bool → Inner) (in_loop : Bool) (x : Token) (m : List Token) → least l ≤ 0
    → statement_by l max_height f in_loop x m ≡ statement_by l max_height g in_loop x m
lower_unused leaders.Expression max_height f g in_loop x m h = refl
lower_unused leaders.Block max_height f g in_loop x m h = absurd (omega arith)
lower_unused leaders.Empty max_height f g in_loop x m h = absurd (omega arith)
lower_unused leaders.If max_height f g in_loop x m h = absurd (omega arith)
lower_unused leaders.While max_height f g in_loop x m h = absurd (omega arith)
lower_unused leaders.DoWhile max_height f g in_loop x m h = absurd (omega arith)
lower_unused leaders.For max_height f g in_loop x m h = absurd (omega arith)
lower_unused leaders.Break max_height f g in_loop x m h = absurd (omega arith)
lower_unused leaders.Continue max_height f g in_loop x m h = absurd (omega arith)
lower_unused leaders.Return max_height f g in_loop x m h = absurd (omega arith)
lower_unused leaders.Assert max_height f g in_loop x m h = absurd (omega arith)
lower_unused leaders.Declaration max_height f g in_loop x m h = absurd (omega arith)
lower_unused leaders.Name max_height f g in_loop x m h = absurd (omega arith)

-- a statement that holds none of its height
statement_here : (max_height : ℕ) (in_loop : Bool) (x : Token) (m : List Token)
    → statement_at_most max_height in_loop (x ∷ m)
    ≡ cond (nat_lt max_height (least (leader_of in_loop x))) (Err (TooHigh, x ∷ m))
    (statement_by (leader_of in_loop x) max_height (statement_at_most (max_height - 1)) in_loop x m)
unfolding statement_at_most statement_step
statement_here zero in_loop x m = go (nat_lt zero (least (leader_of in_loop x))) refl
  where
    go : (b : Bool) → nat_lt zero (least (leader_of in_loop x)) ≡ b
        → cond b (Err (TooHigh, x ∷ m)) (statement_by (leader_of in_loop x) zero (λ i m. Err (TooHigh, m)) in_loop x m)
        ≡ cond b (Err (TooHigh, x ∷ m)) (statement_by (leader_of in_loop x) zero (statement_at_most (zero - 1)) in_loop x m)
    go true e = refl
    go false e = lower_unused (leader_of in_loop x) zero (λ i m. Err (TooHigh, m)) (statement_at_most (zero - 1)) in_loop x m
        (ltb-false zero (least (leader_of in_loop x)) e)
statement_here (suc h) in_loop x m =
    let d : h ≡ suc h - 1 = omega arith in
    ap (λ n. cond (nat_lt (suc h) (least (leader_of in_loop x))) (Err (TooHigh, x ∷ m))
    (statement_by (leader_of in_loop x) (suc h) (statement_at_most n) in_loop x m)) d

pub statement_none : (max_height : ℕ) (in_loop : Bool) (w : List Token) → length w ≡ 0 → statement_at_most max_height in_loop w ≡ Err (Unexpected, w)
unfolding statement_at_most statement_step
statement_none zero in_loop [] e = refl
statement_none (suc h) in_loop [] e = refl
statement_none max_height in_loop (x ∷ m) e = absurd (omega (arith, e))

-- where l is what leads the tokens, and n its least height
module _ (max_height : ℕ) (in_loop : Bool) (w : List Token) (x : Token) (m : List Token) (l : Leader) (n : ℕ) (front : w ≡ x ∷ m)
    (led_by : l ≡ leader_of in_loop x) (least_is : n ≡ least l) where
  pub statement_high : max_height < n → statement_at_most max_height in_loop w ≡ Err (TooHigh, w)
  statement_high lt =
      let f = ap least led_by in
      ap (statement_at_most max_height in_loop) front ∙ statement_here max_height in_loop x m
      ∙ ap (λ b. cond b (Err (TooHigh, x ∷ m)) (statement_by (leader_of in_loop x) max_height (statement_at_most (max_height - 1)) in_loop x m))
      (lt-ltb max_height (least (leader_of in_loop x)) (omega (arith, f, least_is, lt)))
      ∙ ap (λ v. Err (TooHigh, v)) (sym front)

  pub statement_leads : n ≤ max_height → statement_at_most max_height in_loop w ≡ statement_by l max_height (statement_at_most (max_height - 1)) in_loop x m
  statement_leads le =
      let f = ap least led_by in
      ap (statement_at_most max_height in_loop) front ∙ statement_here max_height in_loop x m
      ∙ ap (λ b. cond b (Err (TooHigh, x ∷ m)) (statement_by (leader_of in_loop x) max_height (statement_at_most (max_height - 1)) in_loop x m))
      (le-ltb max_height (least (leader_of in_loop x)) (omega (arith, f, least_is, le)))
      ∙ ap (λ l. statement_by l max_height (statement_at_most (max_height - 1)) in_loop x m) (sym led_by)

  pub statement_declares : n ≤ max_height → l ≡ leaders.Declaration → statement_at_most max_height in_loop w ≡ declaration_statement (max_height - 1) w
  statement_declares le is = statement_leads le ∙ ap (λ l. statement_by l max_height (statement_at_most (max_height - 1)) in_loop x m) is
      ∙ ap (declaration_statement (max_height - 1)) (sym front)

  pub statement_names : n ≤ max_height → l ≡ leaders.Name → statement_at_most max_height in_loop w ≡ name_statement max_height w m
  statement_names le is = statement_leads le ∙ ap (λ l. statement_by l max_height (statement_at_most (max_height - 1)) in_loop x m) is
      ∙ ap (λ v. name_statement max_height v m) (sym front)

  pub statement_evaluates : n ≤ max_height → l ≡ leaders.Expression → statement_at_most max_height in_loop w ≡ action_statement max_height w
  statement_evaluates le is = statement_leads le ∙ ap (λ l. statement_by l max_height (statement_at_most (max_height - 1)) in_loop x m) is
      ∙ ap (action_statement max_height) (sym front)

  pub statement_led : n ≤ max_height → (l ≡ leaders.Declaration → ⊥) → (l ≡ leaders.Name → ⊥) → (l ≡ leaders.Expression → ⊥)
      → statement_at_most max_height in_loop w ≡ led l max_height (statement_at_most (max_height - 1)) in_loop x.place m
  statement_led le d k e = statement_leads le ∙ other l d k e
    where
      other : (l : Leader) → (l ≡ leaders.Declaration → ⊥) → (l ≡ leaders.Name → ⊥) → (l ≡ leaders.Expression → ⊥)
          → statement_by l max_height (statement_at_most (max_height - 1)) in_loop x m ≡ led l max_height (statement_at_most (max_height - 1)) in_loop x.place m
      other leaders.Declaration d k e = absurd (d refl)
      other leaders.Name d k e = absurd (k refl)
      other leaders.Expression d k e = absurd (e refl)
      other l d k e = refl

-- what a target gets, by what the first token does
module _ (max_height : ℕ) (t : TargetTree) (w : List Token) (x : Token) (m : List Token) (front : w ≡ x ∷ m) where
  assigned_is : (o : Option Update) → update_of x ≡ o → assigned max_height t w ≡ assigned_by max_height t o x m
  assigned_is o does = ap (assigned max_height t) front ∙ ap (λ o. assigned_by max_height t o x m) does

  pub assigned_none : update_of x ≡ None → assigned max_height t w ≡ Err (Unexpected, w)
  assigned_none does = assigned_is None does ∙ ap (λ v. Err (Unexpected, v)) (sym front)

  module _ (u : Update) (does : update_of x ≡ Some u) (h : ℕ) (high : h ≡ target_height t) where
    pub assigned_high : max_height < least_height h u → assigned max_height t w ≡ Err (TooHigh, w)
    assigned_high lt =
        assigned_is (Some u) does
        ∙ ap (λ b. cond b (Err (TooHigh, x ∷ m)) (value_by max_height t u m >>= λ v. Ok (record { target = t; value = v.0 }, v.1)))
        (ap (λ h. nat_lt max_height (least_height h u)) (sym high) ∙ lt-ltb max_height (least_height h u) lt)
        ∙ ap (λ v. Err (TooHigh, v)) (sym front)

    pub assigned_value : least_height h u ≤ max_height
        → assigned max_height t w ≡ (value_by max_height t u m >>= λ v. Ok (record { target = t; value = v.0 }, v.1))
    assigned_value le =
        assigned_is (Some u) does
        ∙ ap (λ b. cond b (Err (TooHigh, x ∷ m)) (value_by max_height t u m >>= λ v. Ok (record { target = t; value = v.0 }, v.1)))
        (ap (λ h. nat_lt max_height (least_height h u)) (sym high) ∙ le-ltb max_height (least_height h u) le)

-- an `if` whose test and body were read
module _ (h : ℕ) (inner : Inner) (p : Span) (w : List Token) (e : Tree) (r : List Token) (s : StatementTree) (r2 : List Token)
    (tested : parenthesised h w ≡ Ok (e, r)) (held : inner r ≡ Ok (s, r2)) where
  if_at : if_step h inner p w ≡ else_step inner p e s r2
  unfolding if_step
  if_at =
      ap (λ o. o >>= λ e. inner e.1 >>= λ s. else_step inner p e.0 s.0 s.1) tested
      ∙ ap (λ o. o >>= λ s. else_step inner p e s.0 s.1) held

  pub if_alone : at_sign signs.Else r2 ≡ false → if_step h inner p w ≡ Ok (branch p e s, r2)
  if_alone f = if_at ∙ ap (λ b. cond b (expect signs.Else r2 >>= λ a. inner a.1 >>= λ t. Ok (choice p e s t.0, t.1)) (Ok (branch p e s, r2))) f

  pub if_chosen : (q : Span) (r3 : List Token) (t : StatementTree) (r4 : List Token) → at_sign signs.Else r2 ≡ true → expect signs.Else r2 ≡ Ok
      (q, r3) → inner r3 ≡ Ok (t, r4) → if_step h inner p w ≡ Ok (choice p e s t, r4)
  if_chosen q r3 t r4 f g k =
      if_at
      ∙ ap (λ b. cond b (expect signs.Else r2 >>= λ a. inner a.1 >>= λ t. Ok (choice p e s t.0, t.1)) (Ok (branch p e s, r2))) f
      ∙ ap (λ o. o >>= λ a. inner a.1 >>= λ t. Ok (choice p e s t.0, t.1)) g
      ∙ ap (λ o. o >>= λ t. Ok (choice p e s t.0, t.1)) k

-- what stopped one step stops another that begins with it
pub passes : {Y Z : Type 0} (s : Stopped) (o : Outcome Y) (u : Outcome Z) (k n : ℕ) →
    ((p : ParseProblem) (r : List Token) → o ≡ Err (p, r) → u ≡ Err (p, r)) → Takes {X = Y × List Token} (λ v. v) (Err s) o k → Takes {X = Z × List Token}
    (λ v. v) (Err s) u n
passes Memory o u k n f t = tt
passes (At p r) o u k n f t = f p r.now t

pub passes_on : {Y Z : Type 0} (s : Stopped) (o : Outcome Y) (u : Outcome Z) (k : ℕ) →
    ((p : ParseProblem) (r : List Token) → o ≡ Err (p, r) → u ≡ Err (p, r)) → Takes {X = Y × List Token} (λ v. v) (Err s) o k → Gives {X = Z × List Token}
    (λ v. v) (Err s) u
passes_on Memory o u k f t = tt
passes_on (At p r) o u k f t = f p r.now t

-- what was found stays, where what closes it stands after it
pub closed_takes : {A B Y Z : Type 0} (found : A) (close : Result (B × Bor (List Token)) Stopped) (r : Result (A × Bor (List Token)) Stopped)
    (view : A → Y) (seen : B → Z) (o : Outcome Z) (k n : ℕ) → k ≤ n → Closed found close r → Gives (λ x. (seen x.0, x.1.now)) close o → IfOk close
    (λ x. length x.1.now < k) → Takes (λ x. (view x.0, x.1.now)) r (o >>= λ b. Ok (view found, b.1)) n
closed_takes found close (Ok x) view seen o k n le c g l =
    let shorter : length x.1.now < k = subst (λ z. IfOk z (λ x. length x.1.now < k)) c.1.1 l in (
      ap (λ o. o >>= λ b. Ok (view found, b.1)) (subst (λ z. Gives (λ x. (seen x.0, x.1.now)) z o) c.1.1 g)
          ∙ ap (λ a. Ok (view a, x.1.now)) (sym c.0),
      omega (arith, shorter, le),
    )
closed_takes found close (Err Memory) view seen o k n le c g l = tt
closed_takes found close (Err (At p r)) view seen o k n le c g l =
    ap (λ o. o >>= λ b. Ok (view found, b.1)) (subst (λ z. Gives (λ x. (seen x.0, x.1.now)) z o) c g)

-- what is known of it where it was read
pub taken : {B Y : Type 0} (view : B → Y) (r : Result (B × Bor (List Token)) Stopped) (o : Outcome Y) (n : ℕ) (x : B × Bor (List Token)) → r ≡ Ok x →
    Takes (λ x. (view x.0, x.1.now)) r o n → (o ≡ Ok (view x.0, x.1.now)) × (length x.1.now < n)
taken view r o n x e t = subst (λ z. Takes (λ x. (view x.0, x.1.now)) z o n) e t

-- a leader that leads a statement that holds none
pub led_short : (l : Leader) (max_height : ℕ) (lower : Bool → Inner) (in_loop : Bool) (p : Span) (m : List Token) → (l ≡ leaders.Block → ⊥) →
    (l ≡ leaders.If → ⊥) → (l ≡ leaders.While → ⊥) → (l ≡ leaders.DoWhile → ⊥) → (l ≡ leaders.For → ⊥)
    → led l max_height lower in_loop p m ≡ short l max_height p
    m
unfolding led
led_short leaders.Block max_height lower in_loop p m a b c d e = absurd (a refl)
led_short leaders.If max_height lower in_loop p m a b c d e = absurd (b refl)
led_short leaders.While max_height lower in_loop p m a b c d e = absurd (c refl)
led_short leaders.DoWhile max_height lower in_loop p m a b c d e = absurd (d refl)
led_short leaders.For max_height lower in_loop p m a b c d e = absurd (e refl)
led_short l max_height lower in_loop p m a b c d e = refl

pub variables_go : (found : List DomainVariable) (w : List Token) → at_sign signs.Comma w ≡ true → length found < 4 → no_more_variables found w ≡ false
variables_go found w e l = ap (λ b. not (b && nat_lt (length found) 4)) e ∙ ap not (lt-ltb (length found) 4 l)

pub variables_alone : (found : List DomainVariable) (w : List Token) → at_sign signs.Comma w ≡ false → no_more_variables found w ≡ true
variables_alone found w e = ap (λ b. not (b && nat_lt (length found) 4)) e

pub variables_full : (found : List DomainVariable) (w : List Token) → 4 ≤ length found → no_more_variables found w ≡ true
variables_full found w l = ap (λ b. not (at_sign signs.Comma w && b)) (le-ltb (length found) 4 l) ∙ go (at_sign signs.Comma w)
  where
    go : (b : Bool) → not (b && false) ≡ true
    go true = refl
    go false = refl

-- what stops after a comma
pub comma_fails : {A : Type 0} (inner : List Token → Outcome A) (w r r2 : List Token) (q : Span) (p : ParseProblem) → expect signs.Comma w ≡ Ok (q, r)
    → inner r ≡ Err (p, r2) → comma_then inner w ≡ Err (p, r2)
comma_fails inner w r r2 q p e f = ap (λ o. o >>= λ a. inner a.1) e ∙ f

pub comma_reads : {A : Type 0} (inner : List Token → Outcome A) (w r r2 : List Token) (q : Span) (a : A) → expect signs.Comma w ≡ Ok (q, r)
    → inner r ≡ Ok (a, r2) → comma_then inner w ≡ Ok (a, r2)
comma_reads inner w r r2 q a e f = ap (λ o. o >>= λ a. inner a.1) e ∙ f

-- what reads past a token reads past the tokens that it began
pub takes_less : {B Y : Type 0} (view : B → Y) (r : Result (B × Bor (List Token)) Stopped) (o : Outcome Y) (k n : ℕ) → k ≤ n → Takes
    (λ x. (view x.0, x.1.now)) r o k → Takes (λ x. (view x.0, x.1.now)) r o n
takes_less view (Ok x) o k n le t = let l = t.1 in (t.0, omega (arith, l, le))
takes_less view (Err Memory) o k n le t = tt
takes_less view (Err (At p r)) o k n le t = t
