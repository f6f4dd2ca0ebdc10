-- Operators of one level after a left operand, and the levels one over another.
use Rattle.std.proofs.Common.{◌≡◌, ℕ, zero, suc, ◌-◌, ◌<◌, ◌≤◌, List, [], ◌∷◌, ◌++◌, ◌⊎◌, inl, inr, refl, sym, ap, ◌∙◌, subst, append_assoc}
use Rattle.std.proofs.Common.{append-nil, Ok, Err, Option, Some, None, length, arith, true, false, cond}
use Rattle.std.specs.Prelude.{nat_le}
use Rattle.std.proofs.lemmas.Bool.{leb-true, leb-false, lt-ltb, cases_lt}
use Rattle.sc_text.specs.declared.span.Span.{Span}
use Rattle.secrec_lexer.specs.Tokens.{IsEnded}
use Rattle.secrec_lexer.specs.declared.token.TokenKind.{TokenKind}
use Rattle.secrec_lexer.specs.declared.token.TokenKind.TheVariants as kinds
use Rattle.secrec_lexer.specs.declared.token.Token.{Token}
use Rattle.program_trees.specs.declared.expression.Operator.{Operator}
use Rattle.program_trees.specs.Tree.{Tree, number, truth, variable, call, index, parentheses, negation, cast, binary, declassify, argument, publish}
use Rattle.program_trees.specs.Heights.{height, place_of}
use Rattle.expression_parser.specs.declared.problem.ParseProblem.{ParseProblem}
use Rattle.expression_parser.specs.declared.problem.ParseProblem.TheVariants.{Unexpected, TooHigh}
use Rattle.expression_parser.specs.Phrases.{Phrase, token, sign_at}
use Rattle.expression_parser.specs.Grammar.{IsExpression, sign_of, level, loosest, unary}
use Rattle.expression_parser.specs.Follow.{goes_on, Free}
use Rattle.expression_parser.specs.Steps.{Outcome, ◌>>=◌, least, why_not, unless, unary_at, unary_of, operator_at, at_level, grow, grow_at, climb, at_most}
use Rattle.expression_parser.proofs.Reading.{Good, Bad, Reads, Then, Only, Stops, cons_head, bind_reads, pure_reads, reads_as}
use Rattle.expression_parser.proofs.Tokens.{Any, choose, any_stops, good_ended, good_shorter, head_kind, token_then}
use Rattle.expression_parser.proofs.Operators.{at_level-own, same_sign, operator_is, not_free, free_below, tighter}
use Rattle.expression_parser.proofs.Nodes.{Low, tall, leaf, leaf_token, start_bad, least_positive}
use Rattle.expression_parser.proofs.Unaries.{unary_reads}

-- e is a with operators of level k + 1 and their right operands after it, which these tokens spell
data Grows (k : ℕ) : Tree → Tree → List Token → Type 0 where
  stop : {a e : Tree} {ts : List Token} → e ≡ a → ts ≡ [] → Grows k a e ts
  go : {a e : Tree} {ts : List Token} (op : Operator) (b : Tree) (q : Span) (s t : List Token) → level op ≡ suc k
      → ts ≡ token q (kinds.Sign (sign_of op)) ∷ (s ++ t) → IsExpression k b s → Grows k (binary (place_of a) op a b) e t → Grows k a e ts

grows_more : (k : ℕ) {a e : Tree} {t : List Token} → Grows k a e t → (op : Operator) (b : Tree) (q : Span) (s : List Token) → level op ≡ suc k
    → IsExpression k b s → Grows k a (binary (place_of e) op e b) (t ++ token q (kinds.Sign (sign_of op)) ∷ s)
grows_more k {a = a} {e = e} {t = t} (stop f n) op b q s l v =
    go op b q s [] l (ap (λ l. l ++ token q (kinds.Sign (sign_of op)) ∷ s) n ∙ ap (λ l. token q (kinds.Sign (sign_of op)) ∷ l) (sym (append-nil s))) v
    (stop (ap (λ z. binary (place_of z) op z b) f) refl)
grows_more k (go op2 b2 q2 s2 t2 l2 e2 v2 g) op b q s l v =
    go op2 b2 q2 s2 (t2 ++ token q (kinds.Sign (sign_of op)) ∷ s) l2
    (ap (λ l. l ++ token q (kinds.Sign (sign_of op)) ∷ s) e2
    ∙ ap (λ l. token q2 (kinds.Sign (sign_of op2)) ∷ l) (append_assoc s2 t2 (token q (kinds.Sign (sign_of op)) ∷ s))) v2 (grows_more k g op b q s l v)

grown : (k : ℕ) {a e : Tree} {ts : List Token} → Grows k a e ts → (s : List Token) → IsExpression (suc k) a s → IsExpression (suc k) e (s ++ ts)
grown k {a = a} {ts = ts} (stop f n) s v =
    subst (λ z. IsExpression (suc k) z (s ++ ts)) (sym f) (subst (λ l. IsExpression (suc k) a l) (sym (ap (λ l. s ++ l) n ∙ append-nil s)) v)
grown k {a = a} {e = e'} (go op b q s2 t l e w g) s v =
    let d : k ≡ level op - 1 = omega arith in
    let one_more : IsExpression (suc k) (binary (place_of a) op a b) (s ++ token q (kinds.Sign (sign_of op)) ∷ s2) = (
      omega arith,
      refl,
      (
        s,
        token q (kinds.Sign (sign_of op)) ∷ s2,
        refl,
        subst (λ n. IsExpression n a s) (sym l) v,
        (token q (kinds.Sign (sign_of op)) ∷ [], s2, refl, (q, refl), subst (λ n. IsExpression n b s2) d w),
      ),
    ) in
    let i = grown k g (s ++ token q (kinds.Sign (sign_of op)) ∷ s2) one_more in
    subst (λ l. IsExpression (suc k) e' l) (append_assoc s (token q (kinds.Sign (sign_of op)) ∷ s2) t ∙ ap (λ l. s ++ l) (sym e)) i

higher : (k : ℕ) {a e : Tree} {t : List Token} → Grows k a e t → height a ≤ height e
higher k {a = a} (stop f n) = let e : height a ≤ height a = omega arith in subst (λ z. height a ≤ height z) (sym f) e
higher k (go op b q s t l e v g) = let h = higher k g in omega arith

abbrev LevelPhrase : ℕ → Tree → Phrase
LevelPhrase k = Then (IsExpression k) (Grows k)

alone : (k : ℕ) (c : Tree) (s : List Token) → IsExpression k c s → LevelPhrase k c s
alone k c s v = (c, s, [], sym (append-nil s), v, stop refl refl)

-- a tree of level k + 1 is one of level k that has grown
level_down : (k : ℕ) (e : Tree) (s : List Token) → IsExpression (suc k) e s → LevelPhrase k e s
level_down k (binary p op a b) s v = split (cases_lt (level op) (suc k)) (λ l. level_down k a v.2.0 (subst (λ n. IsExpression n a v.2.0) l v.2.3))
  where
    split : (level op < suc k) ⊎ (suc k ≤ level op) → (level op ≡ suc k → LevelPhrase k a v.2.0) → LevelPhrase k (binary p op a b) s
    split (inl lt) ih = (binary p op a b, s, [], sym (append-nil s), (omega arith, v.1, v.2), stop refl refl)
    split (inr ge) ih =
        let l : level op ≡ suc k = let f = v.0 in omega arith in
        let w = v.2 in
        let i = ih l in
        let u = w.4 in
        let d : level op - 1 ≡ k = omega arith in
        let q = u.3 in
        let whole : s ≡ i.1 ++ (i.2 ++ token q.0 (kinds.Sign (sign_of op)) ∷ u.1) =
        w.2 ∙ ap (λ l. w.0 ++ l) (u.2 ∙ ap (λ l. l ++ u.1) q.1) ∙ ap (λ l. l ++ token q.0 (kinds.Sign (sign_of op)) ∷ u.1) i.3
        ∙ append_assoc i.1 i.2 (token q.0 (kinds.Sign (sign_of op)) ∷ u.1) in
        let g = grows_more k i.5 op b q.0 u.1 l (subst (λ n. IsExpression n b u.1) d u.4) in
        subst (λ z. LevelPhrase k (binary z op a b) s) (sym v.1) (i.0, i.1, i.2 ++ token q.0 (kinds.Sign (sign_of op)) ∷ u.1, whole, i.4, g)
level_down k (number p n) s v = alone k (number p n) s v
level_down k (truth p true) s v = alone k (truth p true) s v
level_down k (truth p false) s v = alone k (truth p false) s v
level_down k (variable p x) s v = alone k (variable p x) s v
level_down k (call p x es) s v = alone k (call p x es) s v
level_down k (index p a i) s v = alone k (index p a i) s v
level_down k (parentheses p e) s v = alone k (parentheses p e) s v
level_down k (negation p e) s v = alone k (negation p e) s v
level_down k (cast p t e) s v = alone k (cast p t e) s v
level_down k (declassify p e) s v = alone k (declassify p e) s v
level_down k (argument p x) s v = alone k (argument p x) s v
level_down k (publish p x e) s v = alone k (publish p x e) s v

looser : (k : ℕ) (e : Tree) (s : List Token) → IsExpression k e s → IsExpression (suc k) e s
looser k (binary p op a b) s v = (let f = v.0 in omega arith, v.1, v.2)
looser k (number p n) s v = v
looser k (truth p true) s v = v
looser k (truth p false) s v = v
looser k (variable p x) s v = v
looser k (call p x es) s v = v
looser k (index p a i) s v = v
looser k (parentheses p e) s v = v
looser k (negation p e) s v = v
looser k (cast p t e) s v = v
looser k (declassify p e) s v = v
looser k (argument p x) s v = v
looser k (publish p x e) s v = v

level_up : (k : ℕ) (e : Tree) (s : List Token) → LevelPhrase k e s → IsExpression (suc k) e s
level_up k e s v = subst (IsExpression (suc k) e) (sym v.3) (grown k v.5 v.1 (looser k v.0 v.1 v.4))

tighter_stops : (k : ℕ) (c d : Tree) (m : List Token) → Stops (Free (suc k) c) m → Stops (Free k d) m
tighter_stops k c d [] h = h
tighter_stops k c d (x ∷ m) h = tighter k x.kind h

grows_first : (k : ℕ) {a e : Tree} {t : List Token} → Grows k a e t → (b : Tree) (m : List Token) → Stops (Free (suc k) e) m → Stops (Free k b) (t ++ m)
grows_first k {e = e} (stop f n) b m st = subst (λ l. Stops (Free k b) (l ++ m)) (sym n) (tighter_stops k e b m st)
grows_first k (go op b q s t l e v g) d m st = subst (λ l. Stops (Free k d) (l ++ m)) (sym e) (free_below op k (omega arith))

module _ (k h : ℕ) (operand : List Token → Outcome Tree)
    (reads_operand : (w : List Token) → IsEnded w → Reads (IsExpression k) (Low h) (Free k) w (operand w)) where
  -- no operator of the level follows
  grown_down : (a c : Tree) (s m m2 : List Token) (x : Token) → at_level (suc k) (operator_at x.kind) ≡ None → Grows k a c s → s ++ m ≡ x ∷ m2 → Only a c s
  grown_down a c s m m2 x o (stop f n) eq = (f, n)
  grown_down a c s m m2 x o (go op b q s2 t l e v g) eq =
      let f : kinds.Sign (sign_of op) ≡ x.kind = head_kind s (s2 ++ t) m m2 q (kinds.Sign (sign_of op)) x e eq in
      let here : at_level (suc k) (operator_at x.kind) ≡ Some op =
      ap (λ z. at_level (suc k) (operator_at z)) (sym f) ∙ ap (λ n. at_level n (operator_at (kinds.Sign (sign_of op)))) (sym l) ∙ at_level-own op in
      let both : None ≡ Some op = sym o ∙ here in cc

  alone_reads : (a : Tree) (x : Token) (m : List Token) → at_level (suc k) (operator_at x.kind) ≡ None → Low (suc h) a
      → Good (Grows k a) (Low (suc h)) (Free (suc k)) (x ∷ m) a (x ∷ m)
  alone_reads a x m o low =
      reads_as (Only a) (Grows k a) (Low (suc h)) Any (Free (suc k)) x (λ c s v. stop v.0 v.1) (λ c s m' m2 v st eq. grown_down a c s m' m2 x o v eq)
      (λ c m' st. any_stops (Free (suc k) c) [] m' st) (x ∷ m) m (Ok (a, x ∷ m)) refl
      (pure_reads (Low (suc h)) Any (x ∷ m) x m a refl low)

  abbrev StepPhrase : Tree → Operator → Tree → Phrase
  StepPhrase a op = Then (λ q. sign_at q (sign_of op)) (λ q. Then (IsExpression k) (λ b. Grows k (binary (place_of a) op a b)))

  step_up : (a : Tree) (op : Operator) → level op ≡ suc k → (c : Tree) (s : List Token) → StepPhrase a op c s → Grows k a c s
  step_up a op l c s v =
      let b = v.5 in
      go op b.0 v.0 b.1 b.2 l (v.3 ∙ ap (λ l. l ++ v.2) v.4 ∙ ap (λ l. token v.0 (kinds.Sign (sign_of op)) ∷ l) b.3) b.4 b.5

  stop_absurd : (op : Operator) (c : Tree) (m : List Token) (x : Token) (m2 : List Token) → level op ≡ suc k → x.kind ≡ kinds.Sign (sign_of op)
      → Stops (Free (suc k) c) m → m ≡ x ∷ m2 → ⊥
  stop_absurd op c [] x m2 l e st eq = st
  stop_absurd op c (y ∷ m) x m2 l e st eq =
      let f : y.kind ≡ kinds.Sign (sign_of op) = ap (λ (t : Token). t.kind) (cons_head eq) ∙ e in
      not_free op (suc k) (omega arith) (ap (goes_on (suc k)) (sym f) ∙ st)

  step_down : (a : Tree) (op : Operator) (c : Tree) (s m m2 : List Token) (x : Token) → level op ≡ suc k → x.kind ≡ kinds.Sign (sign_of op)
      → Grows k a c s → Stops (Free (suc k) c) m → s ++ m ≡ x ∷ m2 → StepPhrase a op c s
  step_down a op c s m m2 x l e (stop f n) st eq = absurd (stop_absurd op c m x m2 l e st (ap (λ l. l ++ m) (sym n) ∙ eq))
  step_down a op c s m m2 x l e (go op2 b q s2 t l2 e2 v g) st eq =
      let f : kinds.Sign (sign_of op2) ≡ kinds.Sign (sign_of op) = head_kind s (s2 ++ t) m m2 q (kinds.Sign (sign_of op2)) x e2 eq ∙ e in
      let f2 : sign_of op2 ≡ sign_of op = cc in
      let same : op2 ≡ op = same_sign op2 op f2 in
      subst (λ z. StepPhrase a z c s) same (q, token q (kinds.Sign (sign_of op2)) ∷ [], s2 ++ t, e2, refl, (b, s2, t, refl, v, g))

  too_high : (a : Tree) (op : Operator) (x : Token) (m : List Token) → level op ≡ suc k → x.kind ≡ kinds.Sign (sign_of op) → suc h ≤ height a
      → Bad (Grows k a) (Low (suc h)) (Free (suc k)) (x ∷ m) TooHigh (x ∷ m)
  too_high a op x m l e tall_a = record {
    s = [];
    x = x;
    m = m;
    split = refl;
    rest = refl;
    before = inl refl;
    never = λ c s' m' m2 v al st eq.
        let d = step_down a op c s' m' m2 x l e v st eq in
        let up = higher k d.5.5 in
        omega arith;
    begun = (
      binary (place_of a) op a leaf,
      leaf_token ∷ [],
      go op leaf x.place (leaf_token ∷ []) [] l (ap (λ z. token x.place z ∷ leaf_token ∷ []) e) refl (stop refl refl),
    );
  }

  grow_reads : (n : ℕ) (a : Tree) (w : List Token) → length w ≤ n → IsEnded w → Low (suc h) a
      → Reads (Grows k a) (Low (suc h)) (Free (suc k)) w (grow (suc k) (suc h) operand n a w)
  unfolding grow
  grow_reads n a [] le en low = cc
  grow_reads zero a (x ∷ m) le en low = absurd (omega arith)
  grow_reads (suc n) a (x ∷ m) le en low =
      at (at_level (suc k) (operator_at x.kind)) refl (λ op b r enr le2 low2. grow_reads n (binary (place_of a) op a b) r (omega arith) enr low2)
    where
      at : (o : Option Operator) → at_level (suc k) (operator_at x.kind) ≡ o
          → ((op : Operator) (b : Tree) (r : List Token) → IsEnded r → length r ≤ length m → Low (suc h) (binary (place_of a) op a b)
          → Reads (Grows k (binary (place_of a) op a b)) (Low (suc h)) (Free (suc k)) r
          (grow (suc k) (suc h) operand n (binary (place_of a) op a b) r))
          → Reads (Grows k a) (Low (suc h)) (Free (suc k)) (x ∷ m) (grow_at (suc h) operand (grow (suc k) (suc h) operand n) a o x m)
      at None o ih = alone_reads a x m o low
      at (Some op) o ih = choose (Grows k a) (Low (suc h)) (Free (suc k)) (x ∷ m) (nat_le (suc h) (height a)) _ _
          (λ t. too_high a op x m i.1 i.0 (leb-true (suc h) (height a) t)) max_height
        where
          i : (x.kind ≡ kinds.Sign (sign_of op)) × (level op ≡ suc k)
          i = operator_is (suc k) x.kind op o

          max_height : nat_le (suc h) (height a) ≡ false
              → Reads (Grows k a) (Low (suc h)) (Free (suc k)) (x ∷ m) (operand m >>= λ b. grow (suc k) (suc h) operand n (binary (place_of a) op a b.0) b.1)
          max_height t =
              let i = operator_is (suc k) x.kind op o in
              let fits = leb-false (suc h) (height a) t in
              let one_a = tall a in
              let o2 = operand m >>= λ b. grow (suc k) (suc h) operand n (binary (place_of a) op a b.0) b.1 in
              reads_as (StepPhrase a op) (Grows k a) (Low (suc h)) (Free (suc k)) (Free (suc k)) x (step_up a op i.1)
              (λ c s m' m2 v st eq. step_down a op c s m' m2 x i.1 i.0 v st eq) (λ c m' st. st) (x ∷ m) m o2 refl
              (token_then (kinds.Sign (sign_of op)) (λ q. Then (IsExpression k) (λ b. Grows k (binary (place_of a) op a b))) (Low (suc h)) (Free (suc k)) refl
              (λ p. (binary (place_of a) op a leaf, leaf_token ∷ [], (leaf, leaf_token ∷ [], [], refl, refl, stop refl refl), omega arith))
              x m o2 i.0 en
              (λ en2. bind_reads (IsExpression k) (Low h) (Free k) (λ b. Grows k (binary (place_of a) op a b)) (Low (suc h)) (Free (suc k))
              (λ b c t u f. let up = higher k u in omega arith)
              (λ b c t m' u st. grows_first k u b m' st)
              (λ b s u f. (binary (place_of a) op a b, [], stop refl refl, omega arith))
              (λ b s u. (binary (place_of a) op a b, [], stop refl refl))
              m (operand m) (λ b. grow (suc k) (suc h) operand n (binary (place_of a) op a b.0) b.1) (reads_operand m en2)
              (λ b r g. let low_b = g.fits in ih op b r (good_ended g en2) (good_shorter g) (omega arith))))

-- the levels, where lower reads expressions of the height that is left below a node
climb_reads : (h : ℕ) (lower : ℕ → List Token → Outcome Tree)
    → ((k : ℕ) (w : List Token) → IsEnded w → Reads (IsExpression k) (Low h) (Free k) w (lower k w)) → (k : ℕ) (w : List Token) → IsEnded w
    → Reads (IsExpression k) (Low (suc h)) (Free k) w (climb (suc h) lower k w)
unfolding climb
climb_reads h lower ih zero w en = unary_reads h (lower loosest) (lower unary) (ih loosest) (ih unary) w en
climb_reads h lower ih (suc k) [] en = cc
climb_reads h lower ih (suc k) (x ∷ m) en =
    let o = climb (suc h) lower k (x ∷ m) >>= λ a. grow (suc k) (suc h) (lower k) (length a.1) a.0 a.1 in
    reads_as (LevelPhrase k) (IsExpression (suc k)) (Low (suc h)) (Free (suc k)) (Free (suc k)) x (level_up k)
    (λ c s m' m2 v st eq. level_down k c s v) (λ c m' st. st) (x ∷ m) m o refl
    (bind_reads (IsExpression k) (Low (suc h)) (Free k) (Grows k) (Low (suc h)) (Free (suc k))
    (λ a c t u f. let up = higher k u in omega arith)
    (λ a c t m' u st. grows_first k u a m' st)
    (λ a s u f. (a, [], stop refl refl, f))
    (λ a s u. (a, [], stop refl refl))
    (x ∷ m) (climb (suc h) lower k (x ∷ m)) (λ a. grow (suc k) (suc h) (lower k) (length a.1) a.0 a.1) (climb_reads h lower ih k (x ∷ m) en)
    (λ a r g. grow_reads k h (lower k) (ih k) (length r) a r (omega arith) (good_ended g en) g.fits))

-- where no node has room, nothing begins
nothing_fits : (k : ℕ) (lower : ℕ → List Token → Outcome Tree) (x : Token) (m : List Token) (p : ParseProblem) → why_not 0 (least x.kind) ≡ Some p
    → climb 0 lower k (x ∷ m) ≡ Err (p, x ∷ m)
unfolding climb unary_of
nothing_fits zero lower x m p e = ap (λ o. unless o (x ∷ m) (unary_at 0 (lower loosest) (lower unary) x m)) e
nothing_fits (suc k) lower x m p e = ap (λ o. o >>= λ a. grow (suc k) 0 (lower k) (length a.1) a.0 a.1) (nothing_fits k lower x m p e)

some_problem : (o : Option ℕ) → ((n : ℕ) → o ≡ Some n → 0 < n) → (p : ParseProblem) × (why_not 0 o ≡ Some p)
some_problem None positive = (Unexpected, refl)
some_problem (Some zero) positive = let f = positive 0 refl in absurd (omega arith)
some_problem (Some (suc n)) positive = (TooHigh, ap (λ b. cond b (Some TooHigh) None) (lt-ltb 0 (suc n) (omega arith)))

-- where no node has room, each token is refused
pub nowhere : (kind : TokenKind) → (p : ParseProblem) × (why_not 0 (least kind) ≡ Some p)
nowhere kind = some_problem (least kind) (least_positive kind)

pub at_most_reads : (h k : ℕ) (w : List Token) → IsEnded w → Reads (IsExpression k) (Low h) (Free k) w (at_most h k w)
unfolding at_most
at_most_reads h k [] en = cc
at_most_reads zero k (x ∷ m) en =
    let p = nowhere x.kind in
    subst (Reads (IsExpression k) (Low 0) (Free k) (x ∷ m)) (sym (nothing_fits k (λ j v. Err (TooHigh, v)) x m p.0 p.1)) (start_bad k 0 x m p.0 p.1)
at_most_reads (suc h) k (x ∷ m) en = climb_reads h (at_most h) (at_most_reads h) k (x ∷ m) en

-- the parser of expressions reads the grammar's expressions
pub expression_reads : (max_height : ℕ) (w : List Token) → IsEnded w
    → Reads (IsExpression loosest) (Low max_height) (Free loosest) w (at_most max_height loosest w)
expression_reads max_height w en = at_most_reads max_height loosest w en
